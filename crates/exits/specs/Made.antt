-- The answer and the row buffer, by what the published rule makes. Assumes nothing.
use Rattle.std.specs.Prelude.{ℕ, Bool, List, [], map, length, get_or, eqb, ltb}
use Rattle.bitml.specs.Lists.{◌&◌, keep, below}
use Rattle.bitml.specs.Rows.{Row, rank_of}
use Rattle.bitml.specs.Rule as rule
use Rattle.bitml.specs.Rule.{liquid, frozen}
use Rattle.buffer.specs.Buffer.{row, filled}
use Rattle.exits.specs.declared.Verdict.{Verdict}
use Rattle.exits.specs.declared.Verdict.TheVariants.{Liquid, Frozen}

-- "`liquid` has participant, rows, rank of node 0; `frozen` has participant, node"
unfoldable pub answer_of : rule.Verdict → Verdict
answer_of (liquid R) = Liquid (length R) (rank_of R 0)
answer_of (frozen n) = Frozen n

-- "it is wholly zero after .. `frozen`"
unfoldable pub buffer_of : ℕ → rule.Verdict → List ℕ
buffer_of n (liquid R) = filled n R
buffer_of n (frozen m) = filled n []

-- ---- by the work arrays: marks M, ranks R, chosen branches B

unfoldable pub stuck_by : List ℕ → List ℕ → ℕ → Bool
stuck_by M R n = ltb 0 (get_or M n 0) & eqb (get_or R n 0) 0

unfoldable pub marked_by : List ℕ → ℕ → Bool
marked_by M n = ltb 0 (get_or M n 0)

unfoldable pub row_by : List ℕ → List ℕ → ℕ → Row
row_by R B n = row n (get_or B n 0) (get_or R n 0)

unfoldable pub rows_by : List ℕ → List ℕ → List ℕ → ℕ → List Row
rows_by M R B n = map (row_by R B) (keep (marked_by M) (below n))
