-- Rows as given, in a buffer of numbers, judged by the array of their ranks. Assumes nothing.
use Rattle.std.specs.Prelude.{ℕ, suc, ◌*◌, ◌≤◌, ◌<◌, Bool, cond, List, [], map, length, get_or, leb, eqb, Result, Ok, Err}
use Rattle.bitml.specs.Lists.{ask, sum, every}
use Rattle.bitml.specs.Runs.{own, next}
use Rattle.bitml.specs.Rows as bitml
use Rattle.bitml.specs.Rows.{Row, rank_of}
use Rattle.tables.specs.Entries.{Entries, held}
use Rattle.tables.specs.SheetOf.{sheet_of, branch_of, branch_number, branch_numbers, part_numbers}
use Rattle.buffer.specs.Buffer.{row_wide, row_in, filled}
use Rattle.requests.specs.Rows.{RowFits, count_in, most_rows}
use Rattle.refusals.specs.Numbers.{number}
use Rattle.order.specs.Nodes.{has_by}
use Rattle.order.specs.declared.Fault.{Fault}
use Rattle.rows.specs.declared.Accepted.{Accepted}

-- "up to 512 lines `row`,node,branch,rank (1 to 65,535)": what the reader promises of n rows
pub record RowsFit (t u : List ℕ) (n : ℕ) : Type 0 where
  pub few : n ≤ most_rows
  pub long : row_wide * n ≤ length u
  pub each : (i : ℕ) → i < n → RowFits (count_in t) (length (held t).nodes) (row_in u i)

-- ---- by the array A of ranks

-- "all contracts of .. branches, and the roots they renew as, have rows": of branch entry b
unfoldable pub next_by : ℕ → Entries → List ℕ → ℕ → Bool
next_by K E A b = every (has_by A) (next (sheet_of K E) (branch_of E b).action)

unfoldable pub rank_sum : List ℕ → List ℕ → ℕ
rank_sum A ms = sum (map (λ m. get_or A m 0) ms)

-- "11, 12, 13" of a row
unfoldable pub fault_by : ℕ → Entries → ℕ → List ℕ → Row → ℕ
fault_by K E p A r =
    ask (every (next_by K E A) (branch_numbers E r.node)) 11
    (ask (own (sheet_of K E) p r.node (branch_of E (branch_number E r.node r.branch))) 12
    (ask (leb (suc (rank_sum A (part_numbers E (branch_number E r.node r.branch)))) r.rank) 13
    0))

-- ---- the answer

-- "`check` prints the `liquid` line or a refusal"; "`liquid` has participant, rows, rank of node 0"
pub data Checked : Type 0 where
  Liquid : ℕ → ℕ → Checked
  Refused : ℕ → ℕ → Checked

unfoldable pub answer_of : List Row → bitml.Fault → Checked
answer_of R f = cond (eqb f.number 0) (Liquid (length R) (rank_of R 0)) (Refused f.number f.place)

abbrev pub as_checked : Result Accepted Fault → Checked
as_checked (Ok r) = Liquid r.count r.rank
as_checked (Err f) = Refused (number f.refusal) f.place

-- "The row buffer holds the rows (for `check` as given) and is zero past them; it is wholly zero after .. a refused request": a buffer
-- of so many numbers
unfoldable pub buffer_of : ℕ → List Row → bitml.Fault → List ℕ
buffer_of n R f = cond (eqb f.number 0) (filled n R) (filled n [])
