-- The rows of `check`, as they are read.
use Rattle.std.specs.Prelude.{ℕ, zero, suc, ◌<◌, ◌≤◌, cond, List, [], ◌∷◌, ◌++◌, ◌≡◌, ltb, eqb, length}
use Rattle.bitml.specs.Rows.{Row}
use Rattle.fields.specs.Field.{spelled, when_read, below_at, between_at, first_at, line_end_at}
use Rattle.fields.specs.Field.{Got}
use Rattle.fields.specs.Field.{Value, Bad}
use Rattle.tables.specs.Entries.{node_in}
use Rattle.buffer.specs.Buffer.{row, rows_of, past_rows}
use Rattle.requests.specs.RowLine.{RowLine}
use Rattle.requests.specs.RowLine as line

abbrev pub most_rank : ℕ
most_rank = 65_535

abbrev pub most_rows : ℕ
most_rows = 512

-- ---- reading, for a sheet of so many nodes, of which each has its count of branches

-- as a table has them
abbrev pub count_in : List ℕ → ℕ → ℕ
count_in t n = (node_in t n).count

-- a row that document 01 allows: its node and branch are there, its rank is "1 to 65,535"
pub record RowFits (counts : ℕ → ℕ) (nodes : ℕ) (r : Row) : Type 0 where
  pub has-node : r.node < nodes
  pub has-branch : r.branch < counts r.node
  pub has-rank : 1 ≤ r.rank
  pub rank_most : r.rank ≤ most_rank

-- what was read: the rows before the request's end or the first refusal, and how many, or the refusal
pub record Rows : Type 0 where
  pub rows : List Row
  pub answer : Got

abbrev pub rows_with : List Row → Got → Rows
rows_with xs g = record { rows = xs; answer = g }

module _ (s : List ℕ) (counts : ℕ → ℕ) (nodes : ℕ) where
  -- "lines `row`,node,branch,rank (1 to 65,535)": 6 where there is no such node, or it has no such branch
  unfoldable pub row_numbers_at : ℕ → RowLine
  row_numbers_at at =
      when_read line.Bad (below_at s at nodes) λ n e.
      when_read line.Bad (below_at s e (counts n)) λ b f.
      when_read line.Bad (between_at s f 1 most_rank) λ k q.
      when_read line.Bad (line_end_at s q) λ v z. line.Row n b k z

  unfoldable pub row_at : ℕ → RowLine
  row_at at = when_read line.Bad (first_at s at) λ w e. cond (eqb w (spelled "row")) (row_numbers_at e) (line.Bad 3 at)

-- "512 rows passed (.. rows at the word `row`, ..)"
unfoldable pub no_room_at : List ℕ → ℕ → Got
no_room_at s at = when_read Bad (first_at s at) λ w e. cond (eqb w (spelled "row")) (Bad 7 at) (Bad 3 at)

-- one line more, and the lines after it
unfoldable pub with_line : List Row → (List Row → ℕ → Rows) → RowLine → Rows
with_line xs go (line.Row n b k e) = go (xs ++ (row n b k ∷ [])) e
with_line xs go (line.Bad n p) = rows_with xs (Bad n p)

-- after the rows xs, with room for so many more
unfoldable pub rows_from : List ℕ → (ℕ → ℕ) → ℕ → ℕ → List Row → ℕ → Rows
rows_from s counts nodes zero xs at = cond (ltb at (length s)) (rows_with xs (no_room_at s at)) (rows_with xs (Value (length xs) at))
rows_from s counts nodes (suc left) xs at =
    cond (ltb at (length s)) (with_line xs (rows_from s counts nodes left) (row_at s counts nodes at)) (rows_with xs (Value (length xs) at))

-- "up to 512 lines `row`", from the position after the line of `check`
unfoldable pub rows_at : List ℕ → (ℕ → ℕ) → ℕ → ℕ → Rows
rows_at s counts nodes at = rows_from s counts nodes most_rows [] at

-- the answer is what was read, and a buffer that was u₀ has become u: the rows "as given", and past them what it held
pub record RowsHeld (want : Rows) (r : Got) (u₀ u : List ℕ) : Type 0 where
  pub answer : r ≡ want.answer
  pub rows : rows_of (length want.rows) u ≡ want.rows
  pub rest : past_rows (length want.rows) u ≡ past_rows (length want.rows) u₀
