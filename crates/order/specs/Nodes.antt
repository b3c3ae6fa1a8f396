-- The nodes of rows as given, in a buffer of numbers, and the array of their ranks. Assumes nothing.
use Rattle.std.specs.Prelude.{◌≡◌, ℕ, ◌*◌, ◌≤◌, ◌<◌, Bool, not, List, [], length, get_or, eqb, Result, Ok, Err}
use Rattle.bitml.specs.Lists.{All}
use Rattle.bitml.specs.Rows as bitml
use Rattle.bitml.specs.Rows.{Row, rank_of, or_else, repeated, falling}
use Rattle.tables.specs.Entries.{most_nodes}
use Rattle.buffer.specs.Buffer.{row_wide, row_in}
use Rattle.requests.specs.Rows.{most_rank, most_rows}
use Rattle.refusals.specs.Numbers.{number}
use Rattle.order.specs.declared.Fault.{Fault}

-- What the reader promises of n rows, by no table: their nodes are within the array, and no rank is 0
pub record RowsSmall (u : List ℕ) (n : ℕ) : Type 0 where
  pub few : n ≤ most_rows
  pub long : row_wide * n ≤ length u
  pub node : (i : ℕ) → i < n → (row_in u i).node < most_nodes
  pub some : (i : ℕ) → i < n → 0 < (row_in u i).rank
  pub most : (i : ℕ) → i < n → (row_in u i).rank ≤ most_rank

-- A has the rank of each node by the rows R, and 0 where it has no row
pub record Known (R : List Row) (A : List ℕ) : Type 0 where
  pub long : length A ≡ most_nodes
  pub rank : (m : ℕ) → get_or A m 0 ≡ rank_of R m
  pub some : All (λ r. 0 < r.rank) R
  pub most : (m : ℕ) → get_or A m 0 ≤ most_rank

-- Node m has a row
unfoldable pub has_by : List ℕ → ℕ → Bool
has_by A m = not (eqb (get_or A m 0) 0)

-- ---- the answer

abbrev pub as_fault : Fault → bitml.Fault
as_fault f = record { number = number f.refusal; place = f.place }

-- 0 where there is none
abbrev pub fault_told : {A : Type 0} → Result A Fault → bitml.Fault
fault_told (Ok x) = record { number = 0; place = 0 }
fault_told (Err f) = as_fault f

-- "21 when a row's node is below that of the row before it": the row in place i
abbrev pub fall_at : ℕ → bitml.Fault
fall_at i = record { number = 21; place = i }

-- 10 over all rows, then 21 over all rows
unfoldable pub order_fault : List Row → bitml.Fault
order_fault R = or_else (repeated 1 [] R) (falling 1 0 R)
