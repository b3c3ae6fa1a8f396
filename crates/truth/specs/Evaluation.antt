-- What evaluating an expression or a condition gives, at the head of the fields that are left of the cells. Assumes nothing.
use Rattle.std.specs.Prelude.{◌≡◌, ℕ, ◌+◌, ◌*◌, ◌-◌, ◌≤◌, Bool, true, false, not, cond, List, length, get_or, drop}
use Rattle.bitml.specs.Lists.{◌&◌}
use Rattle.bitml.specs.Sheet.{Expr, Cond, value, holds}
use Rattle.bitml.specs.Runs.{closed_expr, closed}
use Rattle.tables.specs.SheetOf.{read_e, read_c, levels}
use Rattle.tables.specs.Entries.{most_cells}
use Rattle.truth.specs.declared.Slate.{Slate}

-- "`k`,number up to 1,000,000,000" bounds the cells of conditions, and "32,768 bytes" how many there are
pub record Cells (cells : List ℕ) : Type 0 where
  pub few : length cells ≤ most_cells
  pub cell : (c : ℕ) → get_or cells c 0 ≤ 1000000000

-- "`play` with a value for each secret of definition 0 (0 to 1,000,000,000 ..)"
pub record Values (values : List ℕ) : Type 0 where
  pub most : (j : ℕ) → get_or values j 0 ≤ 1000000000

-- "`v`,secret": the number of secret j
abbrev pub numbers : List ℕ → ℕ → ℕ
numbers values j = get_or values j 0

-- "over remaining fields, a falling count": the last n of the cells
abbrev pub rest : List ℕ → ℕ → List ℕ
rest cells n = drop (length cells - n) cells

-- An evaluation writes on a slate. "Integers, so a difference may be negative": its integer is plus less minus. What is taken away is added
-- to minus, and what is taken away from that to plus
abbrev pub side : Bool → Slate → ℕ
side taken slate = cond taken slate.minus slate.plus

abbrev pub added : Bool → ℕ → Slate → Slate
added true k slate = record { plus = slate.plus; minus = slate.minus + k; named = slate.named; holds = slate.holds }
added false k slate = record { plus = slate.plus + k; minus = slate.minus; named = slate.named; holds = slate.holds }

-- Each cell that was passed adds at most 1,000,000,000 to the sides, so nothing wraps
pub record Room (cells : List ℕ) (left : ℕ) (slate : Slate) : Type 0 where
  pub inside : left ≤ length cells
  pub small : slate.plus + slate.minus ≤ (length cells - left) * 1000000000

-- The expression and the condition at the head of fields that are left of these cells, and what is left behind it
abbrev pub expr_in : List ℕ → List ℕ → Expr × List ℕ
expr_in cells fs = read_e (levels cells) fs

abbrev pub cond_in : List ℕ → List ℕ → Cond × List ℕ
cond_in cells fs = read_c (levels cells) fs

-- "Expression e": it is added to a side of the slate as a pair, and nothing is named as long as it "names no secret". Behind it, next fields
-- are left
pub record ValueAt (cells values : List ℕ) (left : ℕ) (taken : Bool) (slate : Slate) (next : ℕ) (after : Slate) : Type 0 where
  pub plus : side taken after ≡ side taken slate + (value (numbers values) (expr_in cells (rest cells left)).0).0
  pub minus : side (not taken) after ≡ side (not taken) slate + (value (numbers values) (expr_in cells (rest cells left)).0).1
  pub named : not after.named ≡ (not slate.named & closed_expr (expr_in cells (rest cells left)).0)
  pub behind : rest cells next ≡ (expr_in cells (rest cells left)).1
  pub down : next ≤ left
  pub room : Room cells next after

-- "`eq`,e,e, `lt`,e,e": two expressions, one behind the other. The slate's integer is the first less the second
pub record OperandsAt (cells values : List ℕ) (left : ℕ) (slate : Slate) (next : ℕ) (after : Slate) : Type 0 where
  pub plus : after.plus ≡ (value (numbers values) (expr_in cells (rest cells left)).0).0 + (value (numbers values) (expr_in cells (expr_in cells (rest cells left)).1).0).1
  pub minus : after.minus ≡ (value (numbers values) (expr_in cells (expr_in cells (rest cells left)).1).0).0 + (value (numbers values) (expr_in cells (rest cells left)).0).1
  pub named : not after.named ≡ (not slate.named & (closed_expr (expr_in cells (rest cells left)).0 & closed_expr (expr_in cells (expr_in cells (rest cells left)).1).0))
  pub behind : rest cells next ≡ (expr_in cells (expr_in cells (rest cells left)).1).1
  pub down : next ≤ left

-- "A condition may nest; its value follows its parts"
pub record HoldsAt (cells values : List ℕ) (left : ℕ) (slate : Slate) (next : ℕ) (after : Slate) : Type 0 where
  pub truth : after.holds ≡ holds (numbers values) (cond_in cells (rest cells left)).0
  pub named : not after.named ≡ (not slate.named & closed (cond_in cells (rest cells left)).0)
  pub behind : rest cells next ≡ (cond_in cells (rest cells left)).1
  pub down : next ≤ left

-- "a condition that names no secret and is true": what the slate tells of both
pub record TruthOf (c : Cond) (values : List ℕ) (slate : Slate) : Type 0 where
  pub truth : slate.holds ≡ holds (numbers values) c
  pub named : not slate.named ≡ closed c
