-- A ledger that holds its cells, and what an event's method hands back. Assumes nothing.
use Rattle.std.specs.Prelude.{◌≡◌, ℕ, List, length}
use Rattle.std.proofs.Math.Option.{Option}
use denote.Ref.{at_last}
use Rattle.bitml.specs.Ledger.{Event, stipulated}
use Rattle.bitml.specs.Limits.{limited_refusal, limited_step}
use Rattle.tables.specs.Entries.{people}
use Rattle.tables.specs.SheetOf.{sheet_in}
use Rattle.pages.specs.Pages.{cells_long, pages_in}
use Rattle.counts.specs.declared.Counts.{Counts}
use Rattle.counts.specs.Book.{Book, book}
use Rattle.counts.specs.View.{view}
use Rattle.counts.specs.Fit.{Fit}
use Rattle.counts.specs.Cells.{laid_out}
use Rattle.counts.specs.Does.{Does}
use Rattle.ledger.specs.declared.Ledger.{Ledger}

-- "State: time, contracts .., commitment sets .., paid amounts": all of it is in the ledger
abbrev pub book_of : Ledger → Book
book_of l = book l.counts (pages_in l.cells.now)

-- What holds of a ledger between events: it fits the table, and has the cells of its lists and no others
pub record Holds (t : List ℕ) (l : Ledger) : Type 0 where
  pub fit : Fit t (book_of l)
  pub long : length l.cells.now ≡ cells_long

-- "Each event takes a ledger and gives the ledger after it", in the same cells
pub record Hands (t : List ℕ) (l : Ledger) (e : Event) (r : Ledger) : Type 0 where
  pub does : Does t (book_of l) e (book_of r)
  -- every cell: those of the plain ledger after the event
  pub told : pages_in r.cells.now ≡ laid_out (limited_step (sheet_in t) (view (people t) (book_of l)) e)
  pub long : length r.cells.now ≡ cells_long
  -- "otherwise it is refused and the ledger stays the same"
  pub same : (limited_refusal (sheet_in t) (view (people t) (book_of l)) e ≡ 0 → ⊥) → r.cells.now ≡ l.cells.now
  pub lent : r.cells ≡ at_last l.cells r.cells.now

-- "At stipulation": the counts, and every cell
pub record Begun (t : List ℕ) (vs : List (Option ℕ)) (c : Counts) (C : List ℕ) : Type 0 where
  pub answer : c.answer ≡ 0
  pub plain : view (people t) (book c (pages_in C)) ≡ stipulated (sheet_in t) vs
  pub told : pages_in C ≡ laid_out (stipulated (sheet_in t) vs)
  pub fit : Fit t (book c (pages_in C))
