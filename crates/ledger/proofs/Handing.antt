-- What a method hands back, of what it was asked and of what its callee says: the same cells, with what the event made of them. Assumes nothing.
use Rattle.std.specs.Prelude.{◌≡◌, ℕ, List, length}
use mathlib.Core.Path.{refl, ◌∙◌}
use denote.Ref.{at_last}
use Rattle.bitml.specs.Ledger.{Event}
use Rattle.pages.specs.Pages.{pages_in}
use Rattle.pages.proofs.Laws.{same-cells}
use Rattle.counts.specs.declared.Counts.{Counts}
use Rattle.counts.specs.Book.{book}
use Rattle.counts.specs.Does.{Does}
use Rattle.counts.proofs.Cells.{told-after, same_after}
use Rattle.ledger.specs.declared.Ledger.{Ledger}
use Rattle.ledger.specs.Hands.{book_of, Holds, Hands}

pub hands : (t : List ℕ) (l : Ledger) (e : Event) (r : Counts) (zs : List ℕ) → Holds t l → Does t (book_of l) e (book r (pages_in zs)) → length zs ≡ length l.cells.now
    → Hands t l e (record { cells = at_last l.cells zs; counts = r })
hands t l e r zs k d long = record {
  does = d;
  told = told-after t l.counts l.cells.now e r zs d;
  long = long ∙ k.long;
  same = λ h. same-cells zs l.cells.now (long ∙ k.long) k.long (same_after t l.counts l.cells.now e r zs d k.fit h);
  lent = refl;
}
