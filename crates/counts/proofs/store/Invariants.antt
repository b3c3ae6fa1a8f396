use mathlib.Core.Path.{◌≡◌}
use mathlib.Core.List.{map}
use lib.ListN.{length}
use Rattle.duties.specs.Duties.{handed}
use Rattle.pages.specs.Pages.{pages_in}
use Rattle.counts.specs.Steps.{Stores}
use Rattle.counts.proofs.store.Given as goal

abbrev pub invariant-loop-j : goal.invariant-loop-j
invariant-loop-j l = (length l.cells ≡ length l.initial.cells) × Stores (pages_in l.initial.cells) l.i (map handed l.vs) l.j (pages_in l.cells)
