use mathlib.Core.Path.{◌≡◌}
use lib.ListN.{length}
use Rattle.pages.specs.Pages.{pages_in}
use Rattle.counts.specs.Book.{book}
use Rattle.counts.proofs.Splitting.{Splits}
use Rattle.counts.proofs.Counts.make_parts.Given as goal

abbrev pub invariant-loop-n : goal.invariant-loop-n
invariant-loop-n l = (length l.cells ≡ length l.initial.cells) × Splits l.index.table.cells.now (book l.initial.self (pages_in l.initial.cells)) l.q l.v l.set (book l.self (pages_in l.cells)) l.left l.n-index
