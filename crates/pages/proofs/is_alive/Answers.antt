use Rattle.pages.specs.Pages.{size, start}
use mathlib.Core.Path.{sym, ap}
use lib.Dec.{eqb}
use Rattle.pages.proofs.Laws.{page_at}
use Rattle.pages.proofs.is_alive.Goals as goal

pub returns : goal.returns
unfolding size start
returns c = ap (λ x. eqb x 1) (sym (page_at _ 3 _ c.requires.1))
