use Rattle.pages.specs.Pages.{size, start}
use mathlib.Core.Path.{sym}
use Rattle.pages.proofs.Laws.{page_at}
use Rattle.pages.proofs.paid_to.Goals as goal

pub returns : goal.returns
unfolding size start
returns c = sym (page_at _ 8 _ c.requires.1)
