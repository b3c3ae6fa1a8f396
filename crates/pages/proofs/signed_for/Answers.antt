use Rattle.pages.specs.Pages.{size, start}
use mathlib.Core.Path.{sym}
use native.Mathlib.Omega.{arith}
use Rattle.pages.proofs.Laws.{page_at}
use Rattle.pages.proofs.signed_for.Goals as goal

pub returns : goal.returns
unfolding size start
returns c = sym (page_at _ 9 _ (omega (arith, c.requires)))
