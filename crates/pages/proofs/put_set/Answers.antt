use Rattle.pages.specs.Pages.{size, start}
use mathlib.Core.Path.{refl}
use native.Mathlib.Omega.{arith}
use Rattle.pages.proofs.Laws.{then_put}
use Rattle.pages.proofs.put_set.Goals as goal

pub returns : goal.returns
unfolding size start
returns c = (then_put _ 5 _ _ (omega arith) c.requires.1 (then_put _ 4 _ _ (omega arith) c.requires.1 (c.requires.0, refl))).1
