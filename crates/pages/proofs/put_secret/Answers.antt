use Rattle.pages.specs.Pages.{size, start}
use mathlib.Core.Path.{refl}
use native.Mathlib.Omega.{arith}
use Rattle.pages.proofs.Laws.{then_put}
use Rattle.pages.proofs.put_secret.Goals as goal

pub returns : goal.returns
unfolding size start
returns c = (then_put _ 7 _ _ (omega arith) c.requires.1 (then_put _ 6 _ _ (omega arith) c.requires.1 (c.requires.0, refl))).1
