use Rattle.pages.specs.Pages.{size, start}
use mathlib.Core.Path.{refl}
use native.Mathlib.Omega.{arith}
use Rattle.pages.proofs.Laws.{then_put}
use Rattle.pages.proofs.put_contract.Goals as goal

pub returns : goal.returns
unfolding size start
returns c = (then_put _ 3 _ _ (omega arith) c.requires.1 (then_put _ 2 _ _ (omega arith) c.requires.1 (then_put _ 1 _ _ (omega arith) c.requires.1 (then_put _ 0 _ _ (omega arith) c.requires.1 (c.requires.0, refl))))).1
