use Prim.Native.Nat.{◌+◌, ◌*◌}
use Rattle.pages.specs.Pages.{size, start}
use mathlib.Core.Path.{refl}
use native.Mathlib.Omega.{arith}
use Rattle.pages.proofs.Laws.{then_put}
use Rattle.pages.proofs.put_signed.Goals as goal

pub returns : goal.returns
unfolding size start
returns c = let a = c.args in (then_put _ 9 (a.c * 16 + a.b) a.mask (omega arith) (omega (arith, c.requires)) (c.requires.0, refl)).1
