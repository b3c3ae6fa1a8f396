use native.Mathlib.Omega.{arith}
use mir.Val.{bool_byte}
use mathlib.Core.Path.{refl, ap, ◌∙◌}
use mathlib.Core.List.{map}
use Rattle.duties.specs.Duties.{handed}
use Rattle.pages.specs.Pages.{pages_in}
use Rattle.counts.proofs.Storing.{stores_none, stores_on, state_is, number_is}
use Rattle.counts.proofs.store.Goals as goal

pub loop-j-init : goal.loop-j-init
loop-j-init c = (refl, stores_none _ _ _)

pub loop-j-preserved : goal.loop-j-preserved
loop-j-preserved c = let a = c.args in let l = c.loop-j in
    (c.put_secret.auto.cells ∙ l.invariant.0, rw c.put_secret.ensures (stores_on a.i (map handed a.vs.now) l.j (pages_in l.cells) l.invariant.1 (omega arith) (omega arith) (c.requires.by_index l.j) (c.from.ensures ∙ ap bool_byte c.is_some.ensures ∙ state_is a.vs.now l.j) (c.unwrap_or.ensures ∙ number_is a.vs.now l.j)))
