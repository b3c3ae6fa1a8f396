use mathlib.Core.Path.{sym, ap, ◌∙◌, refl}
use native.Mathlib.Omega.{arith}
use Rattle.std.proofs.lemmas.Result.{err_from_is_err_and}
use Rattle.events.proofs.Sound.{event_ahead, next_event, events-end, events-on, events-bad}
use Rattle.events.specs.Events.{next_of}
use Rattle.events.proofs.events.Goals as goal

pub returns-in_err-next : goal.returns-in_err-next
unfolding next_of
returns-in_err-next c =
    let p = err_from_is_err_and c.from_residual.result c.from_residual.ensures.1 in
    rw (p.1, p.2) (events-bad _ _ _ _ c.loop-at-test.true (ap next_of c.in_err-next.ensures) _ _ refl ∙ c.loop-at.invariant)

pub loop-at-smaller : goal.loop-at-smaller
loop-at-smaller c = let l = event_ahead _ _ _ _ _ (ap next_of (sym c.in_ok-next.ensures) ∙ sym (next_event _ _)) in omega arith

pub loop-at-preserved : goal.loop-at-preserved
loop-at-preserved c = events-on _ _ _ _ c.loop-at-test.true (next_event _ _ ∙ ap next_of c.in_ok-next.ensures) _ _ refl ∙ c.loop-at.invariant

pub returns : goal.returns
returns c = events-end _ _ _ c.loop-at-test.false ∙ c.loop-at.invariant
