use Rattle.contracts.proofs.Laws.{added_more}
use Rattle.steps.proofs.Laws.{told_state-err, called, call_refused, done, promised, times_more, times_none}
use borrow.Author.Rules.{rules}
use mathlib.Core.Path.{◌≡◌, refl}
use native.Mathlib.Omega.{arith}
use Rattle.lines.proofs.owners.Goals as goal

pub returns-in_err-cur-clause-met : goal.returns-in_err-cur-clause-met
returns-in_err-cur-clause-met c = c.loop.invariant.0 _ _ (times_more _ _ _ _ c.loop-test.true _ _ (call_refused _ (rw (c.loop.invariant.2.0) at c.in_err-cur.ensures.met) (told_state-err _ _ c.from_residual.ensures.1)))

pub loop-preserved : goal.loop-preserved
loop-preserved c = let m = rw (c.loop.invariant.2.0) at c.in_ok-cur.ensures.met in
    ((λ r t h. c.loop.invariant.0 _ _ (times_more _ _ _ _ c.loop-test.true _ _ (called _ m h))), added_more c.loop.invariant.1 (promised m), search rules)

pub returns-clause-met : goal.returns-clause-met
returns-clause-met c = let e : c.loop.counter ≡ c.args.n = omega (arith, c.loop-test.false, c.loop.auto.counter-end) in
    c.loop.invariant.0 _ _ (times_none _ _ _ _ c.loop-test.false _ _ (done refl (rw (← e) c.loop.invariant.1)))
