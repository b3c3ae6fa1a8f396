use Rattle.steps.proofs.Laws.{told_state-err, passed, refused, yes', no', stop, done, took_number, most}
use Rattle.conditions.proofs.Laws.{ready_took}
use Rattle.contracts.proofs.Laws.{added_listed, added_more, ready_added}
use native.Mathlib.Omega.{arith}
use mathlib.Core.Path.{◌≡◌, refl}
use borrow.Author.Tests.{lt-ltb, le-ltb}
use borrow.Author.Rules.{rules}
use Rattle.lines.proofs.Laws.{deposits-more, deposits-none, deposits_from}
use Rattle.lines.proofs.deposits.Goals as goal

pub returns-in_err-v-clause-met : goal.returns-in_err-v-clause-met
returns-in_err-v-clause-met c = c.loop.invariant.0 _ _ (deposits-more _ _ _ _ _ _ c.loop-test.true _ _ (refused _ _ _ _ (rw (c.loop.invariant.3.0) at c.in_err-v.ensures) (told_state-err _ _ c.from_residual.ensures.1)))

pub overflow_add-sum : goal.overflow_add-sum
overflow_add-sum c = omega (arith, most _ _ _ c.in_ok-v.ensures, c.loop.invariant.2)

pub returns-then-sum-gt-DEPOSITS-clause-met : goal.returns-then-sum-gt-DEPOSITS-clause-met
returns-then-sum-gt-DEPOSITS-clause-met c = rw c.refused.ensures (c.loop.invariant.0 _ _ (deposits-more _ _ _ _ _ _ c.loop-test.true _ _ (passed _ _ _ _ (rw (c.loop.invariant.3.0) at c.in_ok-v.ensures) (yes' _ (lt-ltb _ _ c.if-sum-gt-DEPOSITS.true) stop))))

pub put_listed-cur-requires : goal.put_listed-cur-requires
put_listed-cur-requires c = let k = took_number _ (rw (c.loop.invariant.3.0) at c.in_ok-v.ensures) in
    let a = c.loop.invariant.1 in
    let r = ready_added c.requires.has_room a (omega (arith, c.requires.has_room.fits.branches-fit)) (omega (arith, c.loop-test.true, c.requires.n_bound)) in
    record { cells_from_in_bounds = omega (arith, c.loop.filling.spacious); fits = (ready_took r k).fits; listed_lt_most_listed = omega (arith, k.listed, a.listed, c.requires.n_bound, c.loop-test.true) }

pub loop-preserved : goal.loop-preserved
loop-preserved c = let k = took_number _ (rw (c.loop.invariant.3.0) at c.in_ok-v.ensures) in
    ((λ r t m. c.loop.invariant.0 _ _ (deposits-more _ _ _ _ _ _ c.loop-test.true _ _ (passed _ _ _ _ (rw (c.loop.invariant.3.0) at c.in_ok-v.ensures) (no' _ (le-ltb _ _ c.if-sum-gt-DEPOSITS.false) (deposits_from _ _ _ _ _ _ c.put_listed-cur.ensures.1 _ _ m))))), added_more c.loop.invariant.1 (added_listed k c.put_listed-cur.ensures.0), omega (arith, c.if-sum-gt-DEPOSITS.false), search rules)

pub returns-clause-met : goal.returns-clause-met
returns-clause-met c = let e : c.loop.counter ≡ c.args.n = omega (arith, c.loop-test.false, c.loop.auto.counter-end) in
    c.loop.invariant.0 _ _ (deposits-none _ _ _ _ _ _ c.loop-test.false _ _ (done refl (rw (← e) c.loop.invariant.1)))
