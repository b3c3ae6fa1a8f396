use Rattle.steps.proofs.Laws.{told_state-err, passed, refused, yes', no', stop, done, took_number}
use Rattle.conditions.proofs.Laws.{ready_took}
use Rattle.contracts.proofs.Laws.{added_listed}
use native.Mathlib.Omega.{arith}
use borrow.Author.Tests.{lt-ltb, le-ltb}
use Rattle.lines.specs.Definition.{owner_at}
use Rattle.lines.proofs.owner.Goals as goal

pub returns-in_err-v-clause-met : goal.returns-in_err-v-clause-met
unfolding owner_at
returns-in_err-v-clause-met c = refused _ _ _ _ c.in_err-v.ensures (told_state-err _ _ c.from_residual.ensures.1)

pub returns-then-people-v-clause-met : goal.returns-then-people-v-clause-met
unfolding owner_at
returns-then-people-v-clause-met c = rw c.refused.ensures (passed _ _ _ _ c.in_ok-v.ensures (no' _ (le-ltb _ _ c.if-people-v.true) stop))

pub put_listed-requires : goal.put_listed-requires
put_listed-requires c = let k = took_number _ c.in_ok-v.ensures in record { cells_from_in_bounds = omega (arith, c.args.filling.now.spacious); fits = (ready_took c.requires.has_room k).fits; listed_lt_most_listed = omega (arith, k.listed, c.requires.listed_lt_most_listed) }

pub returns-clause-met : goal.returns-clause-met
unfolding owner_at
returns-clause-met c = passed _ _ _ _ c.in_ok-v.ensures (yes' _ (lt-ltb _ _ c.if-people-v.false) (done c.put_listed.ensures.1 (added_listed (took_number _ c.in_ok-v.ensures) c.put_listed.ensures.0)))
