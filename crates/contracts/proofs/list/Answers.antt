use Rattle.contracts.proofs.Laws.{added_listed}
use Rattle.conditions.proofs.Laws.{ready_took}
use Rattle.steps.proofs.Laws.{told_state-err, passed, refused, yes', no', stop, done, took_number}
use Rattle.contracts.specs.Contract.{list_at}
use borrow.Author.Tests.{le-leb, lt-leb}
use mathlib.Core.Path.{sym}
use native.Mathlib.Omega.{arith}
use Rattle.contracts.proofs.list.Goals as goal

pub returns-in_err-v-clause-met : goal.returns-in_err-v-clause-met
unfolding list_at
returns-in_err-v-clause-met c = refused _ _ _ _ c.in_err-v.ensures (told_state-err _ _ c.from_residual.ensures.1)

pub is_listed-requires-clause-to_le_most_listed : goal.is_listed-requires-clause-to_le_most_listed
is_listed-requires-clause-to_le_most_listed c = (ready_took c.requires.has_room (took_number _ c.in_ok-v.ensures)).fits.listed-fit

pub returns-then-is_listed-clause-met : goal.returns-then-is_listed-clause-met
unfolding list_at
returns-then-is_listed-clause-met c = rw c.refused.ensures (passed _ _ _ _ c.in_ok-v.ensures (yes' _ (sym c.if-is_listed.ensures) stop))

pub returns-then-secrets-v-clause-met : goal.returns-then-secrets-v-clause-met
unfolding list_at
returns-then-secrets-v-clause-met c = rw c.refused-then-secrets-v.ensures (passed _ _ _ _ c.in_ok-v.ensures (no' _ (sym c.if-is_listed.ensures) (yes' _ (le-leb _ _ c.if-secrets-v.true) stop)))

pub put_listed-requires : goal.put_listed-requires
put_listed-requires c = let k = took_number _ c.in_ok-v.ensures in record { cells_from_in_bounds = omega (arith, c.args.filling.now.spacious); fits = (ready_took c.requires.has_room k).fits; listed_lt_most_listed = omega (arith, k.listed, c.requires.listed_lt_most_listed) }

pub returns-clause-met : goal.returns-clause-met
unfolding list_at
returns-clause-met c = let k = took_number _ c.in_ok-v.ensures in passed _ _ _ _ c.in_ok-v.ensures (no' _ (sym c.if-is_listed.ensures) (no' _ (lt-leb _ _ c.if-secrets-v.false) (done c.put_listed.ensures.1 (added_listed k c.put_listed.ensures.0))))
