use Prim.Native.Nat.{◌+◌}
use Rattle.conditions.proofs.Laws.{ready_took, room, pays, kept_stored, store_within, leaves-refused, leaves-same}
use Rattle.steps.proofs.Laws.{told-err, passed, refused, yes', no', stop, also, took_number}
use Rattle.conditions.specs.Condition.{secret_at, Leaves}
use mathlib.Core.Path.{sym, ap}
use native.Mathlib.Omega.{arith}
use Rattle.conditions.proofs.secret.Goals as goal

pub returns-in_err-v-clause-met : goal.returns-in_err-v-clause-met
unfolding secret_at
returns-in_err-v-clause-met c = refused _ _ _ _ c.in_err-v.ensures (told-err _ _ c.from_residual.ensures.1)

pub returns-in_err-v-clause-leaves : goal.returns-in_err-v-clause-leaves
returns-in_err-v-clause-leaves c = leaves-refused _ (told-err _ _ c.from_residual.ensures.1)

pub is_listed-requires-clause-to_le_most_listed : goal.is_listed-requires-clause-to_le_most_listed
is_listed-requires-clause-to_le_most_listed c = (ready_took c.requires.has_room (took_number _ c.in_ok-v.ensures)).fits.listed-fit

pub store-requires : goal.store-requires
store-requires c = let k = took_number _ c.in_ok-v.ensures in record { cells_in_bounds = omega (arith, pays c.requires.has_room k, c.args.filling.now.spacious); fits = (ready_took c.requires.has_room k).fits; cells_lt_most_cells = room c.requires.has_room k }

pub returns-then-not-is_listed-clause-met : goal.returns-then-not-is_listed-clause-met
unfolding secret_at
returns-then-not-is_listed-clause-met c = rw c.refused.ensures (passed _ _ _ _ c.in_ok-v.ensures (no' _ (sym c.if-not-is_listed.ensures) stop))

pub returns-then-not-is_listed-clause-leaves : goal.returns-then-not-is_listed-clause-leaves
unfolding Leaves
returns-then-not-is_listed-clause-leaves c = tt

pub returns-clause-met : goal.returns-clause-met
unfolding secret_at
returns-clause-met c = let k = took_number _ c.in_ok-v.ensures in
    passed _ _ _ _ c.in_ok-v.ensures (yes' _ (sym c.if-not-is_listed.ensures) (store_within _ _ _ (ap (λ n. n + c.args.left) k.cells) _ _ (also (λ e q. kept_stored c.requires.has_room k q) c.store.ensures.met)))

pub returns-clause-leaves : goal.returns-clause-leaves
returns-clause-leaves c = leaves-same _ (ap (λ n. n + c.args.left) (took_number _ c.in_ok-v.ensures).cells) c.store.ensures.leaves
