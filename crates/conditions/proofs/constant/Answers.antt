use mathlib.Core.Path.{ap}
use Prim.Native.Nat.{◌+◌}
use Rattle.conditions.proofs.Laws.{ready_took, room, pays, kept_stored, store_within, leaves-refused, leaves-same}
use Rattle.steps.proofs.Laws.{told-err, passed, refused, also, took_number}
use Rattle.conditions.specs.Condition.{constant_at}
use native.Mathlib.Omega.{arith}
use Rattle.conditions.proofs.constant.Goals as goal

pub returns-in_err-v-clause-met : goal.returns-in_err-v-clause-met
unfolding constant_at
returns-in_err-v-clause-met c = refused _ _ _ _ c.in_err-v.ensures (told-err _ _ c.from_residual.ensures.1)

pub returns-in_err-v-clause-leaves : goal.returns-in_err-v-clause-leaves
returns-in_err-v-clause-leaves c = leaves-refused _ (told-err _ _ c.from_residual.ensures.1)

pub store-requires : goal.store-requires
store-requires c = let k = took_number _ c.in_ok-v.ensures in record { cells_in_bounds = omega (arith, pays c.requires.has_room k, c.args.filling.now.spacious); fits = (ready_took c.requires.has_room k).fits; cells_lt_most_cells = room c.requires.has_room k }

pub returns-clause-met : goal.returns-clause-met
unfolding constant_at
returns-clause-met c = let k = took_number _ c.in_ok-v.ensures in
    passed _ _ _ _ c.in_ok-v.ensures (store_within _ _ _ (ap (λ n. n + c.args.left) k.cells) _ _ (also (λ e q. kept_stored c.requires.has_room k q) c.store.ensures.met))

pub returns-clause-leaves : goal.returns-clause-leaves
returns-clause-leaves c = leaves-same _ (ap (λ n. n + c.args.left) (took_number _ c.in_ok-v.ensures).cells) c.store.ensures.leaves
