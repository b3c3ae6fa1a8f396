use mathlib.Core.Path.{ap}
use native.Mathlib.Omega.{arith}
use Rattle.tables.specs.declared.St.{St}
use Rattle.conditions.proofs.Laws.{none_left, some_left}
use Rattle.steps.proofs.Laws.{yes', no', stop, done}
use Rattle.conditions.specs.Condition.{store_at, Leaves}
use Rattle.conditions.proofs.store.Goals as goal

pub returns-then-left-eq0 : goal.returns-then-left-eq0
unfolding store_at Leaves
returns-then-left-eq0 c = record { met = yes' _ (none_left _ _ _ c.if-left-eq0.true) stop; leaves = tt }

pub returns : goal.returns
unfolding store_at Leaves
returns c = let n = ap (λ (x : St). x.cells) c.put_cell-next.ensures.0 in
    record { met = no' _ (some_left _ _ _ c.if-left-eq0.false) (done c.put_cell-next.ensures.1 c.put_cell-next.ensures.0); leaves = omega (arith, n, c.if-left-eq0.false) }
