use Rattle.conditions.proofs.Laws.{ready_took, room, pays, ready_kept, kept_kept, behind_condition, fewer, behind_part, leaves-refused, leaves-same, took_condition, cell_is, no_cell, condition-none, condition-word, condition-within, both-within, clauses_t, clauses_and, clauses_not, clauses_two}
use Rattle.steps.proofs.Laws.{told-err, passed, refused, yes', no', stop, called, call_refused, also, done}
use Rattle.tables.proofs.Laws.{cells-length}
use Rattle.conditions.specs.Condition.{condition_at, condition_with, Leaves}
use mathlib.Core.Path.{refl, ap, ◌∙◌}
use native.Mathlib.Omega.{arith}
use Prim.Native.Nat.{◌+◌, ◌-◌}
use Rattle.conditions.proofs.+condition.Goals as goal

pub returns-in_err-w-clause-within : goal.returns-in_err-w-clause-within
unfolding condition_at condition_with
returns-in_err-w-clause-within t c = let x = told-err _ _ c.from_residual.ensures.1 in record { met = λ d h. refused _ _ _ _ c.in_err-w.ensures x; leaves = leaves-refused _ x }

pub returns-in_default-clause-within : goal.returns-in_default-clause-within
unfolding condition_at condition_with Leaves
returns-in_default-clause-within t c = rw c.refused.ensures record { met = λ d h. passed _ _ _ _ c.in_ok-w.ensures (yes' _ (no_cell _ c.in_default.ensures) stop); leaves = tt }

pub store-requires : goal.store-requires
store-requires t c = let k = took_condition c.in_ok-w.ensures c.in-Some.ensures in
    record { cells_in_bounds = omega (arith, pays c.requires.has_room k, c.args.filling.now.spacious); fits = (ready_took c.requires.has_room k).fits; cells_lt_most_cells = room c.requires.has_room k }

pub returns-in_err-on-clause-within : goal.returns-in_err-on-clause-within
unfolding condition_at condition_with
returns-in_err-on-clause-within t c = let k = took_condition c.in_ok-w.ensures c.in-Some.ensures in
    let x = told-err _ _ c.from_residual-in_err-on.ensures.1 in
    record { met = λ d h. passed _ _ _ _ c.in_ok-w.ensures (no' _ (cell_is _ c.in-Some.ensures).1 (condition-none _ _ d _ _ _ _ (ap (λ n. n + c.args.left) k.cells) (cell_is _ c.in-Some.ensures).0 (cells-length _ _) (omega (arith, k.cells, h)) c.in_err-on.ensures.met x)); leaves = leaves-refused _ x }

pub returns-in-0-clause-within : goal.returns-in-0-clause-within
unfolding Leaves
returns-in-0-clause-within t c = let b = behind_condition c.requires.has_room c.in_ok-w.ensures c.in-Some.ensures c.in_ok-on.ensures.met c.in_ok-on.ensures.leaves in
    record { met = λ d h. condition-word _ _ d _ c.in_ok-w.ensures c.in-Some.ensures c.in_ok-on.ensures.met b h (clauses_t _ _ _ _ c.in-0.is _ _ (done refl b.kept)); leaves = b.total }

pub condition-requires : goal.condition-requires
condition-requires t c = let b = behind_condition c.requires.has_room c.in_ok-w.ensures c.in-Some.ensures c.in_ok-on.ensures.met c.in_ok-on.ensures.leaves in
    (omega (arith, b.total, b.kept.more-cells), ready_kept c.requires.has_room b.kept)

pub returns-in-2-clause-within : goal.returns-in-2-clause-within
returns-in-2-clause-within t c = let b = behind_condition c.requires.has_room c.in_ok-w.ensures c.in-Some.ensures c.in_ok-on.ensures.met c.in_ok-on.ensures.leaves in
    record { met = λ d h. condition-word _ _ d _ c.in_ok-w.ensures c.in-Some.ensures c.in_ok-on.ensures.met b h (clauses_not _ _ _ _ c.in-2.is _ _ (condition-within _ _ _ _ b.total _ _ (also (λ e q. kept_kept b.kept q) (c.condition.ensures.within.met (d - 1) (fewer b h))))); leaves = leaves-same _ b.total c.condition.ensures.within.leaves }

pub condition-requires-in-1 : goal.condition-requires-in-1
condition-requires-in-1 t c = let b = behind_condition c.requires.has_room c.in_ok-w.ensures c.in-Some.ensures c.in_ok-on.ensures.met c.in_ok-on.ensures.leaves in
    (omega (arith, b.total, b.kept.more-cells), ready_kept c.requires.has_room b.kept)

pub returns-in_err-next-in-1-clause-within : goal.returns-in_err-next-in-1-clause-within
returns-in_err-next-in-1-clause-within t c = let b = behind_condition c.requires.has_room c.in_ok-w.ensures c.in-Some.ensures c.in_ok-on.ensures.met c.in_ok-on.ensures.leaves in
    let x = told-err _ _ c.from_residual-in_err-next-in-1.ensures.1 in
    record { met = λ d h. condition-word _ _ d _ c.in_ok-w.ensures c.in-Some.ensures c.in_ok-on.ensures.met b h (clauses_and _ _ _ _ c.in-1.is _ _ (call_refused _ (condition-within _ _ _ _ b.total _ _ (c.in_err-next-in-1.ensures.within.met (d - 1) (fewer b h))) x)); leaves = leaves-refused _ x }

pub condition-requires-in-1-2 : goal.condition-requires-in-1-2
condition-requires-in-1-2 t c = let b = behind_condition c.requires.has_room c.in_ok-w.ensures c.in-Some.ensures c.in_ok-on.ensures.met c.in_ok-on.ensures.leaves in
    let p = behind_part c.in_ok-next-in-1.ensures.within in
    (omega (arith, p.total, p.kept.more-cells, b.total, b.kept.more-cells), rw c.condition-in-1.ensures.same.0 (ready_kept (ready_kept c.requires.has_room b.kept) p.kept))

pub returns-in_ok-next-in-1-clause-within : goal.returns-in_ok-next-in-1-clause-within
returns-in_ok-next-in-1-clause-within t c = let b = behind_condition c.requires.has_room c.in_ok-w.ensures c.in-Some.ensures c.in_ok-on.ensures.met c.in_ok-on.ensures.leaves in
    let p = behind_part c.in_ok-next-in-1.ensures.within in
    let w = rw (c.condition-in-1.ensures.same.0) at c.condition-in-1-2.ensures.within in
    record { met = λ d h. condition-word _ _ d _ c.in_ok-w.ensures c.in-Some.ensures c.in_ok-on.ensures.met b h (clauses_and _ _ _ _ c.in-1.is _ _ (called _ (condition-within _ _ _ _ b.total _ _ (c.in_ok-next-in-1.ensures.within.met (d - 1) (fewer b h))) (condition-within _ _ _ _ (p.total ∙ b.total) _ _ (also (λ e q. kept_kept b.kept (kept_kept p.kept q)) (w.met (d - 1) (omega (arith, p.total, p.kept.more-cells, b.total, b.kept.more-cells, h))))))); leaves = leaves-same _ (p.total ∙ b.total) w.leaves }

pub both_expressions-requires : goal.both_expressions-requires
both_expressions-requires t c = let b = behind_condition c.requires.has_room c.in_ok-w.ensures c.in-Some.ensures c.in_ok-on.ensures.met c.in_ok-on.ensures.leaves in
    record { has_room = ready_kept c.requires.has_room b.kept }

pub returns-in_default-c-clause-within : goal.returns-in_default-c-clause-within
returns-in_default-c-clause-within t c = let b = behind_condition c.requires.has_room c.in_ok-w.ensures c.in-Some.ensures c.in_ok-on.ensures.met c.in_ok-on.ensures.leaves in
    record { met = λ d h. condition-word _ _ d _ c.in_ok-w.ensures c.in-Some.ensures c.in_ok-on.ensures.met b h (clauses_two _ _ _ _ c.in_default-c.in_default-c-own.rest.0.0.1 c.in_default-c.in_default-c-own.rest.1 c.in_default-c.in_default-c-own.rest.0.1 _ _ (both-within _ _ _ _ b.total _ _ (also (λ e q. kept_kept b.kept q) (c.both_expressions.ensures.within.met (d - 1) (fewer b h))))); leaves = leaves-same _ b.total c.both_expressions.ensures.within.leaves }
