use Rattle.conditions.proofs.Laws.{ready_took, room, pays, ready_kept, kept_kept, behind_expression, fewer, behind_part, leaves-refused, leaves-same, took_expression, cell_is, no_cell, expression_none, expression_word_lem, expression_within, operands_k, operands_v, operands_two}
use Rattle.steps.proofs.Laws.{told-err, passed, refused, yes', no', stop, called, call_refused, also}
use Rattle.tables.proofs.Laws.{cells-length}
use Rattle.conditions.specs.Condition.{expression_at, expression_with, Leaves}
use mathlib.Core.Path.{ap, ◌∙◌}
use native.Mathlib.Omega.{arith}
use Prim.Native.Nat.{◌+◌, ◌-◌}
use Rattle.conditions.proofs.+expression.Goals as goal

pub returns-in_err-w-clause-within : goal.returns-in_err-w-clause-within
unfolding expression_at expression_with
returns-in_err-w-clause-within t c = let x = told-err _ _ c.from_residual.ensures.1 in record { met = λ d h. refused _ _ _ _ c.in_err-w.ensures x; leaves = leaves-refused _ x }

pub returns-in_default-clause-within : goal.returns-in_default-clause-within
unfolding expression_at expression_with Leaves
returns-in_default-clause-within t c = rw c.refused.ensures record { met = λ d h. passed _ _ _ _ c.in_ok-w.ensures (yes' _ (no_cell _ c.in_default.ensures) stop); leaves = tt }

pub store-requires : goal.store-requires
store-requires t c = let k = took_expression c.in_ok-w.ensures c.in-Some.ensures in
    record { cells_in_bounds = omega (arith, pays c.requires.has_room k, c.args.filling.now.spacious); fits = (ready_took c.requires.has_room k).fits; cells_lt_most_cells = room c.requires.has_room k }

pub returns-in_err-on-clause-within : goal.returns-in_err-on-clause-within
unfolding expression_at expression_with
returns-in_err-on-clause-within t c = let k = took_expression c.in_ok-w.ensures c.in-Some.ensures in
    let x = told-err _ _ c.from_residual-in_err-on.ensures.1 in
    record { met = λ d h. passed _ _ _ _ c.in_ok-w.ensures (no' _ (cell_is _ c.in-Some.ensures).1 (expression_none _ _ d _ _ _ _ (ap (λ n. n + c.args.left) k.cells) (cell_is _ c.in-Some.ensures).0 (cells-length _ _) (omega (arith, k.cells, h)) c.in_err-on.ensures.met x)); leaves = leaves-refused _ x }

pub constant-requires : goal.constant-requires
constant-requires t c = let b = behind_expression c.requires.has_room c.in_ok-w.ensures c.in-Some.ensures c.in_ok-on.ensures.met c.in_ok-on.ensures.leaves in
    record { has_room = ready_kept c.requires.has_room b.kept }

pub returns-in-0-clause-within : goal.returns-in-0-clause-within
returns-in-0-clause-within t c = let b = behind_expression c.requires.has_room c.in_ok-w.ensures c.in-Some.ensures c.in_ok-on.ensures.met c.in_ok-on.ensures.leaves in
    record { met = λ d h. expression_word_lem _ _ d _ c.in_ok-w.ensures c.in-Some.ensures c.in_ok-on.ensures.met b h (operands_k _ _ _ _ _ b.total c.in-0.is _ _ (also (λ e q. kept_kept b.kept q) c.constant.ensures.met)); leaves = leaves-same _ b.total c.constant.ensures.leaves }

pub secret-requires : goal.secret-requires
secret-requires t c = let b = behind_expression c.requires.has_room c.in_ok-w.ensures c.in-Some.ensures c.in_ok-on.ensures.met c.in_ok-on.ensures.leaves in
    record { has_room = ready_kept c.requires.has_room b.kept }

pub returns-in-1-clause-within : goal.returns-in-1-clause-within
returns-in-1-clause-within t c = let b = behind_expression c.requires.has_room c.in_ok-w.ensures c.in-Some.ensures c.in_ok-on.ensures.met c.in_ok-on.ensures.leaves in
    record { met = λ d h. expression_word_lem _ _ d _ c.in_ok-w.ensures c.in-Some.ensures c.in_ok-on.ensures.met b h (operands_v _ _ _ _ _ b.total c.in-1.is _ _ (also (λ e q. kept_kept b.kept q) c.secret.ensures.met)); leaves = leaves-same _ b.total c.secret.ensures.leaves }

pub expression-requires : goal.expression-requires
expression-requires t c = let b = behind_expression c.requires.has_room c.in_ok-w.ensures c.in-Some.ensures c.in_ok-on.ensures.met c.in_ok-on.ensures.leaves in
    (omega (arith, b.total, b.kept.more-cells), ready_kept c.requires.has_room b.kept)

pub returns-in_err-next-in_default-c-clause-within : goal.returns-in_err-next-in_default-c-clause-within
returns-in_err-next-in_default-c-clause-within t c = let b = behind_expression c.requires.has_room c.in_ok-w.ensures c.in-Some.ensures c.in_ok-on.ensures.met c.in_ok-on.ensures.leaves in
    let x = told-err _ _ c.from_residual-in_err-next-in_default-c.ensures.1 in
    record { met = λ d h. expression_word_lem _ _ d _ c.in_ok-w.ensures c.in-Some.ensures c.in_ok-on.ensures.met b h (operands_two _ _ _ _ _ _ c.in_default-c.in_default-c-own.rest.0.1 c.in_default-c.in_default-c-own.rest.1 _ _ (call_refused _ (expression_within _ _ _ _ b.total _ _ (c.in_err-next-in_default-c.ensures.within.met (d - 1) (fewer b h))) x)); leaves = leaves-refused _ x }

pub expression-requires-in_default-c : goal.expression-requires-in_default-c
expression-requires-in_default-c t c = let b = behind_expression c.requires.has_room c.in_ok-w.ensures c.in-Some.ensures c.in_ok-on.ensures.met c.in_ok-on.ensures.leaves in
    let p = behind_part c.in_ok-next-in_default-c.ensures.within in
    (omega (arith, p.total, p.kept.more-cells, b.total, b.kept.more-cells), rw c.expression.ensures.same.0 (ready_kept (ready_kept c.requires.has_room b.kept) p.kept))

pub returns-in_ok-next-in_default-c-clause-within : goal.returns-in_ok-next-in_default-c-clause-within
returns-in_ok-next-in_default-c-clause-within t c = let b = behind_expression c.requires.has_room c.in_ok-w.ensures c.in-Some.ensures c.in_ok-on.ensures.met c.in_ok-on.ensures.leaves in
    let p = behind_part c.in_ok-next-in_default-c.ensures.within in
    let w = rw (c.expression.ensures.same.0) at c.expression-in_default-c.ensures.within in
    record { met = λ d h. expression_word_lem _ _ d _ c.in_ok-w.ensures c.in-Some.ensures c.in_ok-on.ensures.met b h (operands_two _ _ _ _ _ _ c.in_default-c.in_default-c-own.rest.0.1 c.in_default-c.in_default-c-own.rest.1 _ _ (called _ (expression_within _ _ _ _ b.total _ _ (c.in_ok-next-in_default-c.ensures.within.met (d - 1) (fewer b h))) (expression_within _ _ _ _ (p.total ∙ b.total) _ _ (also (λ e q. kept_kept b.kept (kept_kept p.kept q)) (w.met (d - 1) (omega (arith, p.total, p.kept.more-cells, b.total, b.kept.more-cells, h))))))); leaves = leaves-same _ (p.total ∙ b.total) w.leaves }
