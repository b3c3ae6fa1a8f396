use Rattle.conditions.proofs.Laws.{ready_kept, kept_kept, behind_part, leaves-refused, leaves-same, expression_within}
use Rattle.steps.proofs.Laws.{told-err, called, call_refused, also}
use native.Mathlib.Omega.{arith}
use Rattle.conditions.proofs.both_expressions.Goals as goal

pub returns-in_err-next-clause-within : goal.returns-in_err-next-clause-within
returns-in_err-next-clause-within c = let x = told-err _ _ c.from_residual.ensures.1 in record { met = λ d h. call_refused _ (c.in_err-next.ensures.within.met d h) x; leaves = leaves-refused _ x }

pub expression-requires-2 : goal.expression-requires-2
expression-requires-2 c = record { has_room = rw c.expression.ensures.same.0 (ready_kept c.requires.has_room (behind_part c.in_ok-next.ensures.within).kept) }

pub returns-clause-within : goal.returns-clause-within
returns-clause-within c = let p = behind_part c.in_ok-next.ensures.within in
    let w = rw (c.expression.ensures.same.0) at c.expression-2.ensures.within in
    record {
      met = λ d h. called _ (c.in_ok-next.ensures.within.met d h) (expression_within _ _ _ _ p.total _ _ (also (λ e q. kept_kept p.kept q) (w.met d (omega (arith, p.total, p.kept.more-cells, h)))));
      leaves = leaves-same _ p.total w.leaves;
    }
