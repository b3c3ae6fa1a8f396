use Rattle.steps.proofs.Laws.{told_state-err, called, call_refused, promised}
use mathlib.Core.Path.{refl}
use Rattle.lines.proofs.Laws.{root_from, finish, defined}
use Rattle.lines.proofs.root.Goals as goal

pub returns-in_err-e-clause-met : goal.returns-in_err-e-clause-met
returns-in_err-e-clause-met c = root_from _ _ _ _ _ _ _ _ c.put_def-next.ensures.1 _ _ (call_refused _ c.in_err-e.ensures.met (told_state-err _ _ c.from_residual.ensures.1))

pub returns-clause-met : goal.returns-clause-met
returns-clause-met c = root_from _ _ _ _ _ _ _ _ c.put_def-next.ensures.1 _ _ (called _ c.in_ok-e.ensures.met (finish _ _ _ _ _ (rw (c.contract.ensures.same.0) at c.end_line.ensures) (λ e k. defined _ _ _ _ _ (promised c.in_ok-e.ensures.met) refl k)))
