use Rattle.std.proofs.lemmas.Result.{err_from_is_err_and}
use Rattle.steps.specs.Steps.{moved}
use Rattle.steps.proofs.end_line.Goals as goal

pub returns-in_err-at : goal.returns-in_err-at
unfolding moved
returns-in_err-at c = let p = err_from_is_err_and c.from_residual.result c.from_residual.ensures.1 in rw (p.1, p.2, ← c.in_err-at.ensures)

pub returns : goal.returns
unfolding moved
returns c = rw (← c.in_ok-at.ensures)
