use Rattle.std.proofs.lemmas.Result.{err_from_is_err_and}
use Rattle.steps.specs.Steps.{moved}
use Rattle.steps.proofs.letters.Goals as goal

pub returns-in_err-w : goal.returns-in_err-w
unfolding moved
returns-in_err-w c = let p = err_from_is_err_and c.from_residual.result c.from_residual.ensures.1 in rw (p.1, p.2, ← c.in_err-w.ensures)

pub returns : goal.returns
unfolding moved
returns c = rw (← c.in_ok-w.ensures)
