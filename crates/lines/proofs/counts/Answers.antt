use Rattle.std.proofs.lemmas.Result.{err_from_is_err_and}
use Rattle.fields.specs.Field.{when_read}
use Rattle.lines.specs.LineOne.{counts_at}
use Rattle.lines.proofs.counts.Goals as goal

pub returns-in_err-k : goal.returns-in_err-k
unfolding counts_at when_read
returns-in_err-k c = let p = err_from_is_err_and c.from_residual.result c.from_residual.ensures.1 in rw (p.1, p.2, ← c.in_err-k.ensures)

pub returns-in_err-n : goal.returns-in_err-n
unfolding counts_at when_read
returns-in_err-n c = let p = err_from_is_err_and c.from_residual-in_err-n.result c.from_residual-in_err-n.ensures.1 in rw (p.1, p.2, ← c.in_ok-k.ensures, ← c.in_err-n.ensures)

pub returns-in_err-e : goal.returns-in_err-e
unfolding counts_at when_read
returns-in_err-e c = let p = err_from_is_err_and c.from_residual-in_err-e.result c.from_residual-in_err-e.ensures.1 in rw (p.1, p.2, ← c.in_ok-k.ensures, ← c.in_ok-n.ensures, ← c.in_err-e.ensures)

pub returns : goal.returns
unfolding counts_at when_read
returns c = rw (← c.in_ok-k.ensures, ← c.in_ok-n.ensures, ← c.in_ok-e.ensures)
