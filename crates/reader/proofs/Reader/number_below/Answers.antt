use borrow.Author.Tests.{le-ltb, lt-ltb}
use Rattle.std.proofs.lemmas.Result.{err_from_is_err_and}
use Rattle.fields.specs.Field.{below_at, when_read}
use Rattle.reader.proofs.Reader.number_below.Goals as goal

pub returns-in_err-v : goal.returns-in_err-v
unfolding below_at when_read
returns-in_err-v c = let p = err_from_is_err_and c.from_residual.result c.from_residual.ensures.1 in rw (p.1, p.2, ← c.in_err-v.ensures)

pub returns-then-n-v : goal.returns-then-n-v
unfolding below_at when_read
returns-then-n-v c = rw (← c.in_ok-v.ensures, c.refused.ensures, le-ltb _ _ c.if-n-v.true)

pub returns : goal.returns
unfolding below_at when_read
returns c = rw (← c.in_ok-v.ensures, lt-ltb _ _ c.if-n-v.false)
