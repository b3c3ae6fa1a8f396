use borrow.Author.Tests.{le-ltb, lt-ltb}
use Rattle.std.proofs.lemmas.Result.{err_from_is_err_and}
use Rattle.fields.specs.Field.{between_at, when_read}
use Rattle.reader.proofs.Reader.number_between.Goals as goal

pub returns-in_err-v : goal.returns-in_err-v
unfolding between_at when_read
returns-in_err-v c = let p = err_from_is_err_and c.from_residual.result c.from_residual.ensures.1 in rw (p.1, p.2, ← c.in_err-v.ensures)

pub returns-then-v-low : goal.returns-then-v-low
unfolding between_at when_read
returns-then-v-low c = rw (← c.in_ok-v.ensures, c.refused.ensures, lt-ltb _ _ c.if-v-low.true)

pub returns : goal.returns
unfolding between_at when_read
returns c = rw (← c.in_ok-v.ensures, le-ltb _ _ c.if-v-low.false)
