use borrow.Author.Tests.{le-leb, lt-leb}
use Rattle.std.proofs.lemmas.Result.{err_from_is_err_and}
use Rattle.fields.specs.Field.{when_read}
use Rattle.fields.proofs.Laws.{number_capped}
use Rattle.reader.proofs.Reader.number_up_to.Goals as goal

pub returns-in_err-v : goal.returns-in_err-v
unfolding when_read
returns-in_err-v c = let p = err_from_is_err_and c.from_residual.result c.from_residual.ensures.1 in rw (p.1, p.2, number_capped, ← c.in_err-v.ensures)

pub returns-then-max-v : goal.returns-then-max-v
unfolding when_read
returns-then-max-v c = rw (number_capped, ← c.in_ok-v.ensures, c.refused.ensures, lt-leb _ _ c.if-max-v.true)

pub returns : goal.returns
unfolding when_read
returns c = rw (number_capped, ← c.in_ok-v.ensures, le-leb _ _ c.if-max-v.false)
