use Rattle.std.proofs.lemmas.Result.{err_from_is_err_and}
use Rattle.fields.specs.Field.{when_read}
use Rattle.lines.specs.LineOne.{line_one_at}
use borrow.Author.Tests.{eq-eqb, ne_eqb}
use Rattle.lines.proofs.line_one.Goals as goal

pub returns-in_err-w : goal.returns-in_err-w
unfolding line_one_at when_read
returns-in_err-w c = let p = err_from_is_err_and c.from_residual.result c.from_residual.ensures.1 in rw (p.1, p.2, ← c.in_err-w.ensures)

pub returns-then-w-ne-BITML : goal.returns-then-w-ne-BITML
unfolding line_one_at when_read
returns-then-w-ne-BITML c = rw (← c.in_ok-w.ensures, c.refused.ensures, ne_eqb _ _ c.if-w-ne-BITML.true)

pub returns : goal.returns
unfolding line_one_at when_read
returns c = rw (← c.in_ok-w.ensures, eq-eqb _ _ c.if-w-ne-BITML.false) c.counts.ensures
