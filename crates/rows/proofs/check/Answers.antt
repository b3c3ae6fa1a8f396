use mathlib.Core.Path.{refl, ap, ◌∙◌}
use Rattle.std.proofs.lemmas.Result.{err_from_is_err_and}
use Rattle.buffer.specs.Buffer.{rows_of}
use Rattle.buffer.proofs.Buffer.{rows-length}
use Rattle.refusals.proofs.Numbers.{number-some}
use Rattle.order.specs.Nodes.{as_fault}
use Rattle.order.proofs.Ranks.{known_none}
use Rattle.rows.specs.Given.{answer_of}
use Rattle.rows.proofs.Judged.{answer-refused, answer-liquid}
use Rattle.rows.proofs.check.Goals as goal

pub first_fault-requires-clause-known : goal.first_fault-requires-clause-known
first_fault-requires-clause-known c = known_none

pub returns-in_err-first_fault : goal.returns-in_err-first_fault
returns-in_err-first_fault c = let a = c.args in let R = rows_of a.n a.rows.now in let f = c.in_err-first_fault.field-0.0 in
    let p = err_from_is_err_and c.from_residual.result c.from_residual.ensures.1 in
    rw (p.1, p.2) (answer-refused R (as_fault f) (number-some f.refusal) ∙ ap (answer_of R) c.in_err-first_fault.ensures.value)

pub returns : goal.returns
returns c = let a = c.args in let R = rows_of a.n a.rows.now in let f = c.in_ok-first_fault.ensures in
    answer-liquid R _ a.n _ refl (rows-length a.n a.rows.now) (f.ranks_known.rank 0) ∙ ap (answer_of R) f.value
