use mathlib.Core.Path.{sym, ap, ◌∙◌}
use lib.ListN.{get_or}
use Rattle.std.proofs.lemmas.Result.{err_from_is_err_and}
use Rattle.bitml.specs.Rows.{Fault}
use Rattle.tables.specs.Entries.{held, people}
use Rattle.tables.specs.SheetOf.{sheet_in}
use Rattle.buffer.specs.Buffer.{rows_of}
use Rattle.refusals.proofs.Numbers.{number-some}
use Rattle.order.specs.Nodes.{as_fault}
use Rattle.rows.proofs.Promised.{rows-small}
use Rattle.rows.proofs.Judged.{check-order, check-root, check-rest}
use Rattle.rows.proofs.first_fault.Goals as goal

pub index-requires-clause-rows_small : goal.index-requires-clause-rows_small
index-requires-clause-rows_small c = let a = c.args in let t = a.index.table in rows-small t.cells.now a.rows.now a.n t.ready c.requires.rows_fit

pub returns-in_err-index-clause-value : goal.returns-in_err-index-clause-value
returns-in_err-index-clause-value c = let a = c.args in let f = c.in_err-index.field-0.0 in
    let p = err_from_is_err_and c.from_residual.result c.from_residual.ensures.1 in
    rw (p.1, p.2) (check-order (sheet_in a.index.table.cells.now) a.p (rows_of a.n a.rows.now) (as_fault f) c.in_err-index.ensures.value (number-some f.refusal))

pub returns-then-ranks-definition-eq0-clause-value : goal.returns-then-ranks-definition-eq0-clause-value
returns-then-ranks-definition-eq0-clause-value c = let a = c.args in let t = a.index.table in let A = c.index.new.ranks in let i = c.in_ok-index.ensures in
    check-root (people t.cells.now) (held t.cells.now) a.p t.ready.promises (rows_of a.n a.rows.now) A i.ranks_known (sym (ap (λ (f : Fault). f.number) i.value)) (ap (λ m. get_or A m 0) (sym c.definition.ensures.root) ∙ c.if-ranks-definition-eq0.true)

pub returns-clause-value : goal.returns-clause-value
returns-clause-value c = let a = c.args in let t = a.index.table in let A = c.index.new.ranks in let i = c.in_ok-index.ensures in
    c.faults.ensures ∙ check-rest (people t.cells.now) (held t.cells.now) a.p t.ready.promises (rows_of a.n a.rows.now) A i.ranks_known (sym (ap (λ (f : Fault). f.number) i.value)) (λ q. c.if-ranks-definition-eq0.false (ap (λ m. get_or A m 0) c.definition.ensures.root ∙ q))
