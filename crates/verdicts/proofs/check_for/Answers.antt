use mathlib.Core.Path.{sym, ◌∙◌}
use native.Mathlib.Omega.{arith}
use lib.ListN.{length}
use Rattle.bitml.specs.Rows.{check}
use Rattle.bitml.specs.Answers.{answer}
use Rattle.tables.specs.Entries.{held, people}
use Rattle.tables.specs.SheetOf.{sheet_in}
use Rattle.tables.proofs.SheetOf.{defs-are}
use Rattle.buffer.specs.Buffer.{rows_of}
use Rattle.buffer.proofs.Buffer.{rows-length}
use Rattle.replies.proofs.Giving.{gives_as}
use Rattle.exits.proofs.Told.{root-first}
use Rattle.verdicts.proofs.Verdicts.{check-liquid, check-refused, place-few}
use Rattle.verdicts.proofs.check_for.Goals as goal

pub overflow_add-def_total-in-Err : goal.overflow_add-def_total-in-Err
overflow_add-def_total-in-Err c =
    let a = c.args in
    let t = c.index-index.result.table.cells.now in
    let k = place-few (sheet_in t) a.p (rows_of a.n a.rows.now) _ _ c.in-Err.ensures.value in
    (omega (arith, k, rows-length a.n a.rows.now, c.requires.rows_fit.few, a.table.ready.promises.limits.defs, c.def_total.ensures))

pub returns-in-Ok : goal.returns-in-Ok
unfolding answer
returns-in-Ok c =
    let a = c.args in
    let t = c.index-index.result.table in
    let R = rows_of a.n a.rows.now in
    let s = sheet_in t.cells.now in
    let v = c.in-Ok.ensures in
    rw (← c.index-index.ensures.table)
    (gives_as c.answered.ensures
    (check-liquid s a.p (root-first t.cells.now t.ready) (length a.rows.now) (length a.text.now) _ _ c.clear.ensures R (check s a.p R) _ _ _ _ v.value v.rows_after c.put_liquid.ensures))

pub returns-in-Err : goal.returns-in-Err
unfolding answer
returns-in-Err c =
    let a = c.args in
    let t = c.index-index.result.table in
    let R = rows_of a.n a.rows.now in
    let s = sheet_in t.cells.now in
    let v = c.in-Err.ensures in
    rw (← c.index-index.ensures.table)
    (gives_as c.declined.ensures
    (check-refused s a.p (root-first t.cells.now t.ready) (length a.rows.now) (length a.text.now) _ _ c.clear.ensures R (check s a.p R) _ _ _ (rw c.number.ensures v.value) v.rows_after (rw c.index-index.ensures.table (c.def_total.ensures ∙ sym (defs-are (people a.table.cells.now) (held a.table.cells.now))))))
