use Prim.Native.Nat.{◌+◌}
use mathlib.Core.Path.{◌∙◌, refl, ap}
use native.Mathlib.Omega.{arith}
use Rattle.std.proofs.lemmas.Result.{err_from_is_err_and}
use Rattle.requests.proofs.Laws.{row-numbers, rows_on, rows-none, rows-other, rows-bad, rows_end, rows-full, holds}
use Rattle.requests.specs.Rows.{rows_at}
use Rattle.tables.specs.Entries.{first_of}
use Rattle.buffer.specs.Buffer.{past_rows, rows_of}
use Rattle.buffer.proofs.Buffer.{row_more, row-rest, rest_more, rows-length}
use Rattle.requests.proofs.rows.Goals as goal

pub loop-at-init : goal.loop-at-init
unfolding rows_of first_of
loop-at-init c = (omega arith, refl, refl, refl)

pub returns-in_err-w : goal.returns-in_err-w
unfolding rows_at
returns-in_err-w c =
    let p = err_from_is_err_and c.from_residual.result c.from_residual.ensures.1 in
    let l = c.loop-at in
    rw (p.1, p.2) (holds _ _ _ _ l.i (rows-none _ _ _ _ _ _ _ _ c.loop-at-test.true c.in_err-w.ensures ∙ l.invariant.3) l.invariant.2)

pub returns-then-w-ne-ROW : goal.returns-then-w-ne-ROW
unfolding rows_at
returns-then-w-ne-ROW c =
    let l = c.loop-at in
    rw c.refused.ensures (holds _ _ _ _ l.i (rows-other _ _ _ _ _ _ _ _ c.loop-at-test.true c.in_ok-w.ensures c.if-w-ne-ROW.true ∙ l.invariant.3) l.invariant.2)

pub returns-then-i-eq-ROWS : goal.returns-then-i-eq-ROWS
unfolding rows_at
returns-then-i-eq-ROWS c =
    let l = c.loop-at in
    rw c.refused-then-i-eq-ROWS.ensures
    (holds _ _ _ _ l.i (rows-full _ _ _ _ _ _ _ _ c.loop-at-test.true c.in_ok-w.ensures c.if-w-ne-ROW.false c.if-i-eq-ROWS.true ∙ l.invariant.3) l.invariant.2)

pub returns-in_err-row : goal.returns-in_err-row
unfolding rows_at
returns-in_err-row c =
    let p = err_from_is_err_and c.from_residual-in_err-row.result c.from_residual-in_err-row.ensures.1 in
    let l = c.loop-at in
    rw (p.1, p.2) (holds _ _ _ _ l.i (rows-bad _ _ _ _ _ _ (omega arith) c.loop-at-test.true _ _ (c.in_err-row.ensures ∙ row-numbers _ _ _ _ _ _ c.in_ok-w.ensures c.if-w-ne-ROW.false) ∙ l.invariant.3) l.invariant.2)

pub loop-at-preserved : goal.loop-at-preserved
loop-at-preserved c =
    let l = c.loop-at in (
      omega arith,
      c.put_row.auto.u ∙ l.invariant.1,
      ap (past_rows (l.i + 1)) c.put_row.ensures ∙ row-rest l.buffer l.i _ ∙ rest_more _ _ _ l.invariant.2,
      rw (c.put_row.ensures, row_more l.buffer l.i _ (omega arith)) (rows_on _ _ _ _ _ _ (omega arith) c.loop-at-test.true _ _ _ _ (c.in_ok-row.ensures ∙ row-numbers _ _ _ _ _ _ c.in_ok-w.ensures c.if-w-ne-ROW.false) ∙ l.invariant.3),
    )

pub returns : goal.returns
unfolding rows_at
returns c = holds _ _ _ _ c.loop-at.i (rows_end _ _ _ _ _ _ _ (rows-length c.loop-at.i _) c.loop-at-test.false ∙ c.loop-at.invariant.3) c.loop-at.invariant.2
