use native.Mathlib.Omega.{arith}
use mathlib.Core.Path.{◌≡◌, ap, ◌∙◌}
use lib.ListN.{length}
use Rattle.buffer.specs.Buffer.{filled}
use Rattle.exits.specs.Made.{rows_by}
use Rattle.exits.proofs.Buffer.{put-none, put_skip, put_take}
use Rattle.exits.proofs.put_rows.Goals as goal
use Rattle.exits.proofs.put_rows.Goals.{then-marks-i-ne0, else-marks-i-ne0}

pub loop-i-init : goal.loop-i-init
loop-i-init c = put-none _ _ _ _ c.requires.rows_value

pub loop-i-preserved : goal.loop-i-preserved
loop-i-preserved c = let a = c.args in let l = c.loop-i in
    elim c.if-marks-i-ne0.branch [
      | then-marks-i-ne0 w ↦ rw (w.rows-is, w.count-is, w.put_row.ensures) (put_take a.marks.now a.ranks.now a.branches.now l.rows (length a.rows.now) l.i l.count l.invariant w.if-marks-i-ne0.true (omega (arith, l.invariant.few)))
      | else-marks-i-ne0 w ↦ rw (w.rows-is, w.count-is) (put_skip a.marks.now a.ranks.now a.branches.now l.rows (length a.rows.now) l.i l.count l.invariant w.if-marks-i-ne0.false)
    ]

pub returns : goal.returns
returns c = let a = c.args in let l = c.loop-i in
    let e : l.i ≡ a.n = omega arith in record { value = l.invariant.count ∙ ap (λ k. length (rows_by a.marks.now a.ranks.now a.branches.now k)) e; rows_after = l.invariant.is ∙ ap (λ k. filled (length a.rows.now) (rows_by a.marks.now a.ranks.now a.branches.now k)) e }
