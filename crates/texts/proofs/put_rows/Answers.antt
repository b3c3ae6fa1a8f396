use Rattle.std.proofs.Common.{◌-◌, arith}
use Rattle.texts.proofs.Texts.{rows-up, wrote_no_row, wrote-row}
use Rattle.texts.proofs.put_rows.Goals as goal

pub loop-i-init : goal.loop-i-init
loop-i-init c = wrote_no_row _ _ _

pub put_row-e-requires : goal.put_row-e-requires
put_row-e-requires c = let n = c.args.n in let i = c.loop-i.i in omega (arith, c.loop-i.invariant.end, rows-up (n - i) i n c.args.rows.now (omega arith))

pub loop-i-preserved : goal.loop-i-preserved
loop-i-preserved c = let r = rw (c.row_at.ensures.node, c.row_at.ensures.branch, c.row_at.ensures.rank) at c.put_row-e.ensures in wrote-row c.loop-i.i c.args.rows.now c.loop-i.invariant r
