use Prim.Native.Nat.{◌*◌}
use Rattle.tables.proofs.Runs.{run_3}
use Rattle.buffer.specs.Buffer.{row_wide, row_cells, stored}
use Rattle.buffer.proofs.put_row.Goals as goal

pub returns : goal.returns
unfolding stored row_cells
returns c = let a = c.args in run_3 a.u.now (row_wide * a.i) a.row.node a.row.branch a.row.rank
