use native.Mathlib.Nat.{add-sub_cancel_left}
use native.Mathlib.Omega.{arith}
use mathlib.Core.Path.{sym}
use Rattle.tables.proofs.Held.{held-cells, cells_part}
use Rattle.sheets.proofs.Table.conditions.Goals as goal

pub overflow_add-result : goal.overflow_add-result
overflow_add-result c = omega (arith, held-cells c.args.self.cells.now, c.args.self.ready.long)

pub slice_bounds-result-end : goal.slice_bounds-result-end
slice_bounds-result-end c = omega (arith, held-cells c.args.self.cells.now, c.args.self.ready.long)

pub returns : goal.returns
returns c = let t = c.args.self.cells.now in rw (add-sub_cancel_left, ← held-cells t) (sym (cells_part t c.args.self.ready.long))
