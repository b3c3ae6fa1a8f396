use Prim.Native.Nat.{◌+◌}
use mathlib.Core.Path.{◌≡◌}
use lib.ListN.{drop}
use Rattle.bitml.specs.Rows.{faulty}
use Rattle.tables.specs.SheetOf.{sheet_in}
use Rattle.buffer.specs.Buffer.{rows_of}
use Rattle.rows.proofs.faults.Given as goal

abbrev pub invariant-loop-i : goal.invariant-loop-i
invariant-loop-i l = let s = sheet_in l.index.table.cells.now in let R = rows_of l.n l.rows in faulty s l.p R (l.i + 1) (drop l.i R) ≡ faulty s l.p R 1 R
