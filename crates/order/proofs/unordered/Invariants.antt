use Prim.Native.Nat.{◌+◌}
use mathlib.Core.Path.{◌≡◌}
use lib.ListN.{drop}
use Rattle.bitml.specs.Rows.{repeated}
use Rattle.buffer.specs.Buffer.{rows_of}
use Rattle.order.specs.Nodes.{Known}
use Rattle.order.proofs.unordered.Given as goal

abbrev pub invariant-loop-j : goal.invariant-loop-j
invariant-loop-j l = Known (rows_of l.j l.rows) l.ranks × (repeated (l.j + 1) (rows_of l.j l.rows) (drop l.j (rows_of l.n l.rows)) ≡ repeated (l.from + 1) (rows_of l.from l.rows) (drop l.from (rows_of l.n l.rows)))
