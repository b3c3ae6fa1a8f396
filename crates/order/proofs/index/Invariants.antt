use Prim.Native.Nat.{◌+◌, ◌-◌}
use mathlib.Core.Path.{◌≡◌}
use mathlib.Core.List.{[]}
use lib.ListN.{drop}
use Rattle.bitml.specs.Rows.{repeated, falling}
use Rattle.buffer.specs.Buffer.{rows_of}
use Rattle.order.specs.Nodes.{Known}
use Rattle.order.proofs.Order.{Topped}
use Rattle.order.proofs.index.Given as goal

abbrev pub invariant-loop-i : goal.invariant-loop-i
invariant-loop-i l = Known (rows_of l.i l.rows) l.ranks × Topped l.above l.ranks
    × (repeated (l.i + 1) (rows_of l.i l.rows) (drop l.i (rows_of l.n l.rows)) ≡ repeated 1 [] (rows_of l.n l.rows))
    × (falling (l.i + 1) (l.above - 1) (drop l.i (rows_of l.n l.rows)) ≡ falling 1 0 (rows_of l.n l.rows))
