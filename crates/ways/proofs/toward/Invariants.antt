use lib.ListN.{get_or}
use Prim.Native.Nat.{◌-◌}
use Rattle.tables.specs.Entries.{held, people}
use Rattle.ways.proofs.Turning.{NoneBefore}
use Rattle.ways.proofs.toward.Given as goal

abbrev pub invariant-loop-branch : goal.invariant-loop-branch
invariant-loop-branch l = let t = l.index.table.cells.now in NoneBefore (people t) (held t) l.dist l.n (get_or l.dist l.n 0 - 1) l.branch
