use Prim.Native.Nat.{◌≤◌, ◌<◌, ◌-◌}
use lib.ListN.{get_or}
use Rattle.reached.specs.Marks.{Searched, LedUpTo}
use Rattle.tables.specs.Entries.{held}
use Rattle.reached.proofs.reach.Given as goal

abbrev pub invariant-loop-head : goal.invariant-loop-head
invariant-loop-head l =
    let t = l.index.table.cells.now in
    let s = l.search in
    (l.head ≤ s.len) × Searched t s × (0 < get_or s.marks.now 0 0) × LedUpTo (held t) s.marks.now l.head

abbrev pub decreases-loop-head : goal.decreases-loop-head
decreases-loop-head l = 32 - l.head
