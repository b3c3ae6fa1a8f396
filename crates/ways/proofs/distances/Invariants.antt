use Prim.Native.Nat.{◌-◌, ◌≤◌, ◌<◌}
use mathlib.Core.Path.{◌≡◌}
use lib.ListN.{get_or}
use Rattle.tables.specs.Entries.{held, most_nodes}
use Rattle.ways.specs.Marks.{Searched, Close, LedUpTo}
use Rattle.ways.proofs.distances.Given as goal

-- the target is the first in the queue
abbrev pub ghost-visit_before : goal.ghost-visit_before
ghost-visit_before a = get_or a.search.now.queue 0 0

abbrev pub invariant-loop-head : goal.invariant-loop-head
invariant-loop-head l =
    let t = l.table.cells.now in
    let s = l.search in
    (s.marks.ghost_name ≡ l.initial.search.marks.ghost_name) × (l.head ≤ s.len) × Searched t l.target s × (get_or s.queue 0 0 ≡ l.target) × (get_or s.marks.now l.target 0 ≡ 1) × LedUpTo (held t) s.marks.now s.queue l.head × (l.head < s.len → Close s.marks.now (get_or s.marks.now (get_or s.queue l.head 0) 0))

abbrev pub decreases-loop-head : goal.decreases-loop-head
decreases-loop-head l = most_nodes - l.head
