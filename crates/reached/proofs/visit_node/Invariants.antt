use Rattle.reached.specs.Marks.{Searched, Grown, NodeLed}
use Rattle.tables.specs.Entries.{held}
use Rattle.reached.proofs.visit_node.Given as goal

abbrev pub invariant-loop-b : goal.invariant-loop-b
invariant-loop-b l =
    let t = l.index.table.cells.now in
    let s = l.search in
    Searched t s × Grown l.initial.search.marks.now s.marks.now × NodeLed (held t) s.marks.now l.n l.b-index
