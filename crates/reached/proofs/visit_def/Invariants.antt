use Prim.Native.Nat.{◌≤◌}
use Rattle.reached.specs.Marks.{Searched, Grown, DefLed}
use Rattle.tables.specs.SheetOf.{def_entry_at}
use Rattle.tables.specs.Entries.{held}
use Rattle.reached.proofs.visit_def.Given as goal

abbrev pub invariant-loop-n : goal.invariant-loop-n
invariant-loop-n l =
    let t = l.index.table.cells.now in
    let s = l.search in
    let root = (def_entry_at (held t) l.d).root in
    Searched t s × Grown l.initial.search.marks.now s.marks.now × (root ≤ l.n) × DefLed (held t) s.marks.now l.d root l.n
