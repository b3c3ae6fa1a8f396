use mathlib.Core.Path.{◌≡◌}
use Rattle.tables.specs.Entries.{held}
use Rattle.sheets.specs.Ready.{namers}
use Rattle.ways.specs.Marks.{Searched, Close, Further, RenewersLed}
use Rattle.ways.proofs.visit_renewers.Given as goal

abbrev pub invariant-loop-b : goal.invariant-loop-b
invariant-loop-b g l =
    let t = l.namers.table.cells.now in
    let s = l.search in
    (s.marks.ghost_name ≡ l.initial.search.marks.ghost_name) × Searched t g.target s × Close s.marks.now l.c × Further l.initial.search s × RenewersLed (held t) s.marks.now (namers (held t) l.d) l.b-index
