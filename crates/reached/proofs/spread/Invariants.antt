use Rattle.reached.specs.Marks.{Spread}
use Rattle.tables.specs.Entries.{held}
use Rattle.reached.proofs.spread.Given as goal

abbrev pub invariant-loop-n : goal.invariant-loop-n
invariant-loop-n l = Spread (held l.table.cells.now) l.seen l.marks l.n
