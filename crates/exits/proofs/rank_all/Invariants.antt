use Rattle.tables.specs.Entries.{held, people}
use Rattle.exits.specs.Costs.{Ranks}
use Rattle.exits.proofs.rank_all.Given as goal

abbrev pub invariant-loop-n : goal.invariant-loop-n
invariant-loop-n l = let t = l.index.table.cells.now in Ranks (people t) (held t) l.p l.ranks l.branches l.n
