use Rattle.tables.specs.Entries.{held}
use Rattle.tables.specs.SheetOf.{cond_at}
use Rattle.duties.proofs.Secrets.{lent-holds}
use Rattle.duties.proofs.holds_for.Goals as goal

pub returns : goal.returns
returns c = let a = c.args in lent-holds a.value.now a.base a.known (cond_at (held a.table.cells.now) a.c) c.condition_holds.ensures
