use mathlib.Core.Path.{sym}
use Rattle.tables.proofs.Held.{held-defs}
use Rattle.sheets.proofs.Table.def_total.Goals as goal

pub returns : goal.returns
returns c = sym (held-defs _)
