use mathlib.Core.Path.{sym}
use Rattle.tables.proofs.Held.{held-nodes}
use Rattle.sheets.proofs.Table.node_total.Goals as goal

pub returns : goal.returns
returns c = sym (held-nodes _)
