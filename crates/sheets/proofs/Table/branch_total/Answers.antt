use mathlib.Core.Path.{sym}
use Rattle.tables.proofs.Held.{held-branches}
use Rattle.sheets.proofs.Table.branch_total.Goals as goal

pub returns : goal.returns
returns c = sym (held-branches _)
