use mathlib.Core.Path.{sym}
use Rattle.tables.proofs.Held.{listed-held}
use Rattle.sheets.proofs.Table.listed_at.Goals as goal

pub returns : goal.returns
returns c = sym (listed-held _ _ c.requires.i_in_bounds)
