use Rattle.tables.proofs.Laws.{put-cell}
use mathlib.Core.Path.{refl}
use Rattle.tables.proofs.put_cell.Goals as goal

pub returns : goal.returns
returns c = (refl, put-cell _ _ _ c.requires.fits c.requires.cells_lt_most_cells c.requires.cells_in_bounds)
