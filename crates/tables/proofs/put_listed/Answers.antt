use Rattle.tables.proofs.Laws.{put-listed}
use mathlib.Core.Path.{refl}
use Rattle.tables.proofs.put_listed.Goals as goal

pub returns : goal.returns
returns c = (refl, put-listed _ _ _ c.requires.fits c.requires.listed_lt_most_listed c.requires.cells_from_in_bounds)
