use Rattle.tables.proofs.Runs.{run_3}
use Rattle.tables.proofs.Laws.{put-def}
use Rattle.tables.specs.Entries.{def_cells}
use mathlib.Core.Path.{refl}
use Rattle.tables.proofs.put_def.Goals as goal

pub returns : goal.returns
unfolding def_cells
returns c = (refl, rw run_3 (put-def _ _ _ _ _ c.requires.fits c.requires.defs_lt_most_defs c.requires.cells_from_in_bounds))
