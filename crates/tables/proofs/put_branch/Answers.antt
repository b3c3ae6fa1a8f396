use Rattle.tables.proofs.Runs.{run_8}
use Rattle.tables.proofs.Laws.{put-branch}
use Rattle.tables.specs.Entries.{branch_cells}
use mathlib.Core.Path.{refl}
use Rattle.tables.proofs.put_branch.Goals as goal

pub returns : goal.returns
unfolding branch_cells
returns c = (refl, rw run_8 (put-branch _ _ _ _ c.requires.fits c.requires.branches_lt_most_branches c.requires.cells_from_in_bounds))
