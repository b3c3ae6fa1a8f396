use Rattle.tables.proofs.Runs.{run_4}
use Rattle.tables.proofs.Laws.{put-node}
use Rattle.tables.specs.Entries.{node_cells}
use mathlib.Core.Path.{refl}
use Rattle.tables.proofs.put_node.Goals as goal

pub returns : goal.returns
unfolding node_cells
returns c = (refl, rw run_4 (put-node _ _ _ _ _ _ c.requires.fits c.requires.nodes_lt_most_nodes c.requires.cells_from_in_bounds))
