use mathlib.Core.Path.{sym}
use native.Mathlib.Omega.{arith}
use Rattle.fields.proofs.Ranges.{below_end}
use Rattle.requests.proofs.row_numbers.Goals as goal

pub branch_count-requires-clause-node_lt_most_nodes : goal.branch_count-requires-clause-node_lt_most_nodes
branch_count-requires-clause-node_lt_most_nodes c = let l = below_end _ _ _ _ _ (sym c.in_ok-node.ensures) in omega arith
