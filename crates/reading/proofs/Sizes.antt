-- The limits of a sheet that a table holds, of the table's header. Assumes nothing.
use mathlib.Core.List.{List}
use Prim.Native.Nat.{ℕ}
use native.Mathlib.Omega.{arith}
use lib.ListN.{get_or}
use Rattle.tables.specs.Entries.{node_in, branch_in, def_in, listed_in, cell_in, held, people, Within}
use Rattle.tables.proofs.Runs.{first_of-length}
use Rattle.reading.specs.Promises.{Sizes}

pub sizes-within : (t : List ℕ) → Sizes (people t) (held t) → Within t
unfolding held
sizes-within t z =
    record {
      defs = omega (arith, z.defs.1, first_of-length (def_in t) (get_or t 1 0));
      nodes = omega (arith, z.nodes, first_of-length (node_in t) (get_or t 2 0));
      branches = omega (arith, z.branches, first_of-length (branch_in t) (get_or t 3 0));
      listed = omega (arith, z.listed, first_of-length (listed_in t) (get_or t 4 0));
      cells = omega (arith, z.cells, first_of-length (cell_in t) (get_or t 5 0));
    }
