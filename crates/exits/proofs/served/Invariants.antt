use Prim.Native.Nat.{◌≤◌, ◌<◌, ◌+◌, ◌*◌}
use mathlib.Core.Path.{◌≡◌}
use lib.ListN.{drop}
use Rattle.tables.specs.Entries.{most_nodes}
use Rattle.exits.specs.Costs.{ranks_at, served}
use Rattle.exits.proofs.served.Given as goal

abbrev pub invariant-loop-m : goal.invariant-loop-m
invariant-loop-m l = record {
  some : 0 < l.sum;
  small : l.sum ≤ 1 + most_nodes * l.m-index;
  same : served l.sum (ranks_at l.ranks (drop l.m-index l.m-items)) ≡ served 1 (ranks_at l.ranks l.m-items);
}
