use Prim.Native.Nat.{◌-◌, ◌<◌}
use mathlib.Core.Path.{◌≡◌}
use Rattle.std.specs.Prelude.{IfSome}
use Rattle.tables.specs.Entries.{held, people}
use Rattle.tables.specs.SheetOf.{branch_count}
use Rattle.exits.specs.Costs.{as_choice, chosen_from}
use Rattle.exits.proofs.choose.Given as goal

abbrev pub invariant-loop-i : goal.invariant-loop-i
invariant-loop-i l = let t = l.index.table.cells.now in record {
  some : IfSome l.best (λ c. 0 < c.rank);
  same : as_choice l.best ≡ chosen_from (people t) (held t) l.p l.n l.ranks l.i (branch_count (held t) l.n - l.i);
}
