use mathlib.Core.Path.{◌≡◌}
use mathlib.Core.List.{◌++◌, map}
use Prim.Native.Nat.{◌-◌}
use lib.ListN.{length, take}
use Rattle.duties.specs.Duties.{meant}
use Rattle.ledger.specs.Values.{values_of}
use Rattle.ledger.proofs.values.Given as goal

abbrev pub invariant-loop-value : goal.invariant-loop-value
invariant-loop-value l = map meant (take l.value-index l.out) ++ values_of l.s l.at (length l.initial.out - l.value-index) ≡ values_of l.s l.from (length l.initial.out)
