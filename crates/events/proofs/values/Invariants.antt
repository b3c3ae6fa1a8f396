use Prim.Native.Nat.{◌-◌}
use mathlib.Core.Path.{◌≡◌}
use Rattle.events.specs.Events.{most_values, values_from}
use Rattle.events.proofs.values.Given as goal

abbrev pub invariant-loop-n : goal.invariant-loop-n
invariant-loop-n l = values_from l.r.request.now (most_values - l.n) l.n l.at ≡ values_from l.r.request.now most_values 0 l.r.at
