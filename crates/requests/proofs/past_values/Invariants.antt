use Prim.Native.Nat.{◌-◌}
use mathlib.Core.Path.{◌≡◌}
use Rattle.requests.specs.Part.{past_values_at}
use Rattle.requests.proofs.past_values.Given as goal

abbrev pub invariant-loop : goal.invariant-loop
invariant-loop l = past_values_at l.r.request.now (l.n - l.counter) l.at ≡ past_values_at l.r.request.now l.n l.r.at
