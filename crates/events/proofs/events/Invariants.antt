use Prim.Native.Nat.{◌-◌}
use mathlib.Core.Path.{◌≡◌}
use lib.ListN.{length}
use Rattle.events.specs.Events.{events_at}
use Rattle.events.proofs.events.Given as goal

abbrev pub invariant-loop-at : goal.invariant-loop-at
invariant-loop-at l = events_at l.r.request.now l.people l.at ≡ events_at l.r.request.now l.people l.r.at

abbrev pub decreases-loop-at : goal.decreases-loop-at
decreases-loop-at l = length l.r.request.now - l.at
