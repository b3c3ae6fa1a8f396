-- The events of a request are in range. Assumes nothing.
use mathlib.Core.Path.{◌≡◌}
use Prim.Native.Nat.{ℕ, zero, suc, ◌-◌}
use mathlib.Core.List.{List, []}
use lib.ListN.{length}
use lib.Dec.{ltb}
use Rattle.bitml.specs.Lists.{All, nil, cons}
use Rattle.fields.specs.Field.{Value}
use Rattle.fields.proofs.Ranges.{when_read-cases, cond_cases, never}
use Rattle.events.specs.Events.{event_at, next_of}
use Rattle.events.specs.Event.{Event}
use Rattle.events.specs.Event as line
use Rattle.events.proofs.Sound.{Sound, event_sound}
use Rattle.promises.specs.Refusals.{InRange}
use Rattle.plays.specs.Events.{event_of, events_up_to, events_of}

event_range : (s : List ℕ) (people at : ℕ) (x : Event) → Sound s people at x → (v e : ℕ) → next_of x ≡ Value v e → InRange (event_of s x)
unfolding Sound next_of event_of InRange
event_range s people at (line.Wait d f) h v e i = (h.0, h.1)
event_range s people at (line.Sign p c b f) h v e i = tt
event_range s people at (line.Tell j k f) h v e i = tt
event_range s people at (line.Fire c b f) h v e i = tt
event_range s people at (line.Renew c b g n f) h v e i = tt
event_range s people at (line.Bad n p) h v e i = never n p v e i

up-range : (s : List ℕ) (people n at : ℕ) → All InRange (events_up_to s people n at)
unfolding events_up_to
up-range s people zero at = nil
up-range s people (suc n) at =
    cond_cases (All InRange) (ltb at (length s)) _ []
    (λ t. when_read-cases (All InRange) (λ m p. []) (next_of (event_at s people at)) _ (λ m p. nil) λ v e g.
    cons (event_range s people at (event_at s people at) (event_sound s people at) v e g) (up-range s people n e))
    (λ t. nil)

pub events-range : (s : List ℕ) (people at : ℕ) → All InRange (events_of s people at)
unfolding events_of
events-range s people at = up-range s people (length s - at) at
