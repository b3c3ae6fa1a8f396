-- The events of a request, as a list. Assumes nothing.
use Rattle.std.specs.Prelude.{ℕ, zero, suc, ◌-◌, cond, List, [], ◌∷◌, length, ltb}
use Rattle.bitml.specs.Ledger.{Event, wait, sign, tell, fire, renew}
use Rattle.fields.specs.Field.{when_read}
use Rattle.events.specs.Events.{event_at, next_of}
use Rattle.events.specs.Event as line
use Rattle.ledger.specs.Values.{values_of}

-- "`wait`,d"; "`sign`,p,c,b"; "`tell`,i,j"; "`fire`,c,b"; "`renew`,c,b, up to 8 values". A refusal is no event
unfoldable pub event_of : List ℕ → line.Event → Event
event_of s (line.Wait d e) = wait d
event_of s (line.Sign p c b e) = sign p c b
event_of s (line.Tell i j e) = tell i j
event_of s (line.Fire c b e) = fire c b
event_of s (line.Renew c b f n e) = renew c b (values_of s f n)
event_of s (line.Bad n p) = wait 0

-- up to so many lines
unfoldable pub events_up_to : List ℕ → ℕ → ℕ → ℕ → List Event
events_up_to s people zero at = []
events_up_to s people (suc n) at =
    cond (ltb at (length s)) (when_read (λ m p. []) (next_of (event_at s people at)) λ v e. event_of s (event_at s people at) ∷ events_up_to s people n e) []

-- "event lines": those from a position to the request's end. A line takes a byte or more, so as many as there are bytes left are all
unfoldable pub events_of : List ℕ → ℕ → ℕ → List Event
events_of s people at = events_up_to s people (length s - at) at
