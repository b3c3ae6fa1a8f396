-- An event line, and what the code answers for it.
use Rattle.std.specs.Prelude.{ℕ, Result, Ok, Err}
use Rattle.refusals.specs.Numbers.{number}
use Rattle.fields.specs.declared.Refused.{Refused}
use Rattle.events.specs.declared.Event.{Event as Code}
use Rattle.events.specs.declared.Event.TheVariants as code

-- how long; participant, contract, branch; set, secret; contract, branch; contract, branch, where the values stand and how many: then the
-- position after the line. Or a refusal's number and the position before its field
pub data Event : Type 0 where
  Wait : ℕ → ℕ → Event
  Sign : ℕ → ℕ → ℕ → ℕ → Event
  Tell : ℕ → ℕ → ℕ → Event
  Fire : ℕ → ℕ → ℕ → Event
  Renew : ℕ → ℕ → ℕ → ℕ → ℕ → Event
  Bad : ℕ → ℕ → Event

abbrev pub event : Code → ℕ → Event
event (code.Wait d) e = Wait d e
event (code.Sign p c b) e = Sign p c b e
event (code.Tell i j) e = Tell i j e
event (code.Fire c b) e = Fire c b e
event (code.Renew c b f n) e = Renew c b f n e

abbrev pub told : Result (Code × ℕ) Refused → Event
told (Ok r) = event r.0 r.1
told (Err e) = Bad (number e.refusal) e.at
