-- Which numbers refuse: a request while it is read, and the events of a play. Assumes nothing.
use Rattle.std.specs.Prelude.{◌≡◌, ◌⊎◌, ℕ, ◌≤◌}
use mathlib.Core.List.{List, [], ◌∷◌, Memᴰ}
use Rattle.bitml.specs.Lists.{All}
use Rattle.bitml.specs.Sheet.{Sheet}
use Rattle.bitml.specs.Ledger.{Ledger, Event, wait, sign, tell, fire, renew}
use Rattle.bitml.specs.Limits.{limited_refusal, answers}
use Rattle.reading.specs.Request.{refused, read_request}

-- ---- while a request is read

-- "The reader goes field by field over the whole request": as in a sheet, of the numbers "2 to 9" one applies
unfoldable pub ReadNumber : ℕ → Type 0
ReadNumber n = (2 ≤ n) × (n ≤ 9)

-- "Printed: `refused`,number,line,field (from 1; ..)"
pub record WhileReading (n l f : ℕ) : Type 0 where
  pub number : ReadNumber n
  pub line : 1 ≤ l
  pub field : 1 ≤ f

-- of every request that is not read whole
unfoldable pub OfReadings : Type 0
OfReadings = (s : List ℕ) (n l f : ℕ) → read_request s ≡ refused n l f → WhileReading n l f

-- ---- by the ledger: an event that is taken gets 0

-- "14 .. contract unknown or dead", up to "19 .. a limit of the program's ledger": those that can refuse each kind of event
unfoldable pub refusals : Event → List ℕ
refusals (wait d) = 19 ∷ []
refusals (sign p c b) = 14 ∷ 16 ∷ []
refusals (tell i j) = 17 ∷ []
refusals (fire c b) = 14 ∷ 15 ∷ 16 ∷ 17 ∷ 19 ∷ []
refusals (renew c b vs) = 14 ∷ 15 ∷ 16 ∷ 18 ∷ 19 ∷ []

-- "`wait`,d (1 to 4,294,967,295)": any other gets 4 while it is read
unfoldable pub InRange : Event → Type 0
InRange (wait d) = (1 ≤ d) × (d ≤ 4294967295)
InRange (sign p c b) = Unit {0}
InRange (tell i j) = Unit {0}
InRange (fire c b) = Unit {0}
InRange (renew c b vs) = Unit {0}

-- "An event is taken when all that its line asks holds; otherwise it is refused": by 14 to 19
unfoldable pub EventNumber : ℕ → Type 0
EventNumber n = (n ≡ 0) ⊎ ((14 ≤ n) × (n ≤ 19))

pub record OfEvents : Type 0 where
  -- "Events: the lowest that applies": of any event, whatever the ledger
  pub kinds : (S : Sheet) (l : Ledger) (e : Event) → InRange e → Memᴰ (limited_refusal S l e) (0 ∷ refusals e)
  pub numbers : (S : Sheet) (l : Ledger) (e : Event) → InRange e → EventNumber (limited_refusal S l e)
  -- "play goes on": of all events of a list
  pub all : (S : Sheet) (l : Ledger) (es : List Event) → All InRange es → All EventNumber (answers S l es)
