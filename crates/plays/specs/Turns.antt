-- The event that is due. Assumes nothing.
use Rattle.std.specs.Prelude.{◌≡◌, ℕ, ◌+◌, ◌≤◌, ◌<◌, List, length, get_or, Option, Some, None}
use Rattle.bitml.specs.Ledger.{Event, wait, sign, tell, fire, renew}
use Rattle.bitml.specs.Answers.{event_line}
use Rattle.fields.specs.Field.{Value}
use Rattle.tables.specs.Entries.{people}
use Rattle.events.specs.declared.Event.{Event as Code}
use Rattle.events.specs.declared.Event.TheVariants as code
use Rattle.events.specs.Events.{event_at, next_of}
use Rattle.ledger.specs.Values.{values_of}
use Rattle.texts.specs.Text.{line_text}
use Rattle.texts.specs.Wrote.{Wrote}
use Rattle.plays.specs.declared.Turn.{Turn}
use Rattle.plays.specs.Events.{event_of}

-- the event that the code read
abbrev pub event_in : List ℕ → Code → Event
event_in s (code.Wait d) = wait d
event_in s (code.Sign p c b) = sign p c b
event_in s (code.Tell i j) = tell i j
event_in s (code.Fire c b) = fire c b
event_in s (code.Renew c b f n) = renew c b (values_of s f n)

-- what the ledger asks of it, of so many participants
abbrev pub InRange : ℕ → Code → Type 0
InRange people (code.Wait d) = (1 ≤ d) × (d ≤ 4294967295)
InRange people (code.Sign p c b) = p < people
InRange people (code.Tell i j) = Unit {0}
InRange people (code.Fire c b) = Unit {0}
InRange people (code.Renew c b f n) = n ≤ 8

-- x is the event whose line starts at `at`, and the next line starts at q
pub record IsAt (s t : List ℕ) (at : ℕ) (x : Code) (q : ℕ) : Type 0 where
  pub range : InRange (people t) x
  pub is : event_in s x ≡ event_of s (event_at s (people t) at)
  pub next : next_of (event_at s (people t) at) ≡ Value 0 q

-- or none is left
abbrev pub Left : List ℕ → List ℕ → ℕ → Option Code → ℕ → Type 0
Left s t at (Some x) q = IsAt s t at x q
Left s t at None q = length s ≤ at

-- and its line has that number, and the text of its answer starts there
pub record Due (s t : List ℕ) (at number start : ℕ) (d : Turn) : Type 0 where
  pub line : d.line ≡ number
  pub end : d.end ≡ start
  pub bytes : (i : ℕ) → get_or s i 0 < 256
  pub left : Left s t at d.event d.next

-- the answer `number` to the event that was due, d, is in the text, and the event r is due
pub record Noted (s t : List ℕ) (d : Turn) (u : List ℕ) (number : ℕ) (v : List ℕ) (r : Turn) : Type 0 where
  pub wrote : Wrote u d.end (line_text (event_line d.line number)) v r.end
  pub due : Due s t d.next (d.line + 1) r.end r
