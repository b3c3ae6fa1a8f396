-- Why a request is refused, by which number and where: of the reply to every request. Assumes nothing.
use Rattle.std.specs.Prelude.{◌≡◌, ◌↔◌, ◌⊎◌, ℕ, ◌+◌, ◌≤◌, ◌<◌, List, length}
use Rattle.bitml.specs.Lists.{All}
use Rattle.bitml.specs.Rows.{Row, FaultAt}
use Rattle.bitml.specs.Ledger.{stipulated}
use Rattle.bitml.specs.Limits.{answers}
use Rattle.bitml.specs.Answers.{refused, places_of_one}
use Rattle.tables.specs.Entries.{Entries}
use Rattle.tables.specs.SheetOf.{sheet_of, def_entry_at}
use Rattle.buffer.specs.Buffer.{places_of_all}
use Rattle.reading.specs.Request.{request, make_all, check, play, read_request}
use Rattle.reading.specs.Request.{refused as unread}
use Rattle.promises.specs.Refusals.{WhileReading, EventNumber}
use Rattle.replies.specs.Answer.{least_text}
use Rattle.ledger.specs.Values.{values_of}
use Rattle.plays.specs.Events.{events_of}
use Rattle.checker.specs.Demands.{Room}
use Rattle.checker.specs.Entry.{answer_to}

-- "1, then short buffers, come first", then reading, and rows, those given and the places for those of all, are judged last
pub data Why : Type 0 where
  tooLong shortBuffers notRead fewPlaces rowsRefused : Why

-- "`refused`,number,line,field", for each reason
pub data Refused (s : List ℕ) (places text : ℕ) : Why → ℕ → ℕ → ℕ → Type 0 where
  -- "over 65,536 bytes; line 0, field 0"
  long : 65536 < length s → Refused s places text tooLong 1 0 0
  -- "a lent row buffer under 512 (line 0, field 0)", or a text buffer in which not every reply fits
  short : length s ≤ 65536 → (places < places_of_one) ⊎ (text < least_text) → Refused s places text shortBuffers 7 0 0
  -- "reading stops at its first bad field"
  misread : {n l f : ℕ} → Room s places text → read_request s ≡ unread n l f → Refused s places text notRead n l f
  -- `makeall`: "Fewer places get 7 at line 0, field 0, looked at after reading has found nothing bad"
  few : {K : ℕ} {E : Entries} → Room s places text → read_request s ≡ request K E make_all → places < places_of_all → Refused s places text fewPlaces 7 0 0
  -- "Rows: 10 .., 11 .., then row by row 11, 12, 13", and 21 "after 10 and before 11": the fault that comes first, at the line of its row
  declined : {K p n i : ℕ} {E : Entries} {R : List Row} → Room s places text → read_request s ≡ request K E (check p R)
      → FaultAt (sheet_of K E) p R n i → Refused s places text rowsRefused n (length (sheet_of K E).defs + 2 + i) 0

-- 10 to 13 and 21 refuse rows
abbrev pub RowsNumber : ℕ → Type 0
RowsNumber n = ((10 ≤ n) × (n ≤ 13)) ⊎ (n ≡ 21)

-- "(from 1; field 0 from 10 up)": which numbers and places a reason can have. `check` stands on line 3 or later
unfoldable pub Placed : Why → ℕ → ℕ → ℕ → Type 0
Placed tooLong n l f = (n ≡ 1) × (l ≡ 0) × (f ≡ 0)
Placed shortBuffers n l f = (n ≡ 7) × (l ≡ 0) × (f ≡ 0)
Placed notRead n l f = WhileReading n l f
Placed fewPlaces n l f = (n ≡ 7) × (l ≡ 0) × (f ≡ 0)
Placed rowsRefused n l f = RowsNumber n × (3 ≤ l) × (f ≡ 0)

pub record OfRefusals : Type 0 where
  -- A request is refused by a number at a place exactly where one of these reasons says so, and never two do
  pub why : (s : List ℕ) (places text n l f : ℕ) → (answer_to s places text ≡ refused n l f) ↔ ((w : Why) × Refused s places text w n l f)
  pub alone : (s : List ℕ) (places text : ℕ) {w v : Why} {n l f m k g : ℕ} → Refused s places text w n l f → Refused s places text v m k g → w ≡ v
  -- within its numbers and places, and so by a number from 1 to 13 or by 21
  pub ranges : (s : List ℕ) (places text : ℕ) {w : Why} {n l f : ℕ} → Refused s places text w n l f → Placed w n l f
  pub number : (s : List ℕ) (places text n l f : ℕ) → answer_to s places text ≡ refused n l f → ((1 ≤ n) × (n ≤ 13)) ⊎ (n ≡ 21)
  -- "play goes on": each event of a play is taken (0), or refused by 14 to 19
  pub events : (s : List ℕ) (K v e : ℕ) (E : Entries) → read_request s ≡ request K E (play v e)
      → All EventNumber (answers (sheet_of K E) (stipulated (sheet_of K E) (values_of s v (def_entry_at E 0).secrets)) (events_of s K e))
