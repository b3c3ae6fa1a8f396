-- "The reader goes field by field over the whole request before anything is judged": what a request's bytes say. Assumes nothing.
use Rattle.std.specs.Prelude.{ℕ, List, length, Result, Ok, Err}
use Rattle.refusals.specs.Numbers.{number}
use Rattle.fields.specs.declared.Refused.{Refused}
use Rattle.fields.specs.Field.{Got}
use Rattle.fields.specs.Field as got
use Rattle.places.specs.Places.{place_of}
use Rattle.tables.specs.Entries.{Entries, held, people}
use Rattle.tables.specs.SheetOf.{node_entry_at, def_entry_at}
use Rattle.lines.specs.Sheet.{SheetRead, accepted, read_sheet}
use Rattle.lines.specs.Sheet.{refused as unread}
use Rattle.requests.specs.LastPart.{Part}
use Rattle.requests.specs.LastPart as part
use Rattle.requests.specs.Part.{last_part_at}
use Rattle.bitml.specs.Rows.{Row}
use Rattle.buffer.specs.Buffer.{rows_of}
use Rattle.requests.specs.Rows.{rows_at}
use Rattle.events.specs.Lines.{Lines}
use Rattle.events.specs.Lines as lines
use Rattle.events.specs.Events.{events_at}
use Rattle.reading.specs.declared.Declined.{Declined}
use Rattle.reading.specs.declared.Request.{Request}
use Rattle.reading.specs.declared.Request.TheVariants as code

-- "Then one last part: `make`,P; or `check`,P and .. rows; or `play` with a value for each secret of definition 0 .. and event lines":
-- of `play` the positions of its values and of its event lines. And `makeall`, and `why`,P
pub data LastPart : Type 0 where
  make : ℕ → LastPart
  make_all : LastPart
  why : ℕ → LastPart
  check : ℕ → List Row → LastPart
  play : ℕ → ℕ → LastPart

-- K, the sheet's entries and the last part; or "`refused`,number,line,field"
pub data Reading : Type 0 where
  request : ℕ → Entries → LastPart → Reading
  refused : ℕ → ℕ → ℕ → Reading

-- a refusal before whose field a position stands
unfoldable pub refused_at : List ℕ → ℕ → ℕ → Reading
refused_at s n p = refused n (place_of s p).line (place_of s p).field

module _ (s : List ℕ) (K : ℕ) (E : Entries) where
  -- the count of rows, or the first line that is none
  unfoldable pub from_rows : ℕ → List Row → Got → Reading
  from_rows p R (got.Value n e) = request K E (check p R)
  from_rows p R (got.Bad n q) = refused_at s n q

  unfoldable pub from_lines : ℕ → ℕ → Lines → Reading
  from_lines v e lines.Good = request K E (play v e)
  from_lines v e (lines.Bad n q) = refused_at s n q

  unfoldable pub from_part : Part → Reading
  from_part (part.Make p) = request K E (make p)
  from_part part.MakeAll = request K E make_all
  from_part (part.Why p) = request K E (why p)
  from_part (part.Check p e) =
      let w = rows_at s (λ n. (node_entry_at E n).count) (length E.nodes) e in
      from_rows p w.rows w.answer
  from_part (part.Play v e) = from_lines v e (events_at s K e)
  from_part (part.Bad n q) = refused_at s n q

unfoldable pub from_sheet : List ℕ → SheetRead → Reading
from_sheet s (accepted K at E) = from_part s K E (last_part_at s K (def_entry_at E 0).secrets at)
from_sheet s (unread n p) = refused_at s n p

-- THE DEFINITION of reading, over the request's bytes alone
unfoldable pub read_request : List ℕ → Reading
read_request s = from_sheet s (read_sheet s)

-- ---- what the code answers: the sheet stands in the table t, and the rows of `check` in the buffer u

unfoldable pub asked : Request → List ℕ → List ℕ → Reading
asked (code.Make p) t u = request (people t) (held t) (make p)
asked code.MakeAll t u = request (people t) (held t) make_all
asked (code.Why p) t u = request (people t) (held t) (why p)
asked (code.Check p n) t u = request (people t) (held t) (check p (rows_of n u))
asked (code.Play v e) t u = request (people t) (held t) (play v e)

-- with a refusal's position
abbrev pub told : List ℕ → Result Request Refused → List ℕ → List ℕ → Reading
told s (Ok r) t u = asked r t u
told s (Err e) t u = refused_at s (number e.refusal) e.at

-- with its place
abbrev pub answered : Result Request Declined → List ℕ → List ℕ → Reading
answered (Ok r) t u = asked r t u
answered (Err d) t u = refused (number d.refusal) d.place.line d.place.field
