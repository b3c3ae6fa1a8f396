-- THE DEFINITION of the reply: from the request's bytes and the lengths of the lent buffers. Assumes nothing.
use Rattle.std.specs.Prelude.{ℕ, ◌-◌, cond, List, [], ◌++◌, map, length, replicate, leb, eqb}
use Rattle.bitml.specs.Sheet.{Sheet}
use Rattle.tables.specs.Entries.{Entries}
use Rattle.tables.specs.SheetOf.{sheet_of, def_entry_at}
use Rattle.reading.specs.Request.{Reading, request, LastPart, make, make_all, why, check, play, read_request}
use Rattle.reading.specs.Request.{refused as unread}
use Rattle.bitml.specs.Answers.{refused_line, making, making_all, explaining, checking, playing, Answer, refused, printed, answer}
use Rattle.texts.specs.Text.{line_text, lines_text}
use Rattle.buffer.specs.Buffer.{places_of_all}
use Rattle.lent.specs.declared.Row.{Row}
use Rattle.lent.specs.Structs.{no_row, struct_of}
use Rattle.replies.specs.Before.{early}
use Rattle.ledger.specs.Values.{values_of}
use Rattle.plays.specs.Events.{events_of}

-- "Fewer places get 7 at line 0, field 0, looked at after reading has found nothing bad"
unfoldable pub answer_for_all : ℕ → Sheet → Answer
answer_for_all rows s = cond (leb places_of_all rows) (answer (making_all s)) (refused 7 0 0)

-- "one last part: `make`,P; or `check`,P ..; or `play` .."; or `makeall`; or `why`,P
unfoldable pub answer_for : List ℕ → ℕ → ℕ → Entries → LastPart → Answer
answer_for s rows K E (make p) = answer (making (sheet_of K E) p)
answer_for s rows K E make_all = answer_for_all rows (sheet_of K E)
answer_for s rows K E (why p) = answer (explaining (sheet_of K E) p)
answer_for s rows K E (check p R) = answer (checking (sheet_of K E) p R)
answer_for s rows K E (play v e) = answer (playing (sheet_of K E) (values_of s v (def_entry_at E 0).secrets) (events_of s K e))

-- "The reader goes field by field over the whole request before anything is judged"
unfoldable pub judged : List ℕ → ℕ → Reading → Answer
judged s rows (request K E l) = answer_for s rows K E l
judged s rows (unread n l f) = refused n l f

-- a request of the bytes s, with places for so many rows and bytes of text
unfoldable pub answer_to : List ℕ → ℕ → ℕ → Answer
answer_to s rows text = cond (eqb (early (length s) rows text) 0) (judged s rows (read_request s)) (refused (early (length s) rows text) 0 0)

-- "The row buffer holds the rows .. and is zero past them; it is wholly zero after .. a refused request": a buffer of n places
unfoldable pub places_of : ℕ → Answer → List Row
places_of n (refused i l f) = replicate n no_row
places_of n (printed ls R) = map struct_of R ++ replicate (n - length R) no_row

-- the line of a refused request: what is written into a buffer of n bytes, of which 80 are enough
unfoldable pub refused_in : ℕ → ℕ → ℕ → ℕ → List ℕ
refused_in n number l f = cond (leb 80 n) (line_text (refused_line number l f)) []

-- "Printed: `refused`,number,line,field"; or the lines of the answer: what is written into a buffer of n bytes
unfoldable pub text_in : ℕ → Answer → List ℕ
text_in n (refused number l f) = refused_in n number l f
text_in n (printed ls R) = lines_text ls
