-- "Two offices exchange row files": the lines that one was printed are the rows that the other gives. Assumes nothing.
use Rattle.std.specs.Prelude.{◌≡◌, ℕ, ◌≤◌, ◌<◌, List, ◌++◌, map, length}
use Rattle.bitml.specs.Sheet.{Sheet}
use Rattle.bitml.specs.Runs.{Liquid}
use Rattle.bitml.specs.Rows.{Row, InAnyOrder}
use Rattle.bitml.specs.Sorting.{sorted}
use Rattle.bitml.specs.Rule.{rows}
use Rattle.bitml.specs.Answers.{row_line, liquid_by, places_of_one}
use Rattle.tables.specs.Entries.{Entries}
use Rattle.tables.specs.SheetOf.{sheet_of}
use Rattle.lines.specs.Sheet.{accepted, read_sheet}
use Rattle.reading.specs.Request.{request, check, read_request}
use Rattle.texts.specs.Text.{line_text, lines_text}
use Rattle.replies.specs.Answer.{least_text}
use Rattle.writing.specs.Requests.{make_request, check_request}
use Rattle.checker.specs.Entry.{answer_to, places_of, text_in}
use Rattle.checker.specs.Demands.{Room}

-- A file of `row` lines
unfoldable pub file_of : List Row → List ℕ
file_of R = lines_text (map row_line R)

-- The `liquid` line for P and rows R
unfoldable pub last_line : Sheet → ℕ → List Row → List ℕ
last_line S p R = line_text (liquid_by S p R)

-- The text t of a sheet, with places for so many rows and bytes of text
module _ (t : List ℕ) (places text K : ℕ) (E : Entries) (p : ℕ) where
  -- What `make`,P printed
  pub record Exchanged : Type 0 where
    -- It is a file, and then the `liquid` line
    pub printed : text_in text (answer_to (make_request t p) places text) ≡ file_of (rows (sheet_of K E) p) ++ last_line (sheet_of K E) p (rows (sheet_of K E) p)
    -- `check`,P with the file behind it is read as those rows
    pub read : read_request (check_request t p (file_of (rows (sheet_of K E) p))) ≡ request K E (check p (rows (sheet_of K E) p))
    -- and answered with the same line, and the same rows in the row buffer
    pub taken : text_in text (answer_to (check_request t p (file_of (rows (sheet_of K E) p))) places text) ≡ last_line (sheet_of K E) p (rows (sheet_of K E) p)
    pub held : places_of places (answer_to (check_request t p (file_of (rows (sheet_of K E) p))) places text) ≡ places_of places (answer_to (make_request t p) places text)

  -- "accepted after sorting": a file of rows R, sorted, is read as the sorted rows, and gets their `liquid` line, which is R's
  pub record Resorted (R : List Row) : Type 0 where
    pub read : read_request (check_request t p (file_of (sorted R))) ≡ request K E (check p (sorted R))
    pub taken : text_in text (answer_to (check_request t p (file_of (sorted R))) places text) ≡ last_line (sheet_of K E) p R

pub record OfFiles : Type 0 where
  -- For every text of a sheet, every P for whom it is liquid, and all buffers that are long enough
  pub made : (t : List ℕ) (K : ℕ) (E : Entries) → read_sheet t ≡ accepted K (length t) E
      → (p : ℕ) → p < K → Liquid (sheet_of K E) p
      → (places text : ℕ) → places_of_one ≤ places → least_text ≤ text → Exchanged t places text K E p
  -- and for every file that is read as rows that only their order is against
  pub sorted : (t : List ℕ) (K : ℕ) (E : Entries) → read_sheet t ≡ accepted K (length t) E
      → (p : ℕ) (R : List Row) → read_request (check_request t p (file_of R)) ≡ request K E (check p R) → InAnyOrder (sheet_of K E) p R
      → (places text : ℕ) → Room (check_request t p (file_of R)) places text → Resorted t places text K E p R
