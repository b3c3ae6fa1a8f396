-- "The claim is over the list of all answers, equal to the list of separate ones, for every K". Assumes nothing.
use Rattle.std.specs.Prelude.{◌≡◌, ℕ, ◌-◌, ◌*◌, ◌≤◌, ◌<◌, List, [], ◌∷◌, map, take, drop, replicate}
use Rattle.bitml.specs.Lists.{gather, below}
use Rattle.bitml.specs.Rows.{Row}
use Rattle.bitml.specs.Answers.{Line, refused_line, Answer, refused, printed, padded, places_of_one}
use Rattle.tables.specs.Entries.{Entries}
use Rattle.buffer.specs.Buffer.{places_of_all}
use Rattle.reading.specs.Request.{request, make, make_all, read_request}
use Rattle.lent.specs.Structs.{no_row}
use Rattle.writing.specs.Back.{Text}
use Rattle.checker.specs.Entry.{answer_to, places_of, text_in}
use Rattle.checker.specs.Demands.{Room}
use Rattle.parties.specs.Asking.{asking}

-- Answers put together: the lines one behind the other, and for the rows of each 512 places, "with zeros past that participant's rows
-- and all zeros for one with `frozen`"
unfoldable pub lines_of : Answer → List Line
lines_of (refused n l f) = refused_line n l f ∷ []
lines_of (printed ls R) = ls

unfoldable pub rows_of : Answer → List Row
rows_of (refused n l f) = []
rows_of (printed ls R) = R

unfoldable pub together : List Answer → Answer
together xs = printed (gather lines_of xs) (gather (λ a. padded (rows_of a)) xs)

-- A request s that is read as `makeall` of a sheet with K participants, with places for so many rows and bytes of text
pub record Together (s : List ℕ) (places text K : ℕ) (E : Entries) : Type 0 where
  -- Each of the separate requests is read as `make` of that sheet
  pub asked : (p : ℕ) → p < K → read_request (asking s p) ≡ request K E (make p)
  -- "It answers for participants 0 to K − 1 in that order, each with the rows and final line that `make` gives for that participant"
  pub answers : answer_to s places text ≡ together (map (λ p. answer_to (asking s p) places_of_one text) (below K))
  -- so the text is their texts one behind the other,
  pub lines : text_in text (answer_to s places text) ≡ gather (λ p. text_in text (answer_to (asking s p) places_of_one text)) (below K)
  -- the places "of participant p from 512 × p" are the row buffer of its request, and all places behind those of the last are zero
  pub rows : (p : ℕ) → p < K → take places_of_one (drop (places_of_one * p) (places_of places (answer_to s places text))) ≡ places_of places_of_one (answer_to (asking s p) places_of_one text)
  pub rest : drop (places_of_one * K) (places_of places (answer_to s places text)) ≡ replicate (places - places_of_one * K) no_row

-- of every text and all buffers that are long enough
unfoldable pub OfParties : Type 0
OfParties = (s : List ℕ) → Text s → (places text : ℕ) → Room s places text → places_of_all ≤ places
    → (K : ℕ) (E : Entries) → read_request s ≡ request K E make_all → Together s places text K E
