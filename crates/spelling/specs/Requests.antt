-- "Then one last part": the text of a whole request, from what is asked. Assumes nothing.
use Rattle.std.specs.Prelude.{ℕ, ◌≤◌, ◌≡◌, List, [], ◌∷◌, ◌++◌}
use Prim.Native.Char.{code}
use Rattle.std.proofs.Math.Option.{Option, none, some as the}
use Rattle.bitml.specs.Lists.{gather}
use Rattle.bitml.specs.Rows.{Row}
use Rattle.bitml.specs.Ledger.{Event, wait, sign, tell, fire, renew}
use Rattle.bitml.specs.Answers.{Request, making, making_all, explaining, checking, playing, answer}
use Rattle.tables.specs.Entries.{Entries}
use Rattle.buffer.specs.Buffer.{places_of_all}
use Rattle.reading.specs.Request.{LastPart, make_all, request, read_request}
use Rattle.texts.specs.Text.{letters, field, fields, line}
use Rattle.writing.specs.Written.{word}
use Rattle.writing.specs.Back.{Text}
use Rattle.checker.specs.Entry.{answer_to}
use Rattle.checker.specs.Demands.{Room}
use Rattle.spelling.specs.Spelled.{spell_sheet}

-- "a value for each secret .. (0 to 1,000,000,000, or `x`, an ill-formed commitment)"
unfoldable pub spell_value : Option ℕ → List ℕ
spell_value none = word "x"
spell_value (the v) = field v

-- "`wait`,d"; "`sign`,p,c,b"; "`tell`,i,j"; "`fire`,c,b"; "`renew`,c,b, up to 8 values"
unfoldable pub spell_event : Event → List ℕ
spell_event (wait d) = line (letters "wait") (d ∷ [])
spell_event (sign p c b) = line (letters "sign") (p ∷ c ∷ b ∷ [])
spell_event (tell i j) = line (letters "tell") (i ∷ j ∷ [])
spell_event (fire c b) = line (letters "fire") (c ∷ b ∷ [])
spell_event (renew c b vs) = letters "renew" ++ fields (c ∷ b ∷ []) ++ gather spell_value vs ++ (code "\n" ∷ [])

-- "lines `row`,node,branch,rank"
unfoldable pub spell_row : Row → List ℕ
spell_row r = line (letters "row") (r.node ∷ r.branch ∷ r.rank ∷ [])

-- "`make`,P; or `check`,P and up to 512 lines `row` ..; or `play` with a value for each secret of definition 0 .. and event lines"; and
-- `makeall`, and `why`,P
unfoldable pub spell_request : Request → List ℕ
spell_request (making S p) = spell_sheet S ++ line (letters "make") (p ∷ [])
spell_request (making_all S) = spell_sheet S ++ line (letters "makeall") []
spell_request (explaining S p) = spell_sheet S ++ line (letters "why") (p ∷ [])
spell_request (checking S p R) = spell_sheet S ++ line (letters "check") (p ∷ []) ++ gather spell_row R
spell_request (playing S vs es) = spell_sheet S ++ (letters "play" ++ gather spell_value vs ++ (code "\n" ∷ [])) ++ gather spell_event es

-- What is answered is what the bytes ask, with places for so many rows and bytes of text
pub record Asked (s : List ℕ) (places text : ℕ) : Type 0 where
  pub asked : Request
  pub spelled : s ≡ spell_request asked
  pub answered : answer_to s places text ≡ answer asked

-- of every request that is read whole; "Fewer places" than 8,192 "get 7" where all participants are asked for
unfoldable pub OfRequests : Type 0
OfRequests = (s : List ℕ) → Text s → (places text : ℕ) → Room s places text
    → (K : ℕ) (E : Entries) (l : LastPart) → read_request s ≡ request K E l → (l ≡ make_all → places_of_all ≤ places) → Asked s places text
