-- "Sheets tried by hand": the starred cases over bytes, as one list. Assumes nothing.
use Rattle.std.specs.Prelude.{◌≡◌, ℕ, List, [], ◌∷◌, ◌++◌}
use Rattle.bitml.specs.Lists.{All}
use Rattle.texts.specs.Text.{letters}
use Rattle.replies.specs.Answer.{least_text}
use Rattle.checker.specs.Entry.{answer_to, text_in}
use Rattle.buffer.specs.Buffer.{places_of_all}

-- a request, and what the program `judge` prints for it
abbrev pub Case : Type 0
Case = List ℕ × List ℕ

-- what the program prints: it has places for 8,192 rows and 180,224 bytes of text
unfoldable pub printed_for : List ℕ → List ℕ
printed_for s = text_in least_text (answer_to s places_of_all least_text)

-- ---- the sheets

unfoldable pub T : List ℕ
T = letters "bitml,2,1\ndef,100,0,1,0,c,2,0,0,r,1,0,t,c,1,0,0,w,0,0,500,w,1\n"

unfoldable pub M : List ℕ
M = letters "bitml,2,1\ndef,1,1,2,0,1,c,2,0,0,r,1,0,t,c,1,0,0,r,1,1,t,c,1,0,0,s,2,1,c,1,0,0,w,0,1,c,1,0,0,w,1,0,500,w,1\n"

unfoldable pub D : List ℕ
D = letters "bitml,2,1\ndef,1,1,0,c,2,3,0,w,0,3,0,w,1\n"

unfoldable pub R : List ℕ
R = letters "bitml,2,1\ndef,1,0,1,0,c,3,0,0,g,0,0,0,r,1,0,t,c,1,0,0,w,0,0,500,w,1\n"

-- ---- the list

unfoldable pub cases : List Case
cases =
    -- ★1 to ★5, the rows by rising node
    (T ++ letters "make,0\n", letters "row,0,1,1\nrow,1,0,1\nliquid,0,2,1\n")
    ∷ (T ++ letters "check,0\nrow,0,0,2\nrow,1,0,1\n", letters "liquid,0,2,2\n")
    ∷ (T ++ letters "check,0\nrow,0,0,1\nrow,1,0,1\n", letters "refused,13,4,0\n")
    ∷ (T ++ letters "check,1\nrow,0,0,2\nrow,1,0,1\n", letters "refused,12,4,0\n")
    ∷ (T ++ letters "check,0\nrow,0,1,1\n", letters "refused,11,4,0\n")
    -- ★6 and ★7
    ∷ (M ++ letters "make,0\n", letters "frozen,0,1\n")
    ∷ (M ++ letters "make,1\n", letters "row,0,1,1\nrow,1,0,4\nrow,2,0,3\nrow,3,0,1\nrow,4,0,1\nliquid,1,5,1\n")
    -- ★8, for both
    ∷ (D ++ letters "make,0\n", letters "frozen,0,0\n")
    ∷ (D ++ letters "make,1\n", letters "frozen,1,0\n")
    -- ★9
    ∷ (R ++ letters "make,0\n", letters "row,0,2,1\nrow,1,0,1\nliquid,0,2,1\n")
    -- ★10
    ∷ (T ++ letters "play,x\nwait,499\nfire,0,1\nwait,1\nfire,0,1\n", letters "taken\nrefused,15,5,0\ntaken\ntaken\nend,500,0,0,100\n")
    ∷ []

-- THE PROPOSITION: for each request of the list its text is printed
unfoldable pub Stars : Type 0
Stars = All (λ (c : Case). printed_for c.0 ≡ c.1) cases
