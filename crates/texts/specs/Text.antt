-- What `judge` prints, as bytes. Assumes nothing.
use Rattle.std.specs.Prelude.{ℕ, zero, suc, ◌+◌, ◌/◌, ◌%◌, cond, List, [], ◌∷◌, ◌++◌, ltb}
use Prim.Native.Char.{code}
use Prim.Native.String.{String, [] as ended, ◌∷◌ as ◌then◌}
use Rattle.bitml.specs.Answers.{Line, row_line, liquid_line, frozen_line, step_line, branch_line, refused_line, taken_line, end_line}

-- ---- a number

-- up to so many digits, the most significant first
unfoldable pub digits : ℕ → ℕ → List ℕ
digits zero n = []
digits (suc k) n = cond (ltb n 10) ((code "0" + n) ∷ []) (digits k (n / 10) ++ ((code "0" + n % 10) ∷ []))

-- "A number is decimal, .. no sign, no leading zero (0 itself is `0`)": 20 digits are enough below 10 ^ 20
unfoldable pub decimal : ℕ → List ℕ
decimal n = digits 20 n

-- ---- a line

-- a word's bytes
abbrev pub letters : String → List ℕ
letters ended = []
letters (c then w) = code c ∷ letters w

-- fields, each behind its comma
unfoldable pub field : ℕ → List ℕ
field n = code "," ∷ decimal n

unfoldable pub fields : List ℕ → List ℕ
fields [] = []
fields (n ∷ ns) = field n ++ fields ns

-- "Lines end with LF. Fields stand in a fixed order, parted by commas"
unfoldable pub line : List ℕ → List ℕ → List ℕ
line word ns = word ++ fields ns ++ (code "\n" ∷ [])

-- "`liquid` has participant, rows, rank of node 0; `frozen` has participant, node"; "`step`,node,branch"; "`branch`,number,cause";
-- "`refused`,number,line,field"; "`end`,500,0,0,100 (time, live contracts, paid by participant)"
unfoldable pub line_text : Line → List ℕ
line_text (row_line r) = line (letters "row") (r.node ∷ r.branch ∷ r.rank ∷ [])
line_text (liquid_line p n k) = line (letters "liquid") (p ∷ n ∷ k ∷ [])
line_text (frozen_line p n) = line (letters "frozen") (p ∷ n ∷ [])
line_text (step_line m) = line (letters "step") (m.node ∷ m.branch ∷ [])
line_text (branch_line b c) = line (letters "branch") (b ∷ c ∷ [])
line_text (refused_line n l f) = line (letters "refused") (n ∷ l ∷ f ∷ [])
line_text taken_line = line (letters "taken") []
line_text (end_line t n ps) = line (letters "end") (t ∷ n ∷ ps)

unfoldable pub lines_text : List Line → List ℕ
lines_text [] = []
lines_text (l ∷ ls) = line_text l ++ lines_text ls
