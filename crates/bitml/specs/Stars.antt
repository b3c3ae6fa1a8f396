-- "Sheets tried by hand": the starred cases over the definitions, with some of the refusal table's, as one list. Assumes nothing.
use Rattle.std.specs.Prelude.{◌≡◌, ℕ, List, [], ◌∷◌, ◌++◌, map, replicate}
use Rattle.std.proofs.Math.Option.{none, some as the}
use Rattle.bitml.specs.Lists.{All}
use Rattle.bitml.specs.Sheet.{Sheet, Node, Branch, Action, withdraw, split, reveal, renew_as, Cond, always, equal, less, number, secret}
use Rattle.bitml.specs.Rows.{Row}
use Rattle.bitml.specs.Ledger.{wait, sign, tell, fire, renew}
use Rattle.bitml.specs.Promises.{WellFormed}
use Rattle.bitml.specs.Answers.{Request, making, making_all, explaining, checking, playing, Line, row_line, liquid_line, frozen_line, step_line, branch_line, refused_line, taken_line, end_line, Answer, refused, printed, answer}

-- ---- the sheets, with K = 2 and one definition

unfoldable pub branch : ℕ → ℕ → Action → Branch
branch m t a = record { signers = m; opens = t; action = a }

unfoldable pub node : List Branch → Node
node bs = record { definition = 0; branches = bs }

unfoldable pub halves : ℕ → ℕ → Action
halves m n = split (record { weight = 1; node = m } ∷ record { weight = 1; node = n } ∷ [])

unfoldable pub row : ℕ → ℕ → ℕ → Row
row n b k = record { node = n; branch = b; rank = k }

unfoldable pub sheet : List ℕ → List ℕ → List Node → Sheet
sheet ds os ns = record { participants = 2; defs = record { deposits = ds; owners = os; root = 0 } ∷ []; nodes = ns }

unfoldable pub T : Sheet
T =
    sheet (100 ∷ 0 ∷ []) (0 ∷ [])
    (node (branch 0 0 (reveal (0 ∷ []) always 1) ∷ branch 0 500 (withdraw 1) ∷ []) ∷ node (branch 0 0 (withdraw 0) ∷ []) ∷ [])

unfoldable pub M : Sheet
M =
    sheet (1 ∷ 1 ∷ []) (0 ∷ 1 ∷ [])
    (node (branch 0 0 (reveal (0 ∷ []) always 1) ∷ branch 0 500 (withdraw 1) ∷ [])
    ∷ node (branch 0 0 (reveal (1 ∷ []) always 2) ∷ [])
    ∷ node (branch 0 0 (halves 3 4) ∷ [])
    ∷ node (branch 0 0 (withdraw 0) ∷ [])
    ∷ node (branch 0 0 (withdraw 1) ∷ []) ∷ [])

unfoldable pub D : Sheet
D = sheet (1 ∷ 1 ∷ []) [] (node (branch 3 0 (withdraw 0) ∷ branch 3 0 (withdraw 1) ∷ []) ∷ [])

unfoldable pub R : Sheet
R =
    sheet (1 ∷ 0 ∷ []) (0 ∷ [])
    (node (branch 0 0 (renew_as 0) ∷ branch 0 0 (reveal (0 ∷ []) always 1) ∷ branch 0 500 (withdraw 1) ∷ [])
    ∷ node (branch 0 0 (withdraw 0) ∷ []) ∷ [])

-- "conditions such as `eq,k,1,k,1`": a branch under condition c
unfoldable pub On : Cond → Sheet
On c = sheet (1 ∷ 0 ∷ []) (0 ∷ []) (node (branch 0 0 (reveal (0 ∷ []) c 1) ∷ []) ∷ node (branch 0 0 (withdraw 0) ∷ []) ∷ [])

-- "balance 7, weights 1 and 1"
unfoldable pub Seven : Sheet
Seven = sheet (7 ∷ 0 ∷ []) [] (node (branch 0 0 (halves 1 2) ∷ []) ∷ node (branch 0 0 (withdraw 0) ∷ []) ∷ node (branch 0 0 (withdraw 1) ∷ []) ∷ [])

-- ---- the list

-- Rows that are printed and held, and the last line
unfoldable pub listed : List Row → Line → Answer
listed R l = printed (map row_line R ++ (l ∷ [])) R

abbrev pub Case : Type 0
Case = Request × Answer

unfoldable pub cases : List Case
cases =
    -- ★1 to ★5
    (making T 0, listed (row 0 1 1 ∷ row 1 0 1 ∷ []) (liquid_line 0 2 1))
    ∷ (checking T 0 (row 0 0 2 ∷ row 1 0 1 ∷ []), printed (liquid_line 0 2 2 ∷ []) (row 0 0 2 ∷ row 1 0 1 ∷ []))
    ∷ (checking T 0 (row 0 0 1 ∷ row 1 0 1 ∷ []), refused 13 4 0)
    ∷ (checking T 1 (row 0 0 2 ∷ row 1 0 1 ∷ []), refused 12 4 0)
    ∷ (checking T 0 (row 0 1 1 ∷ []), refused 11 4 0)
    -- ★6 and ★7
    ∷ (making M 0, printed (frozen_line 0 1 ∷ []) [])
    ∷ (making M 1, listed (row 0 1 1 ∷ row 1 0 4 ∷ row 2 0 3 ∷ row 3 0 1 ∷ row 4 0 1 ∷ []) (liquid_line 1 5 1))
    -- and for both: participant 1 has the places from 512 on
    ∷ (
      making_all M,
      printed
          (frozen_line 0 1 ∷ row_line (row 0 1 1) ∷ row_line (row 1 0 4) ∷ row_line (row 2 0 3) ∷ row_line (row 3 0 1) ∷ row_line (row 4 0 1) ∷ liquid_line 1 5 1 ∷ [])
          (replicate 512 (row 0 0 0) ++ (row 0 1 1 ∷ row 1 0 4 ∷ row 2 0 3 ∷ row 3 0 1 ∷ row 4 0 1 ∷ []) ++ replicate 507 (row 0 0 0)),
    )
    -- ★8, for both
    ∷ (making D 0, printed (frozen_line 0 0 ∷ []) [])
    ∷ (making D 1, printed (frozen_line 1 0 ∷ []) [])
    ∷ (making_all D, printed (frozen_line 0 0 ∷ frozen_line 1 0 ∷ []) (replicate 1024 (row 0 0 0)))
    -- ★9
    ∷ (making R 0, listed (row 0 2 1 ∷ row 1 0 1 ∷ []) (liquid_line 0 2 1))
    -- a condition that is true and names no secret, one that is false, one that is true and names a secret
    ∷ (making (On (equal (number 1) (number 1))) 0, listed (row 0 0 2 ∷ row 1 0 1 ∷ []) (liquid_line 0 2 2))
    ∷ (making (On (less (number 1) (number 1))) 0, printed (frozen_line 0 0 ∷ []) [])
    ∷ (making (On (equal (secret 0) (secret 0))) 0, printed (frozen_line 0 0 ∷ []) [])
    -- why: ★1, which is liquid, ★6, ★8, and the condition that is false
    ∷ (explaining T 0, printed (liquid_line 0 2 1 ∷ []) [])
    ∷ (explaining M 0, printed (frozen_line 0 1 ∷ step_line (record { node = 0; branch = 0 }) ∷ branch_line 0 2 ∷ []) [])
    ∷ (explaining D 0, printed (frozen_line 0 0 ∷ branch_line 0 1 ∷ branch_line 1 1 ∷ []) [])
    ∷ (explaining (On (less (number 1) (number 1))) 0, printed (frozen_line 0 0 ∷ branch_line 0 3 ∷ []) [])
    -- ★10
    ∷ (
      playing T (none ∷ []) (wait 499 ∷ fire 0 1 ∷ wait 1 ∷ fire 0 1 ∷ []),
      printed (taken_line ∷ refused_line 15 5 0 ∷ taken_line ∷ taken_line ∷ end_line 500 0 (0 ∷ 100 ∷ []) ∷ []) [],
    )
    -- 10, 21, 11, 14, 16, 17 and 19 as in the table of refusals; 21 behind 10 and before 11
    ∷ (checking T 0 (row 0 1 1 ∷ row 0 1 1 ∷ []), refused 10 5 0)
    ∷ (checking T 0 (row 1 0 1 ∷ row 0 0 2 ∷ []), refused 21 5 0)
    ∷ (checking T 0 (row 1 0 1 ∷ row 0 0 2 ∷ row 1 0 1 ∷ []), refused 10 6 0)
    ∷ (checking M 1 (row 4 0 1 ∷ row 3 0 1 ∷ []), refused 21 5 0)
    ∷ (checking T 0 [], refused 11 3 0)
    ∷ (
      playing D [] (fire 9 0 ∷ fire 0 0 ∷ sign 0 0 0 ∷ sign 0 0 0 ∷ sign 1 0 0 ∷ fire 0 0 ∷ []),
      printed (refused_line 14 4 0 ∷ refused_line 16 5 0 ∷ taken_line ∷ refused_line 16 7 0 ∷ taken_line ∷ taken_line ∷ end_line 0 0 (2 ∷ 0 ∷ []) ∷ []) [],
    )
    ∷ (
      playing T (none ∷ []) (tell 0 0 ∷ wait 4294967295 ∷ wait 1 ∷ []),
      printed (refused_line 17 4 0 ∷ taken_line ∷ refused_line 19 6 0 ∷ end_line 4294967295 1 (0 ∷ 0 ∷ []) ∷ []) [],
    )
    -- 18; a told secret of set 0 does not serve the renewed contract, which has the deposits of both
    ∷ (
      playing R (the 7 ∷ []) (renew 0 0 [] ∷ tell 0 0 ∷ renew 0 0 (the 8 ∷ []) ∷ fire 1 1 ∷ tell 1 0 ∷ fire 1 1 ∷ fire 2 0 ∷ []),
      printed (refused_line 18 4 0 ∷ taken_line ∷ taken_line ∷ refused_line 17 7 0 ∷ taken_line ∷ taken_line ∷ taken_line ∷ end_line 0 0 (2 ∷ 0 ∷ []) ∷ []) [],
    )
    -- 3 and 4
    ∷ (playing Seven [] (fire 0 0 ∷ fire 1 0 ∷ fire 2 0 ∷ []), printed (taken_line ∷ taken_line ∷ taken_line ∷ end_line 0 0 (3 ∷ 4 ∷ []) ∷ []) [])
    ∷ []

-- THE PROPOSITION: each request of the list gets its answer
unfoldable pub Stars : Type 0
Stars = All (λ (c : Case). answer c.0 ≡ c.1) cases

-- The sheets keep the promises, whatever the condition, so that what is proved of such sheets speaks of them
unfoldable pub Promised : Type 0
Promised = (c : Cond) → All WellFormed (T ∷ M ∷ D ∷ R ∷ On c ∷ Seven ∷ [])
