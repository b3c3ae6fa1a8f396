-- Lines as `judge` prints them, by computing. Assumes nothing.
use mathlib.Core.Path.{◌≡◌, refl}
use mathlib.Core.List.{List, [], ◌∷◌}
use Prim.Native.Nat.{ℕ}
use Rattle.bitml.specs.Lists.{All, nil, cons}
use Rattle.bitml.specs.Answers.{Line, row_line, liquid_line, frozen_line, step_line, branch_line, refused_line, taken_line, end_line}
use Rattle.buffer.specs.Buffer.{row}
use Rattle.texts.specs.Text.{digits, decimal, letters, field, fields, line, line_text, lines_text}

abbrev Printed : (List Line) × (List ℕ) → Type 0
Printed c = lines_text c.0 ≡ c.1

-- ★1, ★3, ★6, a way and a cause, ★10, and the largest amount
abbrev cases : List ((List Line) × (List ℕ))
cases =
    ((row_line (row 0 1 1) ∷ row_line (row 1 0 1) ∷ liquid_line 0 2 1 ∷ []), letters "row,0,1,1\nrow,1,0,1\nliquid,0,2,1\n")
    ∷ ((refused_line 13 4 0 ∷ []), letters "refused,13,4,0\n")
    ∷ ((frozen_line 0 1 ∷ []), letters "frozen,0,1\n")
    ∷ ((frozen_line 0 1 ∷ step_line (record { node = 0; branch = 2 }) ∷ branch_line 3 4 ∷ []), letters "frozen,0,1\nstep,0,2\nbranch,3,4\n")
    ∷ ((taken_line ∷ refused_line 15 5 0 ∷ taken_line ∷ taken_line ∷ end_line 500 0 (0 ∷ 100 ∷ []) ∷ []), letters "taken\nrefused,15,5,0\ntaken\ntaken\nend,500,0,0,100\n")
    ∷ ((end_line 4_294_967_295 256 (2_100_000_000_000_000 ∷ []) ∷ []), letters "end,4294967295,256,2100000000000000\n")
    ∷ []

pub printed : All Printed cases
unfolding lines_text line_text line fields field decimal digits
printed = cons refl (cons refl (cons refl (cons refl (cons refl (cons refl nil)))))
