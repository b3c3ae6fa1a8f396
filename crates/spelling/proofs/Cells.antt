-- The cells of a condition, and that they are read as it. Assumes nothing.
use Prim.Native.Nat.{ℕ, zero, suc, ◌≤◌}
use mathlib.Core.Path.{◌≡◌, refl, ap, ◌∙◌}
use mathlib.Core.List.{List, [], ◌∷◌, ◌++◌, append_assoc}
use native.Mathlib.Omega.{arith}
use lib.ListN.{length, drop, length-append}
use lib.Seq.{drop-append_seam}
use Rattle.bitml.specs.Sheet.{Expr, number, secret, add, sub, Cond, always, both, neg, equal, less}
use Rattle.tables.specs.Codes.{t_cell, and_cell, not_cell, eq_cell, lt_cell, k_cell, v_cell, add_cell, sub_cell}
use Rattle.tables.specs.Entries.{Entries}
use Rattle.tables.specs.SheetOf.{pick_e, read_e, pick_c, read_c, levels, cond_at}

-- A cell for each field, in the order of the text: `k` 0, `v` 1, `add` 2, `sub` 3
unfoldable pub cells_of_expr : Expr → List ℕ
cells_of_expr (number k) = k_cell ∷ k ∷ []
cells_of_expr (secret j) = v_cell ∷ j ∷ []
cells_of_expr (add e f) = add_cell ∷ (cells_of_expr e ++ cells_of_expr f)
cells_of_expr (sub e f) = sub_cell ∷ (cells_of_expr e ++ cells_of_expr f)

-- `t` 0, `and` 1, `not` 2, `eq` 3, `lt` 4
unfoldable pub cells_of : Cond → List ℕ
cells_of always = t_cell ∷ []
cells_of (both p q) = and_cell ∷ (cells_of p ++ cells_of q)
cells_of (neg p) = not_cell ∷ cells_of p
cells_of (equal e f) = eq_cell ∷ (cells_of_expr e ++ cells_of_expr f)
cells_of (less e f) = lt_cell ∷ (cells_of_expr e ++ cells_of_expr f)

-- ---- they are read back

-- one behind the other, in so many levels
two_read : {A B : Type 0} (r : List ℕ → A × List ℕ) (cells : A → List ℕ) (k : A → A → B) (d : ℕ) (a b : A) (rest : List ℕ) → length (cells a ++ cells b) ≤ d
    → ((u : List ℕ) → length (cells a) ≤ d → r (cells a ++ u) ≡ (a, u)) → ((u : List ℕ) → length (cells b) ≤ d → r (cells b ++ u) ≡ (b, u))
    → (l : List ℕ) → l ≡ cells a ++ cells b ++ rest → ◌≡◌ {A = B × List ℕ} (k (r l).0 (r (r l).1).0, (r (r l).1).1) (k a b, rest)
two_read r cells k d a b rest n f g l e =
    let m = length-append (cells a) (cells b) in
    ap (λ x. (k x.0 (r x.1).0, (r x.1).1)) (ap r (e ∙ append_assoc (cells a) (cells b) rest) ∙ f (cells b ++ rest) (omega arith))
    ∙ ap (λ y. (k a y.0, y.1)) (g rest (omega arith))

pub cells-read_expr : (e : Expr) (rest : List ℕ) (d : ℕ) → length (cells_of_expr e) ≤ d → read_e d (cells_of_expr e ++ rest) ≡ (e, rest)
unfolding cells_of_expr read_e pick_e
cells-read_expr (number k) rest zero h = absurd (omega arith)
cells-read_expr (number k) rest (suc d) h = refl
cells-read_expr (secret j) rest zero h = absurd (omega arith)
cells-read_expr (secret j) rest (suc d) h = refl
cells-read_expr (add e f) rest zero h = absurd (omega arith)
cells-read_expr (add e f) rest (suc d) h =
    two_read (read_e d) cells_of_expr add d e f rest (omega arith) (λ u. cells-read_expr e u d) (λ u. cells-read_expr f u d) _ refl
cells-read_expr (sub e f) rest zero h = absurd (omega arith)
cells-read_expr (sub e f) rest (suc d) h =
    two_read (read_e d) cells_of_expr sub d e f rest (omega arith) (λ u. cells-read_expr e u d) (λ u. cells-read_expr f u d) _ refl

pub cells-read : (q : Cond) (rest : List ℕ) (d : ℕ) → length (cells_of q) ≤ d → read_c d (cells_of q ++ rest) ≡ (q, rest)
unfolding cells_of read_c pick_c
cells-read always rest zero h = absurd (omega arith)
cells-read always rest (suc d) h = refl
cells-read (both p q) rest zero h = absurd (omega arith)
cells-read (both p q) rest (suc d) h =
    two_read (read_c d) cells_of both d p q rest (omega arith) (λ u. cells-read p u d) (λ u. cells-read q u d) _ refl
cells-read (neg p) rest zero h = absurd (omega arith)
cells-read (neg p) rest (suc d) h = ap (λ x. (neg x.0, x.1)) (cells-read p rest d (omega arith))
cells-read (equal e f) rest zero h = absurd (omega arith)
cells-read (equal e f) rest (suc d) h =
    two_read (read_e d) cells_of_expr equal d e f rest (omega arith) (λ u. cells-read_expr e u d) (λ u. cells-read_expr f u d) _ refl
cells-read (less e f) rest zero h = absurd (omega arith)
cells-read (less e f) rest (suc d) h =
    two_read (read_e d) cells_of_expr less d e f rest (omega arith) (λ u. cells-read_expr e u d) (λ u. cells-read_expr f u d) _ refl

-- The condition whose cells stand behind those before it: there are levels enough
pub cond-at : (E : Entries) (before rest : List ℕ) (q : Cond) → E.cells ≡ before ++ cells_of q ++ rest → cond_at E (length before) ≡ q
unfolding cond_at
cond-at E before rest q e =
    let f : E.cells ≡ before ++ (cells_of q ++ rest) = e ∙ append_assoc before (cells_of q) rest in
    let l = length-append before (cells_of q ++ rest) in
    let m = length-append (cells_of q) rest in
    let n : length E.cells ≡ length (before ++ (cells_of q ++ rest)) = ap length f in
    ap (λ u. (read_c (levels E.cells) u).0) (ap (drop (length before)) f ∙ drop-append_seam before (cells_of q ++ rest))
    ∙ ap (λ x. x.0) (cells-read q rest (levels E.cells) (omega arith))
