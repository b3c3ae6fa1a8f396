-- How long the text of a line can be. Assumes nothing.
use mathlib.Core.Path.{◌≡◌, refl, ap, ◌∙◌}
use Prim.Native.Nat.{ℕ, zero, suc, ◌+◌, ◌*◌, ◌/◌, ◌%◌, ◌^◌, ◌≤◌, ◌<◌}
use native.Mathlib.Omega.{arith}
use mathlib.Core.Bool.{Bool, true, false, cond}
use mathlib.Core.List.{List, [], ◌∷◌, ◌++◌, map}
use lib.ListN.{length, length-append}
use lib.Dec.{ltb}
use borrow.Author.Tests.{ltb-false}
use Rattle.bitml.specs.Lists.{All, nil, cons}
use Rattle.bitml.specs.Rows.{Row}
use Rattle.bitml.specs.Why.{Move}
use Rattle.bitml.specs.Answers.{row_line, liquid_line, frozen_line, step_line, branch_line, refused_line, taken_line, event_line}
use Rattle.texts.specs.Wrote.{Wrote}
use Rattle.texts.specs.Text.{digits, decimal, letters, field, fields, line, line_text, lines_text}

-- ---- a number

digits-most : (k n : ℕ) → length (digits k n) ≤ k
unfolding digits
digits-most zero n = omega arith
digits-most (suc k) n = go (ltb n 10) (digits-most k (n / 10))
  where
    go : (b : Bool) → length (digits k (n / 10)) ≤ k → length (cond b ((48 + n) ∷ []) (digits k (n / 10) ++ ((48 + n % 10) ∷ []))) ≤ suc k
    go true h = omega arith
    go false h = omega (arith, length-append (digits k (n / 10)) ((48 + n % 10) ∷ []))

pub decimal-most : (n : ℕ) → length (decimal n) ≤ 20
unfolding decimal
decimal-most n = digits-most 20 n

digits-short : (k m n : ℕ) → n < 10 ^ suc m → length (digits k n) ≤ suc m
unfolding digits
digits-short zero m n h = omega arith
digits-short (suc k) zero n h = go (ltb n 10) refl
  where
    go : (b : Bool) → ltb n 10 ≡ b → length (cond b ((48 + n) ∷ []) (digits k (n / 10) ++ ((48 + n % 10) ∷ []))) ≤ 1
    go true e = omega arith
    go false e = absurd (omega (arith, ltb-false n 10 e))
digits-short (suc k) (suc m) n h = go (ltb n 10) (digits-short k m (n / 10) (omega arith))
  where
    go : (b : Bool) → length (digits k (n / 10)) ≤ suc m → length (cond b ((48 + n) ∷ []) (digits k (n / 10) ++ ((48 + n % 10) ∷ []))) ≤ suc (suc m)
    go true l = omega arith
    go false l = omega (arith, length-append (digits k (n / 10)) ((48 + n % 10) ∷ []))

-- A number below 10 ^ k has at most k digits
pub decimal-short : (k n : ℕ) → 1 ≤ k → n < 10 ^ k → length (decimal n) ≤ k
unfolding decimal
decimal-short zero n l h = absurd (omega arith)
decimal-short (suc m) n l h = digits-short 20 m n h

-- ---- a line

pub fields-most : (ns : List ℕ) → length (fields ns) ≤ 21 * length ns
unfolding fields field
fields-most [] = omega arith
fields-most (n ∷ ns) = omega (arith, length-append (field n) (fields ns), decimal-most n, fields-most ns)

fields-length : (n : ℕ) (ns : List ℕ) → length (fields (n ∷ ns)) ≡ 1 + length (decimal n) + length (fields ns)
unfolding fields field
fields-length n ns = omega (arith, length-append (field n) (fields ns))

pub line-length : (w ns : List ℕ) → length (line w ns) ≡ length w + length (fields ns) + 1
unfolding line
line-length w ns = length-append (w ++ fields ns) (10 ∷ []) ∙ ap (λ k. k + 1) (length-append w (fields ns))

pub taken-length : length (line_text taken_line) ≡ 6
unfolding line_text line fields
taken-length = refl

-- An event refused
pub refused-short : (n l : ℕ) → n ≤ 99 → l ≤ 99_999 → length (line_text (refused_line n l 0)) ≤ 19
unfolding line_text fields
refused-short n l h k =
    omega (
      arith,
      line-length (letters "refused") (n ∷ l ∷ 0 ∷ []),
      fields-length n (l ∷ 0 ∷ []),
      fields-length l (0 ∷ []),
      fields-length 0 [],
      decimal-short 2 n (omega arith) (omega arith),
      decimal-short 5 l (omega arith) (omega arith),
      decimal-short 1 0 (omega arith) (omega arith),
    )

pub answer-short : (k n : ℕ) → n ≤ 99 → k ≤ 99_999 → length (line_text (event_line k n)) ≤ 19
unfolding event_line
answer-short k zero h l = omega (arith, taken-length)
answer-short k (suc n) h l = refused-short (suc n) k h l

-- A row of numbers with three digits at the most
abbrev pub Short : Row → Type 0
Short r = (r.node ≤ 999) × (r.branch ≤ 999) × (r.rank ≤ 999)

row-short : (r : Row) → Short r → length (line_text (row_line r)) ≤ 16
unfolding line_text fields
row-short r h =
    omega (
      arith,
      line-length (letters "row") (r.node ∷ r.branch ∷ r.rank ∷ []),
      fields-length r.node (r.branch ∷ r.rank ∷ []),
      fields-length r.branch (r.rank ∷ []),
      fields-length r.rank [],
      decimal-short 3 r.node (omega arith) (omega (arith, h.0)),
      decimal-short 3 r.branch (omega arith) (omega (arith, h.1)),
      decimal-short 3 r.rank (omega arith) (omega (arith, h.2)),
    )

-- Rows, one behind the other
pub rows_short : {R : List Row} → All Short R → length (lines_text (map row_line R)) ≤ 16 * length R
unfolding lines_text
rows_short nil = omega arith
rows_short (cons {x = r} {xs = R} h k) = omega (arith, length-append (line_text (row_line r)) (lines_text (map row_line R)), row-short r h, rows_short k)

-- `liquid` or `frozen`, the last line of a verdict
pub liquid-room : (p n k : ℕ) {z b : List ℕ} {a e : ℕ} → Wrote z a (line_text (liquid_line p n k)) b e → e ≤ a + 80
unfolding line_text
liquid-room p n k w = let ns = p ∷ n ∷ k ∷ [] in omega (arith, w.end, line-length (letters "liquid") ns, fields-most ns)

pub frozen-room : (p n : ℕ) {z b : List ℕ} {a e : ℕ} → Wrote z a (line_text (frozen_line p n)) b e → e ≤ a + 80
unfolding line_text
frozen-room p n w = let ns = p ∷ n ∷ [] in omega (arith, w.end, line-length (letters "frozen") ns, fields-most ns)

-- `step` and `branch`, each line of a reason
pub step_room : (m : Move) {z b : List ℕ} {a e : ℕ} → Wrote z a (line_text (step_line m)) b e → e ≤ a + 80
unfolding line_text
step_room m w = let ns = m.node ∷ m.branch ∷ [] in omega (arith, w.end, line-length (letters "step") ns, fields-most ns)

pub branch-room : (b c : ℕ) {z u : List ℕ} {a e : ℕ} → Wrote z a (line_text (branch_line b c)) u e → e ≤ a + 80
unfolding line_text
branch-room b c w = let ns = b ∷ c ∷ [] in omega (arith, w.end, line-length (letters "branch") ns, fields-most ns)
