-- A word's number is its own: no other text has it. So a test on numbers is a test on texts, and a number says how long its word is.
use Prim.Native.Nat.{ℕ, zero, suc, ◌+◌, ◌*◌, ◌<◌, ◌≤◌, ◌^◌}
use mathlib.Core.List.{List, [], ◌∷◌}
use mathlib.Core.Logic.{by_cases}
use mathlib.Core.Path.{◌≡◌, refl, sym, ◌∙◌}
use native.Mathlib.Decide.{dec_le}
use native.Mathlib.Nat.{pow-suc, one-le-pow, pow-le-pow_right, mul-le-mul_right}
use native.Mathlib.Omega.{arith}
use lib.Dec.{ltb, eqb, lit<}
use lib.ListN.{length, get_or, take, drop}
use lib.Seq.{get_or-drop}
use borrow.Author.Tests.{eqb-false}
use Rattle.fields.proofs.Laws.{text-within}
use Rattle.fields.proofs.Ranges.{cond_cases, never}
use Rattle.fields.specs.Field.{field_len, text_at, end_at, packed, packed_of, word_from, first_at}
use Rattle.fields.specs.Field.{Value, Bad}

abbrev pub Bytes : List ℕ → Type 0
Bytes t = (i : ℕ) → get_or t i 0 < 256

-- texts of one length have one number only if they are the same
same_length : (t u : List ℕ) (v w : ℕ) → Bytes t → Bytes u → length t ≡ length u → packed v t ≡ packed w u → (v ≡ w) × (t ≡ u)
unfolding packed
same_length [] [] v w h k l e = (e, refl)
same_length [] (c ∷ u) v w h k l e = absurd (omega arith)
same_length (b ∷ t) [] v w h k l e = absurd (omega arith)
same_length (b ∷ t) (c ∷ u) v w h k l e =
    let r = same_length t u (v * 256 + b) (w * 256 + c) (λ i. h (suc i)) (λ i. k (suc i)) (omega arith) e in
    let i : b ≡ c = omega (arith, r.0, h 0, k 0) in
    let j : t ≡ u = r.1 in
    (omega (arith, r.0, h 0, k 0), cc)

packed-least : (t : List ℕ) (v : ℕ) → v * 256 ^ length t ≤ packed v t
unfolding packed
packed-least [] v = omega arith
packed-least (b ∷ t) v = rw pow-suc (omega (arith, packed-least t (v * 256 + b)))

packed-most : (t : List ℕ) (v : ℕ) → Bytes t → packed v t < (v + 1) * 256 ^ length t
unfolding packed
packed-most [] v h = omega arith
packed-most (b ∷ t) v h =
    let byte : b + 1 ≤ 256 = omega (arith, h 0) in
    rw pow-suc (omega (arith, packed-most t (v * 256 + b) (λ i. h (suc i)), mul-le-mul_right (256 ^ length t) byte))

-- a shorter text has a smaller number
shorter : (t u : List ℕ) (b c : ℕ) → Bytes t → b < 256 → 1 ≤ c → length t < length u → packed b t < packed c u
shorter t u b c h l k s =
    let byte : b + 1 ≤ 256 = omega arith in
    let top : 256 ^ suc (length t) ≤ 256 ^ length u = pow-le-pow_right (lit< tt) s in
    let up : 256 ^ length t * 256 ≤ 256 ^ length u = rw pow-suc at top in
    omega (arith, packed-most t b h, mul-le-mul_right (256 ^ length t) byte, up, packed-least u c, mul-le-mul_right (256 ^ length u) k)

word_number : (t : List ℕ) → (packed_of t ≡ 0 → ⊥) → (packed_of t ≡ packed 0 t) × (1 ≤ length t) × (1 ≤ get_or t 0 0)
unfolding packed_of
word_number t =
    cond_cases (λ n. (n ≡ 0 → ⊥) → (n ≡ packed 0 t) × (1 ≤ length t) × (1 ≤ get_or t 0 0)) (eqb (length t) 0) 0 _ (λ e n. absurd (n refl)) λ a.
    cond_cases (λ n. (n ≡ 0 → ⊥) → (n ≡ packed 0 t) × (1 ≤ length t) × (1 ≤ get_or t 0 0)) (ltb 7 (length t)) 0 _ (λ e n. absurd (n refl)) λ b.
    cond_cases (λ n. (n ≡ 0 → ⊥) → (n ≡ packed 0 t) × (1 ≤ length t) × (1 ≤ get_or t 0 0)) (eqb (get_or t 0 0) 0) 0 (packed 0 t) (λ e n. absurd (n refl)) λ c n.
    (refl, omega (arith, eqb-false (length t) 0 a), omega (arith, eqb-false (get_or t 0 0) 0 c))

pub word-own : (t u : List ℕ) → Bytes t → Bytes u → (packed_of t ≡ 0 → ⊥) → packed_of t ≡ packed_of u → t ≡ u
unfolding packed
word-own [] u h k n e = let x = word_number [] n in absurd (omega arith)
word-own (b ∷ t) [] h k n e = let y = word_number [] (λ z. n (e ∙ z)) in absurd (omega arith)
word-own (b ∷ t) (c ∷ u) h k n e =
    let x = word_number (b ∷ t) n in
    let y = word_number (c ∷ u) (λ z. n (e ∙ z)) in
    let same : packed 0 (b ∷ t) ≡ packed 0 (c ∷ u) = sym x.0 ∙ e ∙ y.0 in
    let b₀ = h 0 in
    let c₀ = k 0 in
    by_cases (dec_le (suc (length t)) (length u))
    (λ l. absurd (omega (arith, same, shorter t u (0 * 256 + b) (0 * 256 + c) (λ i. h (suc i)) (omega arith) (omega arith) l)))
    (λ l. by_cases (dec_le (suc (length u)) (length t))
    (λ m. absurd (omega (arith, same, shorter u t (0 * 256 + c) (0 * 256 + b) (λ i. k (suc i)) (omega arith) (omega arith) m)))
    (λ m. (same_length (b ∷ t) (c ∷ u) 0 0 h k (omega arith) same).1))

-- ---- the number says how long the word is

word-long : (t : List ℕ) (k : ℕ) → Bytes t → 256 ^ k ≤ packed_of t → k < length t
word-long t k h l =
    let x = word_number t (λ z. absurd (omega (arith, one-le-pow k 256 (lit< tt)))) in
    by_cases (dec_le (length t) k)
    (λ m. absurd (let top : 256 ^ length t ≤ 256 ^ k = pow-le-pow_right (lit< tt) m in omega (arith, x.0, packed-most t 0 h)))
    (λ m. omega arith)

bytes_take : (n : ℕ) (t : List ℕ) → Bytes t → Bytes (take n t)
bytes_take zero t h i = omega arith
bytes_take (suc n) [] h i = omega arith
bytes_take (suc n) (b ∷ t) h zero = h 0
bytes_take (suc n) (b ∷ t) h (suc i) = bytes_take n t (λ j. h (suc j)) i

pub bytes-text : (s : List ℕ) (p : ℕ) → Bytes s → Bytes (text_at s p)
unfolding text_at
bytes-text s p h = bytes_take (field_len (drop p s)) (drop p s) (λ i. rw (get_or-drop p s i 0) (h (p + i)))

-- a line's first field, by the number of its word
pub first-long : (s : List ℕ) (at w q k : ℕ) → Bytes s → first_at s at ≡ Value w q → 256 ^ k ≤ w → at + k < q
unfolding first_at word_from end_at
first-long s at w q k h =
    cond_cases (λ r. r ≡ Value w q → 256 ^ k ≤ w → at + k < q) (ltb at (length s)) (word_from s at) (Bad 2 at)
    (λ b e l.
    let i : packed_of (text_at s at) ≡ w = cc in
    let j : at + field_len (drop at s) ≡ q = cc in
    omega (arith, word-long (text_at s at) k (bytes-text s at h) (omega arith), text-within s at))
    (λ b e l. never 2 at w q e)
