-- What is printed reads back: a number, its field, and a line's word and LF. Assumes nothing.
use Prim.Native.Nat.{ℕ, zero, suc, ◌+◌, ◌-◌, ◌*◌, ◌/◌, ◌%◌, ◌^◌, ◌≤◌, ◌<◌}
use mathlib.Core.Path.{◌≡◌, refl, sym, ap, ◌∙◌}
use mathlib.Core.Bool.{true}
use mathlib.Core.List.{List, [], ◌∷◌, ◌++◌}
use native.Mathlib.Omega.{arith}
use lib.ListN.{length, get_or, drop, length-drop, length-append}
use lib.Seq.{get_or-drop, drop-drop, take-append_seam, drop-append_seam}
use lib.Dec.{ltb}
use borrow.Author.Tests.{ltb-true, ltb-false, lt-ltb, le-ltb, le-leb, eq-eqb, ne_eqb}
use Rattle.fields.specs.Field.{comma, lf, zero_digit, all_digits, digits_on, digits_of, number_of, field_len, text_at, end_at, number_at, packed_of, word_from, first_at, line_end_at, Is}
use Rattle.fields.specs.Field.{Value}
use Rattle.fields.proofs.Laws.{number_by}
use Rattle.fields.proofs.Runs.{digit_no_sep}
use Rattle.fields.proofs.Ranges.{cond_cases}
use Rattle.texts.specs.Text.{digits, decimal, field}
use Rattle.texts.proofs.Lengths.{decimal-short}
use Rattle.writing.proofs.Fields.{digits-split}

-- ---- a number

-- a digit more: all are digits
all_more : (t : List ℕ) (d : ℕ) → all_digits t ≡ true → d ≤ 9 → all_digits (t ++ ((48 + d) ∷ [])) ≡ true
unfolding all_digits
all_more [] d e h = rw (le-leb 48 (48 + d) (omega arith), le-leb (48 + d) 57 (omega arith))
all_more (b ∷ t) d e h = let w = digits-split b t e in rw w.0 (all_more t d w.1 h)

-- the first stays
first_more : (t u : List ℕ) → 48 < get_or t 0 0 → 48 < get_or (t ++ u) 0 0
first_more [] u h = absurd (omega arith)
first_more (b ∷ t) u h = h

-- and the value is ten times as large, and the digit
value-more : (t : List ℕ) (v d : ℕ) → digits_on v (t ++ ((48 + d) ∷ [])) ≡ digits_on v t * 10 + d
unfolding digits_on
value-more [] v d = omega arith
value-more (b ∷ t) v d = value-more t (v * 10 + (b - zero_digit)) d

-- a printed number is digits only
digits-all : (k n : ℕ) → all_digits (digits k n) ≡ true
unfolding digits all_digits
digits-all zero n = refl
digits-all (suc k) n =
    cond_cases (λ t. all_digits t ≡ true) (ltb n 10) ((48 + n) ∷ []) _
    (λ h. all_more [] n refl (omega (arith, ltb-true n 10 h)))
    (λ h. all_more (digits k (n / 10)) (n % 10) (digits-all k (n / 10)) (omega arith))

-- no zero comes first, but for 0 itself
digits-first : (k n : ℕ) → 1 ≤ n → n < 10 ^ k → 48 < get_or (digits k n) 0 0
unfolding digits
digits-first zero n h l = absurd (omega arith)
digits-first (suc k) n h l =
    cond_cases (λ t. 48 < get_or t 0 0) (ltb n 10) ((48 + n) ∷ []) _
    (λ b. omega arith)
    (λ b. first_more (digits k (n / 10)) _ (digits-first k (n / 10) (omega (arith, ltb-false n 10 b)) (omega arith)))

-- and their value is the number
digits_value : (k n : ℕ) → n < 10 ^ k → digits_on 0 (digits k n) ≡ n
unfolding digits digits_on
digits_value zero n l = omega arith
digits_value (suc k) n l =
    cond_cases (λ t. digits_on 0 t ≡ n) (ltb n 10) ((48 + n) ∷ []) _
    (λ b. omega arith)
    (λ b. value-more (digits k (n / 10)) 0 (n % 10) ∙ (let e = digits_value k (n / 10) (omega arith) in omega arith))

-- where there is a first digit, there is one
some_first : (t : List ℕ) → 48 < get_or t 0 0 → 1 ≤ length t
some_first [] h = absurd (omega arith)
some_first (b ∷ t) h = omega arith

-- A printed number reads back
pub number_reads : (v : ℕ) → v < 10 ^ 19 → number_of (decimal v) ≡ Is v
unfolding number_of digits_of decimal digits
number_reads zero h = refl
number_reads (suc n) h =
    let v = suc n in
    let first = digits-first 20 v (omega arith) (omega arith) in
    let some = some_first (digits 20 v) first in
    let few : length (digits 20 v) ≤ 19 = decimal-short 19 v (omega arith) h in
    rw (
      ne_eqb (length (digits 20 v)) 0 (λ e. omega arith),
      le-ltb 19 (length (digits 20 v)) few,
      ne_eqb (get_or (digits 20 v) 0 0) zero_digit (λ e. omega arith),
      digits-all 20 v,
      digits_value 20 v (omega arith),
    )

-- ---- a field

-- a field of digits ends where they do
digits-length : (t rest : List ℕ) → all_digits t ≡ true → field_len rest ≡ 0 → field_len (t ++ rest) ≡ length t
unfolding field_len
digits-length [] rest a e = e
digits-length (b ∷ t) rest a e = let w = digits-split b t a in rw (digit_no_sep b w.0) (ap suc (digits-length t rest w.1 e))

module _ (s : List ℕ) (at : ℕ) where
  -- what stands behind a text, where that text stands
  pub stands_on : (t rest : List ℕ) → drop at s ≡ t ++ rest → drop (at + length t) s ≡ rest
  stands_on t rest e = sym (drop-drop (length t) at s) ∙ ap (λ u. drop (length t) u) e ∙ drop-append_seam t rest

  -- the byte that stands there
  stands_byte : (b : ℕ) (rest : List ℕ) → drop at s ≡ b ∷ rest → (at < length s) × (get_or s at 0 ≡ b)
  stands_byte b rest e = (
    omega (arith, length-drop at s, ap (λ u. length u) e),
    ap (λ i. get_or s i 0) (let z : at ≡ at + 0 = omega arith in z) ∙ sym (get_or-drop at s 0 0) ∙ ap (λ u. get_or u 0 0) e,
  )

  -- A printed number reads back where its field stands
  pub field_reads : (v max : ℕ) (rest : List ℕ) → drop at s ≡ field v ++ rest → field_len rest ≡ 0 → v ≤ max → v < 10 ^ 19
      → number_at s at max ≡ Value v (at + length (field v))
  unfolding field decimal text_at end_at
  field_reads v max rest e f h l =
      let b = stands_byte comma (decimal v ++ rest) e in
      let d : drop (at + 1) s ≡ decimal v ++ rest = stands_on (comma ∷ []) (decimal v ++ rest) e in
      let n : field_len (decimal v ++ rest) ≡ length (decimal v) = digits-length (decimal v) rest (digits-all 20 v) f in
      let t : text_at s (at + 1) ≡ decimal v = rw (d, n, take-append_seam) refl in
      let k : end_at s (at + 1) ≡ at + length (field v) = rw (d, n) (omega arith) in
      number_by s at max b.0 b.1 (ap number_of t ∙ number_reads v l) ∙ rw (le-leb v max h, k)

  -- ---- a line

  -- its word, with a comma or an LF behind it
  pub first_reads : (w rest : List ℕ) → drop at s ≡ w ++ rest → field_len (w ++ rest) ≡ length w → 1 ≤ length w → first_at s at ≡ Value (packed_of w) (at + length w)
  unfolding first_at word_from text_at end_at
  first_reads w rest e f h =
      let inside : at < length s = omega (arith, length-drop at s, ap (λ u. length u) e, length-append w rest) in
      rw (lt-ltb at (length s) inside, e, f, take-append_seam)

  -- and its LF
  pub line_reads : (rest : List ℕ) → drop at s ≡ lf ∷ rest → line_end_at s at ≡ Value 0 (at + 1)
  unfolding line_end_at
  line_reads rest e = let b = stands_byte lf rest e in rw (lt-ltb at (length s) b.0, eq-eqb (get_or s at 0) lf b.1)
