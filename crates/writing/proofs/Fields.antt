-- Writing a number, a field or a word that was read gives the bytes that were read. Assumes nothing.
use Prim.Native.Nat.{ℕ, zero, suc, ◌+◌, ◌-◌, ◌*◌, ◌/◌, ◌%◌, ◌≤◌, ◌<◌}
use Prim.Native.Char.{code}
use mathlib.Core.Path.{◌≡◌, refl, sym, ap, ap₂, ◌∙◌}
use mathlib.Core.Bool.{Bool, true, false, cond, ◌&&◌, false≢true}
use mathlib.Core.List.{List, [], ◌∷◌, ◌++◌, append_assoc, append-nil}
use native.Mathlib.Omega.{arith}
use native.Mathlib.Numerals.{add-one}
use lib.ListN.{length, get_or, take, drop}
use lib.Seq.{drop-cons, drop-drop, take-add}
use lib.Dec.{ltb, leb, eqb}
use borrow.Author.Tests.{eqb-true, eqb-false, ltb-true, ltb-false, leb-true, lt-ltb, le-ltb}
use Rattle.fields.specs.Field.{comma, zero_digit, nine_digit, is_digit, all_digits, digits_on, digits_of, number_of, field_len, text_at, end_at, after_comma, up_to, number_at, packed_of, word_from, word_at, Num, Is, Not}
use Rattle.fields.specs.Field.{Got}
use Rattle.fields.specs.Field.{Value, Bad}
use Rattle.fields.proofs.Ranges.{cond_cases}
use Rattle.fields.proofs.Words.{Bytes, word-own, bytes-text}
use Rattle.texts.specs.Text.{digits, decimal, field}

-- the bytes of s from position a up to b
unfoldable pub between : List ℕ → ℕ → ℕ → List ℕ
between s a b = take (b - a) (drop a s)

-- ---- a number

-- a digit more
digits_more : (j v d : ℕ) → 1 ≤ v → d ≤ 9 → digits (suc j) (v * 10 + d) ≡ digits j v ++ ((code "0" + d) ∷ [])
unfolding digits
digits_more j v d h h' =
    let big : ltb (v * 10 + d) 10 ≡ false = le-ltb (v * 10 + d) 10 (omega arith) in
    let q : (v * 10 + d) / 10 ≡ v = omega arith in
    let r : (v * 10 + d) % 10 ≡ d = omega arith in
    rw (big, q, r)

digits-one : (k d : ℕ) → 1 ≤ k → d ≤ 9 → digits k d ≡ (code "0" + d) ∷ []
unfolding digits
digits-one zero d h h' = absurd (omega arith)
digits-one (suc k) d h h' = let small : ltb d 10 ≡ true = lt-ltb d 10 (omega arith) in rw small

digit_is : (b : ℕ) → is_digit b ≡ true → (zero_digit ≤ b) × (b ≤ nine_digit)
digit_is b e = go (leb zero_digit b) refl (leb b nine_digit) refl e
  where
    go : (x : Bool) → leb zero_digit b ≡ x → (y : Bool) → leb b nine_digit ≡ y → (x && y) ≡ true → (zero_digit ≤ b) × (b ≤ nine_digit)
    go true p true q e = (leb-true zero_digit b p, leb-true b nine_digit q)
    go true p false q e = absurd (false≢true e)
    go false p y q e = absurd (false≢true e)

pub digits-split : (b : ℕ) (t : List ℕ) → all_digits (b ∷ t) ≡ true → (is_digit b ≡ true) × (all_digits t ≡ true)
unfolding all_digits
digits-split b t e = go (is_digit b) refl e
  where
    go : (x : Bool) → is_digit b ≡ x → (x && all_digits t) ≡ true → (is_digit b ≡ true) × (all_digits t ≡ true)
    go true p e = (p, e)
    go false p e = absurd (false≢true e)

-- with j digits written of v, and the digits t still to come
digits-on : (t u : List ℕ) (i j v : ℕ) → i ≡ j + length t → 1 ≤ v → digits j v ≡ u → all_digits t ≡ true → digits i (digits_on v t) ≡ u ++ t
unfolding digits_on
digits-on [] u i j v e h q a = let z : i ≡ j = omega arith in rw (z, append-nil) q
digits-on (b ∷ t) u i j v e h q a =
    let w = digits-split b t a in
    let d = digit_is b w.0 in
    let back : code "0" + (b - zero_digit) ≡ b = omega (arith, d.0) in
    let one_more : digits (suc j) (v * 10 + (b - zero_digit)) ≡ u ++ (b ∷ []) =
    digits_more j v (b - zero_digit) h (omega (arith, d.1)) ∙ ap₂ (λ x y. x ++ (y ∷ [])) q back in
    digits-on t (u ++ (b ∷ [])) i (suc j) (v * 10 + (b - zero_digit)) (omega arith) (omega arith) one_more w.1 ∙ append_assoc u (b ∷ []) t

zero-text : (t : List ℕ) → length t ≡ 1 → get_or t 0 0 ≡ zero_digit → t ≡ zero_digit ∷ []
zero-text [] e h = absurd (omega arith)
zero-text (b ∷ []) e h = ap (λ x. x ∷ []) h
zero-text (b ∷ c ∷ t) e h = absurd (omega arith)

decimal-zero : decimal 0 ≡ zero_digit ∷ []
unfolding decimal digits
decimal-zero = refl

some-digits : (t : List ℕ) → (length t ≡ 0 → ⊥) → length t ≤ 19 → (get_or t 0 0 ≡ zero_digit → ⊥) → all_digits t ≡ true → decimal (digits_on 0 t) ≡ t
unfolding decimal digits_on
some-digits [] n h f a = absurd (n refl)
some-digits (b ∷ t) n h f a =
    let w = digits-split b t a in
    let d = digit_is b w.0 in
    let z : b ≡ zero_digit → ⊥ = f in
    let back : code "0" + (0 * 10 + (b - zero_digit)) ≡ b = omega (arith, d.0) in
    let j : ℕ = 20 - length t in
    digits-on t (b ∷ []) 20 j (0 * 10 + (b - zero_digit)) (omega arith) (omega (arith, d.0))
    (digits-one j (0 * 10 + (b - zero_digit)) (omega arith) (omega (arith, d.1)) ∙ ap (λ x. x ∷ []) back) w.1

-- Reading a number and writing it gives the same bytes
pub number-back : (t : List ℕ) (v : ℕ) → number_of t ≡ Is v → decimal v ≡ t
unfolding number_of digits_of
number-back t v =
    cond_cases (λ r. r ≡ Is v → decimal v ≡ t) (eqb (length t) 0) Not _ (λ e q. none q) λ a.
    cond_cases (λ r. r ≡ Is v → decimal v ≡ t) (ltb 19 (length t)) Not _ (λ e q. none q) λ b.
    cond_cases (λ r. r ≡ Is v → decimal v ≡ t) (eqb (get_or t 0 0) zero_digit) _ _
    (λ c. cond_cases (λ r. r ≡ Is v → decimal v ≡ t) (eqb (length t) 1) (Is 0) Not
    (λ d q. let z : v ≡ 0 = cc in rw z (decimal-zero ∙ sym (zero-text t (eqb-true _ _ d) (eqb-true _ _ c)))) (λ d q. none q))
    (λ c. cond_cases (λ r. r ≡ Is v → decimal v ≡ t) (all_digits t) (Is (digits_on 0 t)) Not
    (λ d q. let z : v ≡ digits_on 0 t = cc in rw z (some-digits t (eqb-false _ _ a) (ltb-false _ _ b) (eqb-false _ _ c) d)) (λ d q. none q))
  where
    none : Not ≡ Is v → decimal v ≡ t
    none q = absurd (let z : ◌≡◌ {A = ℕ} 0 1 = cc in omega arith)

-- ---- a field

pub between_join : (s : List ℕ) (a b c : ℕ) → a ≤ b → b ≤ c → between s a b ++ between s b c ≡ between s a c
unfolding between
between_join s a b c h k =
    let e : c - a ≡ (b - a) + (c - b) = omega arith in
    let f : a + (b - a) ≡ b = omega arith in
    sym (ap (λ n. take n (drop a s)) e ∙ take-add (b - a) (c - b) (drop a s)
    ∙ ap (λ l. take (b - a) (drop a s) ++ take (c - b) l) (drop-drop (b - a) a s ∙ ap (λ n. drop n s) f))

-- a comma and the text after it
comma-text : (s : List ℕ) (at : ℕ) → at < length s → get_or s at 0 ≡ comma → comma ∷ text_at s (at + 1) ≡ between s at (end_at s (at + 1))
unfolding between text_at end_at
comma-text s at h e =
    let z : at + 1 + field_len (drop (at + 1) s) - at ≡ suc (field_len (drop (at + 1) s)) = omega arith in
    let d : drop at s ≡ comma ∷ drop (at + 1) s = drop-cons s at 0 h ∙ ap₂ (λ x n. x ∷ drop n s) e (sym (add-one at)) in
    rw (z, d)

pub comma-is : (s : List ℕ) (at v e : ℕ) (g : Got) → after_comma s at g ≡ Value v e → (at < length s) × (get_or s at 0 ≡ comma) × (g ≡ Value v e)
comma-is s at v e g h = go (ltb at (length s)) refl (eqb (get_or s at 0) comma) refl h
  where
    go : (a : Bool) → ltb at (length s) ≡ a → (b : Bool) → eqb (get_or s at 0) comma ≡ b → cond (a && b) g (Bad 2 at) ≡ Value v e
        → (at < length s) × (get_or s at 0 ≡ comma) × (g ≡ Value v e)
    go true p true q r = (ltb-true _ _ p, eqb-true _ _ q, r)
    go true p false q r = absurd (let z : ◌≡◌ {A = ℕ} 0 1 = cc in omega arith)
    go false p b q r = absurd (let z : ◌≡◌ {A = ℕ} 0 1 = cc in omega arith)

pub up_to_is : (max p q v e : ℕ) (n : Num) → up_to max p q n ≡ Value v e → (n ≡ Is v) × (e ≡ q)
up_to_is max p q v e (Is w) = cond_cases (λ r. r ≡ Value v e → (Is w ≡ Is v) × (e ≡ q)) (leb w max) (Value w q) (Bad 4 p)
    (λ h r. (cc, cc)) (λ h r. absurd (let z : ◌≡◌ {A = ℕ} 0 1 = cc in omega arith))
up_to_is max p q v e Not = λ r. absurd (let z : ◌≡◌ {A = ℕ} 0 1 = cc in omega arith)

-- Reading a number's field and writing it gives the same bytes, its comma with them
pub field_back : (s : List ℕ) (at max v e : ℕ) → number_at s at max ≡ Value v e → field v ≡ between s at e
unfolding number_at field
field_back s at max v e h =
    let c = comma-is s at v e _ h in
    let u = up_to_is max at (end_at s (at + 1)) v e (number_of (text_at s (at + 1))) c.2 in
    ap (λ t. comma ∷ t) (number-back (text_at s (at + 1)) v u.0) ∙ comma-text s at c.0 c.1 ∙ ap (between s at) (sym u.1)

-- ---- a word

-- The same of a word that is known by its number: the bytes u have that number, and no other bytes do
pub word_back : (s : List ℕ) (at w e : ℕ) (u : List ℕ) → Bytes s → Bytes u → word_at s at ≡ Value w e → packed_of u ≡ w → (w ≡ 0 → ⊥) → comma ∷ u ≡ between s at e
unfolding word_at word_from
word_back s at w e u hs hu h q n =
    let c = comma-is s at w e _ h in
    let r = c.2 in
    let p : packed_of (text_at s (at + 1)) ≡ w = cc in
    let z : end_at s (at + 1) ≡ e = cc in
    ap (λ t. comma ∷ t) (word-own u (text_at s (at + 1)) hu (bytes-text s (at + 1) hs) (λ k. n (sym q ∙ k)) (q ∙ sym p))
    ∙ comma-text s at c.0 c.1 ∙ ap (between s at) z
