-- Laws of the definitions: what one byte more does.
use Prim.Native.Nat.{ℕ, suc, ◌+◌, ◌*◌, ◌<◌, ◌≤◌, ◌^◌}
use mathlib.Core.Path.{◌≡◌, refl, ap, sym, ◌∙◌}
use mathlib.Core.List.{List, [], ◌∷◌}
use mathlib.Core.Bool.{Bool, true, false, cond, ◌&&◌}
use native.Mathlib.Nat.{pow-suc, pow-le-pow_right, lt_of_lt_of_le}
use native.Mathlib.Numerals.{add-one}
use native.Mathlib.Omega.{arith}
use lib.ListN.{length, get_or, take, drop, drop_of_length-le, length-drop, length-take}
use lib.Seq.{drop-cons}
use lib.Dec.{ltb, leb, eqb, lit<}
use borrow.Author.Tests.{eq-eqb, ne_eqb, lt-ltb, le-ltb, leb-true, ltb-true, eqb-true}
use Rattle.fields.specs.Field.{comma, lf, is_sep, field_len, number_of, any_size, any_at, number_at, after_comma, up_to, text_at, end_at, packed, packed_of, word_from, word_at, when_read, Num, Is, Not}
use Rattle.fields.specs.Field.{Got}
use Rattle.fields.specs.Field.{Value, Bad}

module _ (s : List ℕ) (i : ℕ) where
  pub field_len-end : length s ≤ i → field_len (drop i s) ≡ 0
  unfolding field_len
  field_len-end h = rw drop_of_length-le

  pub field_len-comma : i < length s → get_or s i 0 ≡ comma → field_len (drop i s) ≡ 0
  unfolding field_len
  field_len-comma h e = rw (drop-cons s i 0, eq-eqb _ _ e)

  pub field_len-lf : i < length s → get_or s i 0 ≡ lf → field_len (drop i s) ≡ 0
  unfolding field_len
  field_len-lf h e = rw (drop-cons s i 0, e)

  pub field_len-more : i < length s → (get_or s i 0 ≡ comma → ⊥) → (get_or s i 0 ≡ lf → ⊥) → field_len (drop i s) ≡ suc (field_len (drop (i + 1) s))
  unfolding field_len
  field_len-more h e f = rw (add-one, drop-cons s i 0, ne_eqb _ _ e, ne_eqb _ _ f)

pub packed-end : (s : List ℕ) (i v : ℕ) → length s ≤ i → packed v (drop i s) ≡ v
unfolding packed
packed-end s i v h = rw drop_of_length-le

pub packed_more : (s : List ℕ) (i v : ℕ) → i < length s → packed v (drop i s) ≡ packed (v * 256 + get_or s i 0) (drop (i + 1) s)
unfolding packed
packed_more s i v h = rw (add-one, drop-cons s i 0)

pub byte_more : {v d : ℕ} (i : ℕ) → v < 256 ^ i → d < 256 → v * 256 + d < 256 ^ (i + 1)
byte_more i h k = rw (add-one, pow-suc) (omega arith)

pub byte_below : {v i : ℕ} → v < 256 ^ i → i ≤ 6 → v < 256 ^ 6
byte_below h k = lt_of_lt_of_le h (pow-le-pow_right (lit< tt) k)

pub ten_more : {v d : ℕ} (i : ℕ) → v < 10 ^ i → d ≤ 9 → v * 10 + d < 10 ^ (i + 1)
ten_more i h k = rw (add-one, pow-suc) (omega arith)

pub ten_below : {v i : ℕ} → v < 10 ^ i → i ≤ 18 → v < 10 ^ 18
ten_below h k = lt_of_lt_of_le h (pow-le-pow_right (lit< tt) k)

pub field_len-le : (r : List ℕ) → field_len r ≤ length r
unfolding field_len
field_len-le [] = omega arith
field_len-le (b ∷ r) = pick (is_sep b) (field_len-le r)
  where
    pick : (t : Bool) → field_len r ≤ length r → cond t 0 (suc (field_len r)) ≤ suc (length r)
    pick true h = omega arith
    pick false h = omega arith

pub end-within : (s : List ℕ) (p : ℕ) → p ≤ length s → p + field_len (drop p s) ≤ length s
end-within s p h = omega (arith, field_len-le (drop p s), length-drop p s)

-- a word of 1 to 7 letters that starts with no zero byte
pub packed_some : (t : List ℕ) → eqb (length t) 0 ≡ false → length t ≤ 7 → 1 ≤ get_or t 0 0 → packed_of t ≡ packed 0 t
unfolding packed_of
packed_some t e h k = rw (e, le-ltb _ _ h, ne_eqb (get_or t 0 0) 0 (λ z. omega arith))

-- a field of one byte, as a word
one_byte : (b : ℕ) (r : List ℕ) → packed_of (take 1 (b ∷ r)) ≡ b
unfolding packed_of packed
one_byte b r = go (eqb b 0) refl
  where
    go : (t : Bool) → eqb b 0 ≡ t → cond t 0 (0 * 256 + b) ≡ b
    go true e = sym (eqb-true b 0 e)
    go false e = omega arith

pub one_letter : (s : List ℕ) (p : ℕ) → p + 1 < length s → get_or s (p + 1) 0 ≡ comma → (get_or s p 0 ≡ comma → ⊥) → (get_or s p 0 ≡ lf → ⊥) → Value (get_or s p 0) (p + 1) ≡ word_from s p
unfolding word_from end_at text_at
one_letter s p h c n m =
    let k : p < length s = omega arith in
    let e : field_len (drop p s) ≡ 1 = field_len-more s p (omega arith) n m ∙ ap suc (field_len-comma s (p + 1) h c) in
    rw (e, drop-cons s p 0, one_byte (get_or s p 0) (drop (suc p) s))

-- a byte above a comma is none, and no LF
field_len-on : (s : List ℕ) (p q : ℕ) → q ≡ p + 1 → p < length s → comma < get_or s p 0 → field_len (drop p s) ≡ suc (field_len (drop q s))
field_len-on s p q e h a = rw e (field_len-more s p h (λ x. omega (arith, x, a)) (λ x. omega (arith, x, a)))

-- a field of four bytes above a comma, with a comma behind them
pub four_long : (s : List ℕ) (p : ℕ) → p + 4 < length s → get_or s (p + 4) 0 ≡ comma → comma < get_or s p 0 → comma < get_or s (p + 1) 0 → comma < get_or s (p + 2) 0 → comma < get_or s (p + 3) 0 → field_len (drop p s) ≡ 4
four_long s p h e a b c d =
    field_len-on s p (p + 1) refl (omega arith) a
    ∙ ap suc (field_len-on s (p + 1) (p + 2) (omega arith) (omega arith) b
    ∙ ap suc (field_len-on s (p + 2) (p + 3) (omega arith) (omega arith) c
    ∙ ap suc (field_len-on s (p + 3) (p + 4) (omega arith) (omega arith) d
    ∙ ap suc (field_len-comma s (p + 4) h e))))

-- ---- a comma that was looked for

pub comma_there : (s : List ℕ) (at p : ℕ) → Value 0 p ≡ after_comma s at (Value 0 (at + 1)) → (at < length s) × (get_or s at 0 ≡ comma) × (p ≡ at + 1)
comma_there s at p h = go (ltb at (length s)) (eqb (get_or s at 0) comma) refl refl h
  where
    go : (a b : Bool) → ltb at (length s) ≡ a → eqb (get_or s at 0) comma ≡ b → Value 0 p ≡ cond (a && b) (Value 0 (at + 1)) (Bad 2 at) → (at < length s) × (get_or s at 0 ≡ comma) × (p ≡ at + 1)
    go true true i j k = (ltb-true at (length s) i, eqb-true (get_or s at 0) comma j, cc)
    go true false i j k = let z : ◌≡◌ {A = ℕ} 0 1 = cc in absurd (omega arith)
    go false b i j k = let z : ◌≡◌ {A = ℕ} 0 1 = cc in absurd (omega arith)

comma_missing : (s : List ℕ) (at n p : ℕ) (g : Got) → Bad n p ≡ after_comma s at (Value 0 (at + 1)) → Bad n p ≡ after_comma s at g
comma_missing s at n p g h = go (ltb at (length s) && eqb (get_or s at 0) comma) h
  where
    go : (a : Bool) → Bad n p ≡ cond a (Value 0 (at + 1)) (Bad 2 at) → Bad n p ≡ cond a g (Bad 2 at)
    go true k = let z : ◌≡◌ {A = ℕ} 0 1 = cc in absurd (omega arith)
    go false k = k

pub number_missing : (s : List ℕ) (at n p : ℕ) → Bad n p ≡ after_comma s at (Value 0 (at + 1)) → Bad n p ≡ any_at s at
unfolding any_at
number_missing s at n p h = comma_missing s at n p (any_size at (end_at s (at + 1)) (number_of (text_at s (at + 1)))) h

pub word_missing : (s : List ℕ) (at n p : ℕ) → Bad n p ≡ after_comma s at (Value 0 (at + 1)) → Bad n p ≡ word_at s at
unfolding word_at
word_missing s at n p h = comma_missing s at n p (word_from s (at + 1)) h

pub word_after : (s : List ℕ) (at p : ℕ) → Value 0 p ≡ after_comma s at (Value 0 (at + 1)) → word_from s p ≡ word_at s at
unfolding word_at
word_after s at p h = let c = comma_there s at p h in rw (lt-ltb _ _ c.0, eq-eqb _ _ c.1) (ap (word_from s) c.2)

-- what is left to say of a number after its comma
pub number_by : (s : List ℕ) (at max : ℕ) {n : Num} → at < length s → get_or s at 0 ≡ comma → number_of (text_at s (at + 1)) ≡ n → number_at s at max ≡ up_to max at (end_at s (at + 1)) n
unfolding number_at
number_by s at max lt eq e = rw (lt-ltb _ _ lt, eq-eqb _ _ eq, e)

pub any_by : (s : List ℕ) (at : ℕ) {n : Num} → at < length s → get_or s at 0 ≡ comma → number_of (text_at s (at + 1)) ≡ n → any_at s at ≡ any_size at (end_at s (at + 1)) n
unfolding any_at
any_by s at lt eq e = rw (lt-ltb _ _ lt, eq-eqb _ _ eq, e)

-- a number up to max is a number that is at most max
pub number_capped : (s : List ℕ) (at max : ℕ) → number_at s at max ≡ when_read Bad (any_at s at) (λ v e. cond (leb v max) (Value v e) (Bad 4 at))
unfolding number_at any_at when_read
number_capped s at max = go (ltb at (length s) && eqb (get_or s at 0) comma) (number_of (text_at s (at + 1)))
  where
    go : (b : Bool) (n : Num) → cond b (up_to max at (end_at s (at + 1)) n) (Bad 2 at) ≡ when_read Bad (cond b (any_size at (end_at s (at + 1)) n) (Bad 2 at)) (λ v e. cond (leb v max) (Value v e) (Bad 4 at))
    go true (Is v) = refl
    go true Not = refl
    go false n = refl

-- ---- what a field that was read has: a comma before it, an end within the request

after-comma : (s : List ℕ) (at v q : ℕ) (g : Got) → after_comma s at g ≡ Value v q → (at < length s) × (g ≡ Value v q)
after-comma s at v q g h = go (ltb at (length s)) (eqb (get_or s at 0) comma) refl h
  where
    go : (a b : Bool) → ltb at (length s) ≡ a → cond (a && b) g (Bad 2 at) ≡ Value v q → (at < length s) × (g ≡ Value v q)
    go true true i j = (ltb-true at (length s) i, j)
    go true false i j = let z : ◌≡◌ {A = ℕ} 0 1 = cc in absurd (omega arith)
    go false b i j = let z : ◌≡◌ {A = ℕ} 0 1 = cc in absurd (omega arith)

up_to_lem : (max p e v q : ℕ) (n : Num) → up_to max p e n ≡ Value v q → (v ≤ max) × (q ≡ e) × (n ≡ Is v)
up_to_lem max p e v q (Is w) h = go (leb w max) refl h
  where
    go : (b : Bool) → leb w max ≡ b → cond b (Value w e) (Bad 4 p) ≡ Value v q → (v ≤ max) × (q ≡ e) × (Is w ≡ Is v)
    go true t i = let j : w ≡ v = cc in (omega (arith, leb-true w max t), cc, cc)
    go false t i = let z : ◌≡◌ {A = ℕ} 0 1 = cc in absurd (omega arith)
up_to_lem max p e v q Not h = let z : ◌≡◌ {A = ℕ} 0 1 = cc in absurd (omega arith)

number-long : (t : List ℕ) (v : ℕ) → number_of t ≡ Is v → 1 ≤ length t
unfolding number_of
number-long [] v h = let z : ◌≡◌ {A = ℕ} 0 1 = cc in absurd (omega arith)
number-long (b ∷ t) v h = omega arith

pub text-within : (s : List ℕ) (p : ℕ) → length (text_at s p) ≤ field_len (drop p s)
unfolding text_at
text-within s p = rw length-take (omega arith)

-- a number that was read is at most its maximum
pub number-max : (s : List ℕ) (at max v q : ℕ) → number_at s at max ≡ Value v q → v ≤ max
unfolding number_at
number-max s at max v q h = (up_to_lem max at (end_at s (at + 1)) v q (number_of (text_at s (at + 1))) (after-comma s at v q _ h).1).0

-- its comma and its digits are two bytes or more
pub number-end : (s : List ℕ) (at max v q : ℕ) → number_at s at max ≡ Value v q → (at + 2 ≤ q) × (q ≤ length s)
unfolding number_at end_at
number-end s at max v q h =
    let c = after-comma s at v q _ h in
    let u = up_to_lem max at (end_at s (at + 1)) v q (number_of (text_at s (at + 1))) c.1 in
    let l = number-long (text_at s (at + 1)) v u.2 in
    let w = text-within s (at + 1) in
    let e = end-within s (at + 1) (omega (arith, c.0)) in
    (omega (arith, u.1, l, w), omega (arith, u.1, e))

-- a word's comma is one byte, and a word that has bytes takes two or more
pub word_end : (s : List ℕ) (at w q : ℕ) → word_at s at ≡ Value w q → (at + 1 ≤ q) × (q ≤ length s)
unfolding word_at word_from end_at
word_end s at w q h =
    let c = after-comma s at w q _ h in
    let j : at + 1 + field_len (drop (at + 1) s) ≡ q = cc in
    (omega (arith, j), omega (arith, j, end-within s (at + 1) (omega (arith, c.0))))

packed-long : (t : List ℕ) → (packed_of t ≡ 0 → ⊥) → 1 ≤ length t
unfolding packed_of packed
packed-long [] h = absurd (h refl)
packed-long (b ∷ t) h = omega arith

pub word_on : (s : List ℕ) (at w q : ℕ) → word_at s at ≡ Value w q → (w ≡ 0 → ⊥) → at + 2 ≤ q
unfolding word_at word_from end_at
word_on s at w q h n =
    let c = after-comma s at w q _ h in
    let j : at + 1 + field_len (drop (at + 1) s) ≡ q = cc in
    let k : packed_of (text_at s (at + 1)) ≡ w = cc in
    omega (arith, j, packed-long (text_at s (at + 1)) (λ z. n (sym k ∙ z)), text-within s (at + 1))
