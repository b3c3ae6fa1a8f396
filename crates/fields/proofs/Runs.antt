-- A number by one pass over its bytes is the number of its field. Assumes nothing.
use Prim.Native.Nat.{ℕ, zero, suc, ◌+◌, ◌-◌, ◌*◌, ◌^◌, ◌≤◌, ◌<◌}
use mathlib.Core.Path.{◌≡◌, refl, sym, ap, ap₂, ◌∙◌}
use mathlib.Core.Bool.{Bool, true, false, cond, true≢false, ◌&&◌}
use mathlib.Core.List.{List, [], ◌∷◌}
use mathlib.Core.Logic.{by_cases}
use native.Mathlib.Decide.{dec_le}
use native.Mathlib.Numerals.{add-one}
use native.Mathlib.Omega.{arith}
use lib.ListN.{length, get_or, take, drop, length-drop, drop_of_length-le}
use lib.Seq.{drop-cons, drop-drop, length-take-le, get_or-take, get_or-drop}
use lib.Dec.{ltb, leb, eqb}
use borrow.Author.Tests.{eq-eqb, ne_eqb, lt-ltb, le-ltb, le-leb, lt-leb, ltb-true, ltb-false, eqb-true, leb-true}
use Rattle.fields.specs.Field.{zero_digit, nine_digit, comma, lf, is_sep, is_digit, field_len, text_at, end_at, all_digits, digits_on, digits_of, number_of, any_at, any_size, after_comma, Is, Not}
use Rattle.fields.proofs.Laws.{field_len-le, ten_more, ten_below, any_by, comma_there}
use Rattle.fields.specs.Run.{run_on, run_at, ends_at}
use Rattle.fields.specs.declared.Run.{Run}
use Rattle.fields.specs.Field.{Value, Bad}

-- ---- one byte more

module _ (s : List ℕ) (n v i : ℕ) (h : i < length s) where
  run_more : zero_digit ≤ get_or s i 0 → get_or s i 0 ≤ nine_digit → run_on (suc n) v i (drop i s) ≡ run_on n (v * 10 + (get_or s i 0 - zero_digit)) (i + 1) (drop (i + 1) s)
  unfolding run_on
  run_more f e = rw (drop-cons s i 0, le-leb _ _ f, le-leb _ _ e, add-one)

  run-below : get_or s i 0 < zero_digit → run_on (suc n) v i (drop i s) ≡ record { value = v; end = i }
  unfolding run_on
  run-below e = rw (drop-cons s i 0, lt-leb _ _ e)

  run_above : zero_digit ≤ get_or s i 0 → nine_digit < get_or s i 0 → run_on (suc n) v i (drop i s) ≡ record { value = v; end = i }
  unfolding run_on
  run_above f e = rw (drop-cons s i 0, le-leb _ _ f, lt-leb _ _ e)

run_end : (s : List ℕ) (n v i : ℕ) → length s ≤ i → run_on n v i (drop i s) ≡ record { value = v; end = i }
unfolding run_on
run_end s zero v i h = refl
run_end s (suc n) v i h = rw drop_of_length-le

-- ---- the same between `from` and where the digits end at the latest

pub record Running (s : List ℕ) (from stop v i : ℕ) : Type 0 where
  pub on : from ≤ i
  pub inside : i ≤ stop
  pub small : v < 10 ^ (i - from)
  pub rest : run_on (from + 19 - i) v i (drop i s) ≡ run_at s from

pub running_start : (s : List ℕ) (from stop : ℕ) → from ≤ stop → Running s from stop 0 from
unfolding run_at
running_start s from stop h =
    record {
      on = omega arith;
      inside = h;
      small = (let e : from - from ≡ 0 = omega arith in rw e (omega arith));
      rest = ap (λ n. run_on n 0 from (drop from s)) (let e : from + 19 - from ≡ 19 = omega arith in e);
    }

module _ (s : List ℕ) (from stop v i : ℕ) (r : Running s from stop v i) (long : stop ≤ length s) where
  module _ (h : i < stop) (few : stop ≤ from + 19) where
    left : from + 19 - i ≡ suc (from + 19 - (i + 1))
    left = omega arith

    rest-is : {x : Run} → run_on (suc (from + 19 - (i + 1))) v i (drop i s) ≡ x → run_at s from ≡ x
    rest-is e = sym r.rest ∙ ap (λ n. run_on n v i (drop i s)) left ∙ e

    pub running_more : {d : ℕ} → d ≡ get_or s i 0 - zero_digit → zero_digit ≤ get_or s i 0 → get_or s i 0 ≤ nine_digit → Running s from stop (v * 10 + d) (i + 1)
    running_more {d} e f g =
        record {
          on = omega (arith, r.on);
          inside = omega arith;
          small = (let z : i + 1 - from ≡ i - from + 1 = omega (arith, r.on) in rw z (ten_more (i - from) r.small (omega arith)));
          rest = ap (λ d. run_on (from + 19 - (i + 1)) (v * 10 + d) (i + 1) (drop (i + 1) s)) e ∙ sym (rest-is (run_more s _ v i (omega arith) f g));
        }

    pub running_below : get_or s i 0 < zero_digit → record { value = v; end = i } ≡ run_at s from
    running_below e = sym (rest-is (run-below s _ v i (omega arith) e))

    pub running_above : zero_digit ≤ get_or s i 0 → nine_digit < get_or s i 0 → record { value = v; end = i } ≡ run_at s from
    running_above f e = sym (rest-is (run_above s _ v i (omega arith) f e))

    pub running_small : v < 10 ^ 18
    running_small = ten_below r.small (omega (arith, r.on))

  pub running_end : stop ≤ i → (stop < from + 19 → stop ≡ length s) → record { value = v; end = stop } ≡ run_at s from
  unfolding run_on
  running_end h e = (λ j. record { value = v; end = (let z : stop ≡ i = omega (arith, r.inside) in z) j }) ∙ by_cases (dec_le (from + 19) i)
      (λ k. let z : from + 19 - i ≡ 0 = omega arith in sym (ap (λ n. run_on n v i (drop i s)) z) ∙ r.rest)
      (λ k. sym (run_end s (from + 19 - i) v i (let z = e (omega (arith, r.inside)) in omega arith)) ∙ r.rest)

-- ---- how many digits come first, up to n of them

unfoldable digits_first : ℕ → List ℕ → ℕ
digits_first zero t = 0
digits_first (suc n) [] = 0
digits_first (suc n) (b ∷ r) = cond (is_digit b) (suc (digits_first n r)) 0

run_is : (n v p : ℕ) (t : List ℕ) → run_on n v p t ≡ record { value = digits_on v (take (digits_first n t) t); end = p + digits_first n t }
unfolding run_on digits_first digits_on
run_is zero v p t = λ i. record { value = v; end = (let z : p ≡ p + 0 = omega arith in z) i }
run_is (suc n) v p [] = λ i. record { value = v; end = (let z : p ≡ p + 0 = omega arith in z) i }
run_is (suc n) v p (b ∷ r) = go (is_digit b) (run_is n (v * 10 + (b - zero_digit)) (p + 1) r)
  where
    go : (x : Bool) → run_on n (v * 10 + (b - zero_digit)) (p + 1) r ≡ record { value = digits_on (v * 10 + (b - zero_digit)) (take (digits_first n r) r); end = p + 1 + digits_first n r }
        → cond x (run_on n (v * 10 + (b - zero_digit)) (p + 1) r) (record { value = v; end = p })
        ≡ record { value = digits_on v (take (cond x (suc (digits_first n r)) 0) (b ∷ r)); end = p + cond x (suc (digits_first n r)) 0 }
    go true h = h ∙ (λ i. record { value = digits_on (v * 10 + (b - zero_digit)) (take (digits_first n r) r); end = (let z : p + 1 + digits_first n r ≡ p + suc (digits_first n r) = omega arith in z) i })
    go false h = λ i. record { value = v; end = (let z : p ≡ p + 0 = omega arith in z) i }

-- a digit is neither a comma nor an LF
pub digit_no_sep : (b : ℕ) → is_digit b ≡ true → is_sep b ≡ false
digit_no_sep b e = go (leb zero_digit b) refl
  where
    go : (x : Bool) → leb zero_digit b ≡ x → is_sep b ≡ false
    go true h = let z = leb-true zero_digit b h in rw (ne_eqb b comma (λ q. omega arith), ne_eqb b lf (λ q. omega arith))
    go false h = absurd (true≢false (sym e ∙ ap (λ x. x && leb b nine_digit) h))

first_field : (n : ℕ) (t : List ℕ) → field_len t ≡ digits_first n t + field_len (drop (digits_first n t) t)
unfolding digits_first field_len
first_field zero t = omega arith
first_field (suc n) [] = omega arith
first_field (suc n) (b ∷ r) = go (first_field n r) (is_digit b) refl
  where
    go : field_len r ≡ digits_first n r + field_len (drop (digits_first n r) r)
        → (x : Bool) → is_digit b ≡ x → field_len (b ∷ r) ≡ cond x (suc (digits_first n r)) 0 + field_len (drop (cond x (suc (digits_first n r)) 0) (b ∷ r))
    go z true h = ap (λ y. cond y 0 (suc (field_len r))) (digit_no_sep b h) ∙ omega arith
    go z false h = omega arith

first-digits : (n : ℕ) (t : List ℕ) → all_digits (take (digits_first n t) t) ≡ true
unfolding digits_first all_digits
first-digits zero t = refl
first-digits (suc n) [] = refl
first-digits (suc n) (b ∷ r) = go (first-digits n r) (is_digit b) refl
  where
    go : all_digits (take (digits_first n r) r) ≡ true → (x : Bool) → is_digit b ≡ x → all_digits (take (cond x (suc (digits_first n r)) 0) (b ∷ r)) ≡ true
    go z true h = ap (λ y. y && all_digits (take (digits_first n r) r)) h ∙ z
    go z false h = refl

first-most : (n : ℕ) (t : List ℕ) → (digits_first n t ≤ n) × (digits_first n t ≤ length t)
unfolding digits_first
first-most zero t = (omega arith, omega arith)
first-most (suc n) [] = (omega arith, omega arith)
first-most (suc n) (b ∷ r) = go (first-most n r) (is_digit b)
  where
    go : (digits_first n r ≤ n) × (digits_first n r ≤ length r) → (x : Bool) → (cond x (suc (digits_first n r)) 0 ≤ suc n) × (cond x (suc (digits_first n r)) 0 ≤ suc (length r))
    go z true = (omega arith, omega arith)
    go z false = (omega arith, omega arith)

first_stop : (n : ℕ) (t : List ℕ) → digits_first n t < n → digits_first n t < length t → is_digit (get_or t (digits_first n t) 0) ≡ false
unfolding digits_first
first_stop zero t h k = absurd (omega arith)
first_stop (suc n) [] h k = absurd (omega arith)
first_stop (suc n) (b ∷ r) h k = go (first_stop n r) (is_digit b) refl h k
  where
    go : (digits_first n r < n → digits_first n r < length r → is_digit (get_or r (digits_first n r) 0) ≡ false)
        → (x : Bool) → is_digit b ≡ x → cond x (suc (digits_first n r)) 0 < suc n → cond x (suc (digits_first n r)) 0 < suc (length r) → is_digit (get_or (b ∷ r) (cond x (suc (digits_first n r)) 0) 0) ≡ false
    go z true e h k = z (omega arith) (omega arith)
    go z false e h k = e

-- ---- what is no number

not-all : (t : List ℕ) (i : ℕ) → i < length t → is_digit (get_or t i 0) ≡ false → all_digits t ≡ false
unfolding all_digits
not-all [] i h e = absurd (omega arith)
not-all (b ∷ r) zero h e = ap (λ x. x && all_digits r) e
not-all (b ∷ r) (suc i) h e = go (not-all r i (omega arith) e) (is_digit b)
  where
    go : all_digits r ≡ false → (x : Bool) → (x && all_digits r) ≡ false
    go z true = z
    go z false = refl

one-zero : (t : List ℕ) → length t ≡ 1 → get_or t 0 0 ≡ zero_digit → all_digits t ≡ true
unfolding all_digits
one-zero [] h e = absurd (omega arith)
one-zero (b ∷ []) h e = rw e refl
one-zero (b ∷ c ∷ r) h e = absurd (omega arith)

number-not : (t : List ℕ) → all_digits t ≡ false → number_of t ≡ Not
unfolding number_of digits_of
number-not t e = go (eqb (length t) 0) (ltb 19 (length t)) (eqb (get_or t 0 0) zero_digit) refl (eqb (length t) 1) refl
  where
    go : (a b c : Bool) → eqb (get_or t 0 0) zero_digit ≡ c → (d : Bool) → eqb (length t) 1 ≡ d
        → cond a Not (cond b Not (cond c (cond d (Is 0) Not) (cond (all_digits t) (Is (digits_on 0 t)) Not))) ≡ Not
    go true b c x d y = refl
    go false true c x d y = refl
    go false false true x true y = absurd (true≢false (sym (one-zero t (eqb-true (length t) 1 y) (eqb-true (get_or t 0 0) zero_digit x)) ∙ e))
    go false false true x false y = refl
    go false false false x d y = ap (λ a. cond a (Is (digits_on 0 t)) Not) e

number-over : (t : List ℕ) → 19 < length t → number_of t ≡ Not
unfolding number_of
number-over t h = rw (ne_eqb (length t) 0 (λ e. omega arith), lt-ltb 19 (length t) h)

-- ---- where a field ends

module _ (s : List ℕ) (q : ℕ) where
  ends-zero : ends_at s q ≡ true → field_len (drop q s) ≡ 0
  unfolding ends_at field_len
  ends-zero e = go (ltb q (length s)) refl
    where
      go : (x : Bool) → ltb q (length s) ≡ x → field_len (drop q s) ≡ 0
      go true h = let z = ltb-true q (length s) h in rw (drop-cons s q 0) (ap (λ y. cond y 0 (suc (field_len (drop (suc q) s)))) (sym (ap (λ y. cond y (is_sep (get_or s q 0)) true) h) ∙ e))
      go false h = let z = ltb-false q (length s) h in rw drop_of_length-le refl

  ends_more : ends_at s q ≡ false → (q < length s) × (1 ≤ field_len (drop q s))
  unfolding ends_at field_len
  ends_more e = go (ltb q (length s)) refl
    where
      go : (x : Bool) → ltb q (length s) ≡ x → (q < length s) × (1 ≤ field_len (drop q s))
      go true h =
          let z = ltb-true q (length s) h in
          let f : field_len (drop q s) ≡ suc (field_len (drop (suc q) s)) = rw (drop-cons s q 0) (ap (λ y. cond y 0 (suc (field_len (drop (suc q) s)))) (sym (ap (λ y. cond y (is_sep (get_or s q 0)) true) h) ∙ e)) in
          (z, omega arith)
      go false h = absurd (true≢false (sym (ap (λ y. cond y (is_sep (get_or s q 0)) true) h) ∙ e))

-- ---- a number's field, by its run of digits

module _ (s : List ℕ) (p : ℕ) where
  abbrev t : List ℕ
  t = drop p s

  abbrev k : ℕ
  k = digits_first 19 (drop p s)

  end_is : (run_at s p).end ≡ p + k
  unfolding run_at
  end_is = ap (λ (r : Run). r.end) (run_is 19 0 p t)

  value-is : (run_at s p).value ≡ digits_on 0 (take k t)
  unfolding run_at
  value-is = ap (λ (r : Run). r.value) (run_is 19 0 p t)

  field_is : field_len t ≡ k + field_len (drop (p + k) s)
  field_is = first_field 19 t ∙ ap (λ xs. k + field_len xs) (drop-drop k p s)

  text-long : length (text_at s p) ≡ field_len t
  unfolding text_at
  text-long = length-take-le (field_len t) t (field_len-le t)

  over : ends_at s (p + k) ≡ false → number_of (text_at s p) ≡ Not
  unfolding text_at
  over e =
      let m = ends_more s (p + k) e in
      let f = field_is in let w = text-long in let z = first-most 19 t in let d = length-drop p s in
      by_cases (dec_le 19 k)
      (λ h. number-over (text_at s p) (omega arith))
      (λ h. number-not (text_at s p) (not-all (text_at s p) k (omega arith)
      (ap is_digit (get_or-take (field_len t) t k 0 (omega arith)) ∙ first_stop 19 t (omega arith) (omega arith))))

  run-over : ends_at s (run_at s p).end ≡ false → number_of (text_at s p) ≡ Not
  run-over e = over (ap (ends_at s) (sym end_is) ∙ e)

  run_none : (run_at s p).end ≡ p → number_of (text_at s p) ≡ Not
  unfolding text_at number_of
  run_none e = go (ends_at s (p + k)) refl
    where
      go : (x : Bool) → ends_at s (p + k) ≡ x → number_of (text_at s p) ≡ Not
      go true h =
          let z = ends-zero s (p + k) h in let f = field_is in let w = end_is in
          let n : field_len t ≡ 0 = omega arith in ap (λ n. number_of (take n t)) n
      go false h = over h

  module _ (some : (run_at s p).end ≡ p → ⊥) (e : ends_at s (run_at s p).end ≡ true) where
    long : field_len t ≡ k
    long = let z = ends-zero s (p + k) (ap (ends_at s) (sym end_is) ∙ e) in let f = field_is in omega arith

    run_ends : end_at s p ≡ (run_at s p).end
    unfolding end_at
    run_ends = let a = long in let b = end_is in omega arith

    bounds : (1 ≤ k) × (k ≤ 19) × (k ≤ length t)
    bounds =
        let z = first-most 19 t in
        let n : k ≡ 0 → ⊥ = λ q. some (end_is ∙ (let w : p + k ≡ p = omega arith in w)) in
        (by_cases (dec_le 1 k) (λ h. h) (λ h. absurd (n (omega arith))), z.0, z.1)

    abbrev T : List ℕ
    T = take k t

    text-is : text_at s p ≡ T
    unfolding text_at
    text-is = ap (λ n. take n t) long

    T-long : length T ≡ k
    T-long = length-take-le k t bounds.2

    first-is : get_or T 0 0 ≡ get_or s p 0
    first-is = get_or-take k t 0 0 bounds.0 ∙ get_or-drop p s 0 0 ∙ ap (λ i. get_or s i 0) (let z : p + 0 ≡ p = omega arith in z)

    run-zero : p + 1 < (run_at s p).end → get_or s p 0 ≡ zero_digit → number_of (text_at s p) ≡ Not
    unfolding number_of
    run-zero h q =
        let b = bounds in let w = T-long in let x = end_is in
        rw (text-is, ne_eqb (length T) 0 (λ e. omega arith), le-ltb 19 (length T) (omega arith), eq-eqb (get_or T 0 0) zero_digit (first-is ∙ q), ne_eqb (length T) 1 (λ e. omega arith)) refl

    zero-value : k ≡ 1 → get_or s p 0 ≡ zero_digit → digits_on 0 T ≡ 0
    unfolding digits_on
    zero-value h q = go T T-long first-is
      where
        go : (T : List ℕ) → length T ≡ k → get_or T 0 0 ≡ get_or s p 0 → digits_on 0 T ≡ 0
        go [] w x = absurd (omega arith)
        go (b ∷ []) w x = let z = x ∙ q in omega arith
        go (b ∷ c ∷ r) w x = absurd (omega arith)

    run-number : (p + 1 < (run_at s p).end → get_or s p 0 ≡ zero_digit → ⊥) → number_of (text_at s p) ≡ Is (run_at s p).value
    unfolding number_of digits_of
    run-number n =
        let b = bounds in let w = T-long in let x = end_is in
        ap number_of text-is ∙ go (eqb (get_or T 0 0) zero_digit) refl ∙ ap Is (sym value-is)
      where
        go : (y : Bool) → eqb (get_or T 0 0) zero_digit ≡ y → number_of T ≡ Is (digits_on 0 T)
        go true h =
            let b = bounds in let w = T-long in let x = end_is in
            let q = sym first-is ∙ eqb-true (get_or T 0 0) zero_digit h in
            let one : k ≡ 1 = by_cases (dec_le k 1) (λ h. omega arith) (λ h. absurd (n (omega arith) q)) in
            rw (ne_eqb (length T) 0 (λ e. omega arith), le-ltb 19 (length T) (omega arith), h, eq-eqb (length T) 1 (w ∙ one)) (ap Is (sym (zero-value one q)))
        go false h =
            let b = bounds in let w = T-long in
            rw (ne_eqb (length T) 0 (λ e. omega arith), le-ltb 19 (length T) (omega arith), h, first-digits 19 t) refl

-- ---- the same of the field after a comma, over what the code read

pub digits-within : (s : List ℕ) (p : ℕ) {g : Run} → g ≡ run_at s p → p ≤ length s → g.end ≤ length s
digits-within s p e h =
    let z = first-most 19 (drop p s) in let w = end_is s p in let d = length-drop p s in let x = ap (λ (r : Run). r.end) e in
    omega arith

module _ (s : List ℕ) (at p : ℕ) (after : Value 0 p ≡ after_comma s at (Value 0 (at + 1))) (g : Run) (eg : g ≡ run_at s p) where
  abbrev lt : at < length s
  lt = (comma_there s at p after).0

  abbrev eq : get_or s at 0 ≡ comma
  eq = (comma_there s at p after).1

  abbrev ep : p ≡ at + 1
  ep = (comma_there s at p after).2

  same_run : run_at s (at + 1) ≡ g
  same_run = sym (eg ∙ ap (run_at s) ep)

  same_end : (run_at s (at + 1)).end ≡ g.end
  same_end = ap (λ (r : Run). r.end) same_run

  pub number-none : g.end ≡ p → Bad 3 at ≡ any_at s at
  number-none e = sym (any_by s at lt eq (run_none s (at + 1) (same_end ∙ e ∙ ep)))

  pub number_past : ends_at s g.end ≡ false → Bad 3 at ≡ any_at s at
  number_past e = sym (any_by s at lt eq (run-over s (at + 1) (ap (ends_at s) same_end ∙ e)))

  module _ (some : g.end ≡ p → ⊥) (e : ends_at s g.end ≡ true) where
    pub number-zero : p + 1 < g.end → get_or s p 0 ≡ zero_digit → Bad 3 at ≡ any_at s at
    number-zero h q = sym (any_by s at lt eq (run-zero s (at + 1) (λ x. some (sym same_end ∙ x ∙ sym ep)) (ap (ends_at s) same_end ∙ e) (omega (arith, same_end, ep)) (ap (λ i. get_or s i 0) (sym ep) ∙ q)))

    pub number-run : (p + 1 < g.end → get_or s p 0 ≡ zero_digit → ⊥) → any_at s at ≡ any_size at g.end (Is g.value)
    number-run n =
        let some' : (run_at s (at + 1)).end ≡ at + 1 → ⊥ = λ x. some (sym same_end ∙ x ∙ sym ep) in
        let e' : ends_at s (run_at s (at + 1)).end ≡ true = ap (ends_at s) same_end ∙ e in
        any_by s at lt eq (run-number s (at + 1) some' e' (λ h q. n (omega (arith, same_end, ep)) (ap (λ i. get_or s i 0) ep ∙ q)))
        ∙ ap₂ (λ x v. any_size at x (Is v)) (run_ends s (at + 1) some' e' ∙ same_end) (ap (λ (r : Run). r.value) same_run)
