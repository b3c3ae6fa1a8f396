-- Reading looks no further than it reads: texts with the same bytes up to there are read alike. Assumes nothing.
use Prim.Native.Nat.{ℕ, zero, suc, ◌+◌, ◌-◌, ◌≤◌, ◌<◌}
use mathlib.Core.Path.{◌≡◌, refl, sym, ap, ap₂, ◌∙◌, subst}
use mathlib.Core.Bool.{Bool, true, false}
use mathlib.Core.List.{List, ◌∷◌}
use mathlib.Core.Logic.{by_cases}
use native.Mathlib.Omega.{arith}
use native.Mathlib.Decide.{dec_le}
use lib.ListN.{length, get_or, take, drop}
use lib.Seq.{drop-cons}
use lib.Dec.{eqb, ltb}
use borrow.Author.Tests.{eqb-true, lt-ltb, eq-eqb}
use Rattle.fields.specs.Field.{is_sep, comma, lf, field_len, text_at, end_at, after_comma, up_to, packed_of, number_of, number_at, word_from, word_at, first_at, line_end_at}
use Rattle.fields.specs.Field.{Got}
use Rattle.fields.specs.Field as got
use Rattle.tables.specs.State.{State}
use Rattle.steps.specs.Steps.{Outcome, next, bad, to_place, go_on, either, and_then, times}
use Rattle.steps.proofs.Ends.{Ends, good, refused, ends-map, ends-field, ends_then}
use Rattle.fields.proofs.Ranges.{cond_cases, never}
use Rattle.writing.proofs.Fields.{comma-is, up_to_is}

-- one byte more of a field
len_cons : (b : ℕ) (x y : List ℕ) (k : Bool) → is_sep b ≡ k → (k ≡ false → field_len x ≡ field_len y) → field_len (b ∷ x) ≡ field_len (b ∷ y)
unfolding field_len
len_cons b x y true e f = rw e
len_cons b x y false e f = rw e (ap suc (f refl))

len_more : (b : ℕ) (x : List ℕ) → is_sep b ≡ false → field_len (b ∷ x) ≡ suc (field_len x)
unfolding field_len
len_more b x e = rw e

module _ (s : List ℕ) where
  end_is : (p : ℕ) → p + field_len (drop p s) ≡ end_at s p
  unfolding end_at
  end_is p = refl

  -- t has the bytes of s up to n, and the one at n: so what ends there in s ends there in t
  pub record Like (t : List ℕ) (n : ℕ) : Type 0 where
    pub within : n < length s
    pub long : n < length t
    pub same : (i : ℕ) → i ≤ n → get_or t i 0 ≡ get_or s i 0

  -- w says of each text how it is read on from m: s as b, and so each text that is like s up to there. j is 1 where what is read
  -- ends with an LF, since the byte behind that is not looked at, and else 0
  pub record Again (j m : ℕ) (w : List ℕ → Outcome) (b : State) : Type 0 where
    pub on : m + j ≤ b.at
    pub again : (t : List ℕ) (n : ℕ) → b.at ≤ n + j → Like t n → w t ≡ next b

  abbrev pub Reads : ℕ → ℕ → (List ℕ → Outcome) → Type 0
  Reads j m w = Ends (Again j m w) (w s)

  -- some fields
  abbrev pub A : ℕ → (List ℕ → Outcome) → Type 0
  A m w = Reads 0 m w

  -- the rest of a line, its LF with it
  abbrev pub L : ℕ → (List ℕ → Outcome) → Type 0
  L m w = Reads 1 m w

  -- a field that is read alike
  abbrev pub Alike : ℕ → (List ℕ → Got) → Type 0
  Alike m g = (v e : ℕ) → g s ≡ got.Value v e → (m ≤ e) × ((t : List ℕ) (n : ℕ) → e ≤ n → Like t n → g t ≡ got.Value v e)

  -- each value with what it is read alike by; and where every value is
  pub a_value : {j : ℕ} (m : ℕ) (a : State) (g : List ℕ → Got) (k : List ℕ → ℕ → State → Outcome)
      → ((v e : ℕ) → g s ≡ got.Value v e
      → Ends (λ b. Again j e (λ t. k t v (to_place a e)) b × (m ≤ e) × ((t : List ℕ) (n : ℕ) → e ≤ n → Like t n → g t ≡ got.Value v e)) (k s v (to_place a e)))
      → Reads j m (λ t. go_on a (g t) (k t))
  unfolding go_on
  a_value {j} m a g k f = go (g s) refl
    where
      go : (r : Got) → g s ≡ r → Ends (Again j m (λ t. go_on a (g t) (k t))) (go_on a r (k s))
      go (got.Bad n p) q = refused
      go (got.Value v e) q = ends-map (f v e q) λ b x. record {
        on = omega (arith, x.0.on, x.1);
        again = λ t n i j. ap (λ r. go_on a r (k t)) (x.2 t n (omega (arith, x.0.on)) j) ∙ x.0.again t n i j;
      }

  pub a_field : {j : ℕ} (m : ℕ) (a : State) (g : List ℕ → Got) (k : List ℕ → ℕ → State → Outcome) → Alike m g
      → ((v e : ℕ) → Reads j e (λ t. k t v (to_place a e))) → Reads j m (λ t. go_on a (g t) (k t))
  a_field m a g k l f = a_value m a g k λ v e q. ends-map (f v e) λ b x. (x, (l v e q).0, (l v e q).1)

  pub a_test : (m : ℕ) (b : Bool) (x y : List ℕ → Outcome) → A m x → A m y → A m (λ t. either b (x t) (y t))
  unfolding either
  a_test m true x y f g = f
  a_test m false x y f g = g

  pub a_then : {j : ℕ} (m : ℕ) (x : List ℕ → Outcome) (k : List ℕ → State → Outcome) → A m x → ((a : State) → Reads j a.at (λ t. k t a))
      → Reads j m (λ t. and_then (x t) (k t))
  unfolding and_then
  a_then {j} m x k f g = go (x s) f
    where
      go : (r : Outcome) → Ends (Again 0 m x) r → Ends (Again j m (λ t. and_then (x t) (k t))) (and_then r (k s))
      go (bad n p) h = refused
      go (next a) h = ends-map (g a) λ b y. record {
        on = omega (arith, (next-is a h).on, y.on);
        again = λ t n i j. ap (λ r. and_then r (k t)) ((next-is a h).again t n (omega (arith, y.on)) j) ∙ y.again t n i j;
      }
        where
          next-is : (a : State) → Ends (Again 0 m x) (next a) → Again 0 m x a
          next-is a (good h) = h

  pub a_next : (m : ℕ) (a : State) → m ≤ a.at → A m (λ t. next a)
  a_next m a h = good {a = a} (record { on = omega arith; again = λ t n i j. refl })

  pub a_times : (n : ℕ) (k : List ℕ → State → Outcome) → ((a : State) → A a.at (λ t. k t a)) → (a : State) → A a.at (λ t. times n (k t) a)
  unfolding times
  a_times zero k f a = a_next a.at a (omega arith)
  a_times (suc n) k f a = a_then a.at (λ t. k t a) (λ t. times n (k t)) (f a) (a_times n k f)

  -- whole lines, one after the other
  pub a_lines : (n : ℕ) (k : List ℕ → State → Outcome) → ((a : State) → L a.at (λ t. k t a)) → (a : State)
      → Ends (λ b. (a.at ≤ b.at) × ((t : List ℕ) (m : ℕ) → b.at ≤ m + 1 → Like t m → times n (k t) a ≡ next b)) (times n (k s) a)
  unfolding times and_then
  a_lines zero k f a = good {a = a} (omega arith, λ t m i j. refl)
  a_lines (suc n) k f a = ends_then (k s a) (times n (k s)) (f a) λ b x. ends-map (a_lines n k f b) λ c y.
      (omega (arith, x.on, y.0), λ t m i j. ap (λ r. and_then r (times n (k t))) (x.again t m (omega (arith, y.0)) j) ∙ y.1 t m i j)

  -- ---- fields

  module _ (t : List ℕ) (n : ℕ) (l : Like t n) where
    same_drop : (p : ℕ) → p ≤ n → drop p t ≡ get_or s p 0 ∷ drop (suc p) t
    same_drop p h = drop-cons t p 0 (omega (arith, l.long)) ∙ ap (λ x. x ∷ drop (suc p) t) (l.same p h)

    -- one byte more, where the rest is read alike if it is looked at
    same_step : (p : ℕ) → p ≤ n → (suc p + field_len (drop (suc p) s) ≤ n → field_len (drop (suc p) t) ≡ field_len (drop (suc p) s))
        → p + field_len (drop p s) ≤ n → field_len (drop p t) ≡ field_len (drop p s)
    same_step p i f h =
        let b = get_or s p 0 in
        let d : drop p s ≡ b ∷ drop (suc p) s = drop-cons s p 0 (omega (arith, l.within)) in
        let g : p + field_len (b ∷ drop (suc p) s) ≤ n = subst (λ x. p + field_len x ≤ n) d h in
        ap field_len (same_drop p i)
        ∙ len_cons b (drop (suc p) t) (drop (suc p) s) (is_sep b) refl (λ k. f (let m = len_more b (drop (suc p) s) k in omega arith))
        ∙ ap field_len (sym d)

    same_len : (j p : ℕ) → p + j ≡ n → p + field_len (drop p s) ≤ n → field_len (drop p t) ≡ field_len (drop p s)
    same_len zero p e = same_step p (omega arith) (λ i. absurd (omega arith))
    same_len (suc j) p e = same_step p (omega arith) (same_len j (suc p) (omega arith))

    same-take : (j p : ℕ) → p + j ≤ n → take j (drop p t) ≡ take j (drop p s)
    same-take zero p h = refl
    same-take (suc j) p h =
        let d : drop p s ≡ get_or s p 0 ∷ drop (suc p) s = drop-cons s p 0 (omega (arith, l.within)) in
        let d' = same_drop p (omega arith) in
        rw (d, d') (ap (λ x. get_or s p 0 ∷ x) (same-take j (suc p) (omega arith)))

    same_text : (p : ℕ) → p + field_len (drop p s) ≤ n → (text_at t p ≡ text_at s p) × (end_at t p ≡ end_at s p)
    unfolding text_at end_at
    same_text p h =
        let e = same_len (n - p) p (omega arith) h in (
          ap (λ i. take i (drop p t)) e ∙ same-take (field_len (drop p s)) p h,
          ap (λ i. p + i) e,
        )

    same-comma : (at : ℕ) (g : Got) → at < n → get_or s at 0 ≡ comma → after_comma t at g ≡ g
    same-comma at g h e =
        let x : ltb at (length t) ≡ true = lt-ltb at (length t) (omega (arith, l.long)) in
        let y : eqb (get_or t at 0) comma ≡ true = eq-eqb (get_or t at 0) comma (l.same at (omega arith) ∙ e) in
        rw (x, y)

  pub number_alike : (at max : ℕ) → Alike at (λ t. number_at t at max)
  unfolding number_at
  number_alike at max v e q =
      let c = comma-is s at v e _ q in
      let u = up_to_is max at (end_at s (at + 1)) v e (number_of (text_at s (at + 1))) c.2 in
      let k : at + 1 + field_len (drop (at + 1) s) ≡ e = end_is (at + 1) ∙ sym u.1 in (
        omega arith,
        λ t n h l.
            let w = same_text t n l (at + 1) (omega arith) in
            same-comma t n l at _ (omega arith) c.1 ∙ ap₂ (λ x y. up_to max at x (number_of y)) w.1 w.0 ∙ c.2,
      )

  pub word_alike : (at : ℕ) → Alike at (λ t. word_at t at)
  unfolding word_at word_from
  word_alike at v e q =
      let c = comma-is s at v e _ q in
      let r = c.2 in
      let z : end_at s (at + 1) ≡ e = cc in
      let k : at + 1 + field_len (drop (at + 1) s) ≡ e = end_is (at + 1) ∙ z in (
        omega arith,
        λ t n h l.
            let w = same_text t n l (at + 1) (omega arith) in
            same-comma t n l at _ (omega arith) c.1 ∙ ap₂ (λ x y. got.Value (packed_of y) x) w.1 w.0 ∙ c.2,
      )

  -- an LF, whatever stands behind it
  pub line_alike : (at v e : ℕ) → line_end_at s at ≡ got.Value v e → (at + 1 ≤ e) × ((t : List ℕ) (n : ℕ) → e ≤ n + 1 → Like t n → line_end_at t at ≡ got.Value v e)
  unfolding line_end_at
  line_alike at v e =
      cond_cases Q (ltb at (length s)) _ (got.Bad 2 at)
      (λ h. cond_cases Q (eqb (get_or s at 0) lf) (got.Value 0 (at + 1)) (got.Bad 9 at)
      (λ q r.
      let z : at + 1 ≡ e = cc in (
        omega arith,
        λ t n i l.
            let x : ltb at (length t) ≡ true = lt-ltb at (length t) (omega (arith, l.long)) in
            let y : eqb (get_or t at 0) lf ≡ true = eq-eqb (get_or t at 0) lf (l.same at (omega arith) ∙ eqb-true _ _ q) in
            rw (x, y) r,
      ))
      (λ q r. never 9 at v e r))
      (λ h r. never 2 at v e r)
    where
      Q : Got → Type 0
      Q r = r ≡ got.Value v e → (at + 1 ≤ e) × ((t : List ℕ) (n : ℕ) → e ≤ n + 1 → Like t n → line_end_at t at ≡ got.Value v e)

  pub a_line : (a : State) → L a.at (λ t. go_on a (line_end_at t a.at) λ v b. next b)
  unfolding go_on
  a_line a = ends-field a _ _ λ v e q. let l = line_alike a.at v e q in
      good (record { on = l.0; again = λ t n i j. ap (λ r. go_on a r λ v b. next b) (l.1 t n i j) })

  some_len : (p : ℕ) → (packed_of (text_at s p) ≡ 0 → ⊥) → 1 ≤ field_len (drop p s)
  unfolding text_at packed_of
  some_len p f = by_cases (dec_le 1 (field_len (drop p s))) (λ h. h) (λ h. absurd (f (let z : field_len (drop p s) ≡ 0 = omega arith in rw z)))

  -- a word that is there
  pub first_alike : (at w e : ℕ) → first_at s at ≡ got.Value w e → (w ≡ 0 → ⊥) → (at ≤ e) × ((t : List ℕ) (n : ℕ) → e ≤ n → Like t n → first_at t at ≡ got.Value w e)
  unfolding first_at word_from
  first_alike at w e =
      cond_cases (λ r. r ≡ got.Value w e → (w ≡ 0 → ⊥) → (at ≤ e) × ((t : List ℕ) (n : ℕ) → e ≤ n → Like t n → first_at t at ≡ got.Value w e)) (ltb at (length s)) (word_from s at) (got.Bad 2 at)
      (λ h r f.
      let z : end_at s at ≡ e = cc in
      let p : packed_of (text_at s at) ≡ w = cc in
      let k : at + field_len (drop at s) ≡ e = end_is at ∙ z in
      let some = some_len at (λ q. f (sym p ∙ q)) in (
        omega arith,
        λ t n i l.
            let x : ltb at (length t) ≡ true = lt-ltb at (length t) (omega (arith, l.long)) in
            let y = same_text t n l at (omega arith) in
            rw x (ap₂ (λ x y. got.Value (packed_of y) x) y.1 y.0 ∙ r),
      ))
      (λ h r f. never 2 at w e r)
