-- Laws of the definitions: what one byte more does.
use Prim.Native.Nat.{ℕ, zero, suc, ◌+◌, ◌-◌, ◌≤◌, ◌<◌}
use mathlib.Core.Path.{◌≡◌, refl, sym, ap, ◌∙◌}
use mathlib.Core.List.{List, [], ◌∷◌}
use mathlib.Core.Bool.{Bool, true, false, cond}
use native.Mathlib.Numerals.{add-one}
use native.Mathlib.Omega.{arith}
use lib.ListN.{length, get_or, take, drop, length-drop}
use Rattle.std.proofs.Common.{◌≢◌, ◌⊎◌, inl, inr, count_by, zero-add}
use Rattle.std.proofs.lemmas.List.{get_or-drop}
use Rattle.std.proofs.lemmas.List.Sums.{sum_by_more}
use lib.Seq.{get_or-take, take_all, take-length}
use lib.Dec.{eqb}
use borrow.Author.Tests.{eq-eqb, ne_eqb, eqb-true, eqb-false, le-ltb}
use Rattle.fields.specs.Field.{comma, lf}
use Rattle.places.specs.declared.Place.{Place}
use Rattle.places.specs.Places.{walk, place_of, step_of, mark_of, last_from, passing_of}
use Rattle.places.specs.Counting.{same_of, count_of, start_of, field_in}

abbrev place : ℕ → ℕ → Place
place l f = record { line = l; field = f }

-- ---- places

pub place_past : (s : List ℕ) (at : ℕ) → length s < at → place_of s (length s) ≡ place_of s at
unfolding place_of
place_past s at h = rw (take_all at s (omega arith), take-length s)

walk_more : (s : List ℕ) (n : ℕ) (p : Place) → n < length s → walk (take (suc n) s) p ≡ step_of (get_or s n 0) (walk (take n s) p)
unfolding walk
walk_more [] n p h = absurd (omega arith)
walk_more (b ∷ r) zero p h = refl
walk_more (b ∷ r) (suc n) p h = walk_more r n (step_of b p) (omega arith)

place-more : (s : List ℕ) (n : ℕ) → n < length s → place_of s (suc n) ≡ step_of (get_or s n 0) (place_of s n)
unfolding place_of
place-more s n h = walk_more s n (place 1 1) h

-- an LF, and a byte that is none
step-lf : (b l f : ℕ) → b ≡ lf → step_of b (place l f) ≡ place (l + 1) 1
unfolding step_of
step-lf b l f e = rw (eq-eqb _ _ e)

module _ (s : List ℕ) (start l : ℕ) where
  step-on : (m b : ℕ) → b ≡ get_or s (start + m) 0 → (b ≡ lf → ⊥) → step_of b (place l (field_in s start m)) ≡ place l (field_in s start (suc m))
  unfolding step_of field_in count_of same_of
  step-on zero b e h = rw (ne_eqb _ _ h, ← e) (go (eqb b comma))
    where
      go : (t : Bool) → cond t (place l 3) (place l 2) ≡ place l (2 + (0 + cond t 1 0))
      go true = refl
      go false = refl
  step-on (suc m) b e h =
      let c = count_of comma s start (suc m) in
      let k : 2 ≤ 2 + c = omega arith in
      rw (ne_eqb _ _ h, ← e, le-ltb _ _ k) (go c (eqb b comma))
    where
      go : (c : ℕ) (t : Bool) → cond t (place l (2 + c + 1)) (place l (2 + c)) ≡ place l (2 + (c + cond t 1 0))
      go c true = ap (λ f. place l f) (let z : 2 + c + 1 ≡ 2 + (c + 1) = omega arith in z)
      go c false = ap (λ f. place l f) (let z : 2 + c ≡ 2 + (c + 0) = omega arith in z)

-- counting is std's
counted-front : (b : ℕ) (s : List ℕ) (n : ℕ) → n ≤ length s → count_by (λ x. eqb x b) (take n s) ≡ count_of b s 0 n
unfolding count_of same_of
counted-front b s zero h = refl
counted-front b s (suc n) h = rw (← add-one n, sum_by_more (λ x. cond (eqb x b) 1 0) s n 0 (omega arith), counted-front b s n (omega arith), zero-add)

counted : (b : ℕ) (s : List ℕ) → count_by (λ x. eqb x b) s ≡ count_of b s 0 (length s)
counted b s = sym (ap (λ xs. count_by (λ x. eqb x b) xs) (take-length s)) ∙ counted-front b s (length s) (omega arith)

-- what is counted of the bytes from a position on
count_from : (b : ℕ) (s : List ℕ) (from n : ℕ) → count_of b (drop from s) 0 n ≡ count_of b s from n
unfolding count_of
count_from b s from zero = refl
count_from b s from (suc n) = rw (count_from b s from n, zero-add, get_or-drop)

pub field-first : (s : List ℕ) → length s ≡ 0 → 1 ≡ field_in s 0 (length s)
unfolding field_in
field-first s e = rw e

pub field-on : (s : List ℕ) {c : ℕ} → (length s ≡ 0 → ⊥) → c ≡ count_by (λ x. eqb x comma) s → 2 + c ≡ field_in s 0 (length s)
unfolding field_in
field-on [] h p = absurd (h refl)
field-on (b ∷ s) h p = rw p (ap (λ n. 2 + n) (counted comma (b ∷ s)))

field_from : (s : List ℕ) (from n : ℕ) → field_in (drop from s) 0 n ≡ field_in s from n
unfolding field_in
field_from s from zero = refl
field_from s from (suc n) = ap (λ k. 2 + k) (count_from comma s from (suc n))

-- ---- where a line starts

module _ (s : List ℕ) where
  start-lf : (i j : ℕ) → i ≡ suc j → get_or s j 0 ≡ lf → start_of s i ≡ i
  unfolding start_of
  start-lf i j p e = rw (p, eq-eqb _ _ e)

  start-on : (i j : ℕ) → i ≡ suc j → (get_or s j 0 ≡ lf → ⊥) → start_of s i ≡ start_of s j
  unfolding start_of
  start-on i j p e = rw (p, ne_eqb _ _ e)

  start-past : (i m n : ℕ) → n ≡ i + m → ((k : ℕ) → i ≤ k → k < n → get_or s k 0 ≢ lf) → start_of s n ≡ start_of s i
  start-past i zero n e h = ap (start_of s) (let z : n ≡ i = omega arith in z)
  start-past i (suc m) n e h = start-on n (i + m) (omega arith) (h (i + m) (omega arith) (omega arith)) ∙ start-past i m (i + m) refl (λ k a b. h k a (omega arith))

  -- the last LF at i, or none
  pub start-at : (i : ℕ) → i < length s → get_or s i 0 ≡ lf → ((k : ℕ) → i + 1 ≤ k → k < length s → get_or s k 0 ≢ lf) → i + 1 ≡ start_of s (length s)
  start-at i h e f = sym (start-past (i + 1) (length s - (i + 1)) (length s) (omega arith) f ∙ start-lf (i + 1) i (add-one i) e)

  pub start_none : ((k : ℕ) → k < length s → get_or s k 0 ≢ lf) → 0 ≡ start_of s (length s)
  unfolding start_of
  start_none f = sym (start-past 0 (length s) (length s) (omega arith) (λ k a b. f k b))

  start-le : (n : ℕ) → start_of s n ≤ n
  unfolding start_of
  start-le zero = omega arith
  start-le (suc n) = go (eqb (get_or s n 0) lf) (start-le n)
    where
      go : (t : Bool) → start_of s n ≤ n → cond t (suc n) (start_of s n) ≤ suc n
      go true h = omega arith
      go false h = omega arith

-- a place is told by counting: the LFs before it, and the commas between the start of its line and it
place_counted : (s : List ℕ) (n : ℕ) → n ≤ length s → place_of s n ≡ place (1 + count_of lf s 0 n) (field_in s (start_of s n) (n - start_of s n))
unfolding place_of walk count_of start_of field_in same_of
place_counted s zero h = refl
place_counted s (suc n) h =
    let z : 0 + n ≡ n = omega arith in
    place-more s n (omega arith) ∙ ap (λ p. step_of (get_or s n 0) p) (place_counted s n (omega arith)) ∙ rw z (go (eqb (get_or s n 0) lf) refl)
  where
    l : ℕ
    l = count_of lf s 0 n

    from : ℕ
    from = start_of s n

    go : (t : Bool) → eqb (get_or s n 0) lf ≡ t
        → step_of (get_or s n 0) (place (1 + l) (field_in s from (n - from))) ≡ place (1 + (l + cond t 1 0)) (field_in s (cond t (suc n) from) (suc n - cond t (suc n) from))
    go true e =
        let a : suc n - suc n ≡ 0 = omega arith in
        let b : 1 + l + 1 ≡ 1 + (l + 1) = omega arith in
        step-lf _ _ _ (eqb-true _ _ e) ∙ rw (a, b)
    go false e =
        let i : from ≤ n = start-le s n in
        let a : suc n - from ≡ suc (n - from) = omega arith in
        let b : 1 + (l + 0) ≡ 1 + l = omega arith in
        let c : n ≡ from + (n - from) = omega arith in
        step-on s from (1 + l) (n - from) (get_or s n 0) (ap (λ k. get_or s k 0) c) (eqb-false _ _ e) ∙ rw (a, b)

-- of the bytes before a position: the last line of them begins at start
pub place_by : (s before line : List ℕ) (at : ℕ) {start lines field : ℕ} → before ≡ take at s → start ≡ start_of before (length before) → lines ≡ count_by (λ x. eqb x lf) before → line ≡ drop start before
    → field ≡ field_in line 0 (length line) → place (1 + lines) field ≡ place_of s at
unfolding place_of
place_by s before line at {start} {lines} {field} h p q m r =
    let n = length before in
    let f : field ≡ field_in before (start_of before n) (n - start_of before n) = r ∙ rw m (field_from before start (length (drop start before)) ∙ rw (length-drop start before, p)) in
    let w : walk (take n before) (place 1 1) ≡ walk before (place 1 1) = ap (λ xs. walk xs (place 1 1)) (take-length before) in
    let l : n ≤ length before = omega arith in
    rw (q, counted lf before, f) (sym (place_counted before n l) ∙ w ∙ ap (λ xs. walk xs (place 1 1)) h)

-- ---- the limit

last_more : (s : List ℕ) (n i k q : ℕ) → n < length s → k ≡ i + n → last_from i q (take (suc n) s) ≡ mark_of (get_or s n 0) k (last_from i q (take n s))
unfolding last_from
last_more [] n i k q h e = absurd (omega arith)
last_more (b ∷ r) zero i k q h e = ap (λ j. mark_of b j q) (let z : i ≡ k = omega arith in z)
last_more (b ∷ r) (suc n) i k q h e = last_more r n (suc i) k (mark_of b i q) (omega arith) (omega arith)

module _ (s : List ℕ) where
  passing_more : (n : ℕ) → n < length s → passing_of s (suc n) ≡ mark_of (get_or s n 0) n (passing_of s n)
  unfolding passing_of
  passing_more n h = last_more s n 0 n 0 h (omega arith)

  passing_comma : (i j : ℕ) → i ≡ suc j → i ≤ length s → get_or s j 0 ≡ comma → passing_of s i ≡ j
  unfolding mark_of
  passing_comma i j p l e = rw p (passing_more j (omega arith) ∙ rw (eq-eqb _ _ e))

  passing_lf : (i j : ℕ) → i ≡ suc j → i ≤ length s → get_or s j 0 ≡ lf → passing_of s i ≡ i
  unfolding mark_of
  passing_lf i j p l e = rw p (passing_more j (omega arith) ∙ rw (e, add-one))

  passing_on : (i j : ℕ) → i ≡ suc j → i ≤ length s → (get_or s j 0 ≡ comma → ⊥) → (get_or s j 0 ≡ lf → ⊥) → passing_of s i ≡ passing_of s j
  unfolding mark_of
  passing_on i j p l e f = rw p (passing_more j (omega arith) ∙ rw (ne_eqb _ _ e, ne_eqb _ _ f))

  passing-past : (i m n : ℕ) → n ≡ i + m → n ≤ length s → ((k : ℕ) → i ≤ k → k < n → get_or s k 0 ≢ comma) → ((k : ℕ) → i ≤ k → k < n → get_or s k 0 ≢ lf) → passing_of s n ≡ passing_of s i
  passing-past i zero n e l f g = ap (passing_of s) (let z : n ≡ i = omega arith in z)
  passing-past i (suc m) n e l f g =
      passing_on n (i + m) (omega arith) l (f (i + m) (omega arith) (omega arith)) (g (i + m) (omega arith) (omega arith))
      ∙ passing-past i m (i + m) refl (omega arith) (λ k a b. f k a (omega arith)) (λ k a b. g k a (omega arith))

  -- behind i, none of the first n bytes is a comma or an LF
  module _ (n i : ℕ) (l : n ≤ length s) (f : (k : ℕ) → i + 1 ≤ k → k < n → get_or (take n s) k 0 ≢ comma) (g : (k : ℕ) → i + 1 ≤ k → k < n → get_or (take n s) k 0 ≢ lf) (h : i < n) where
    after_at : passing_of s n ≡ passing_of s (i + 1)
    after_at =
        passing-past (i + 1) (n - (i + 1)) n (omega arith) l
        (λ k a b. rw (get_or-take n s k 0 b) at (f k a b)) (λ k a b. rw (get_or-take n s k 0 b) at (g k a b))

    pub passing-at_lf : get_or s i 0 ≡ lf → i + 1 ≡ passing_of s n
    passing-at_lf e = sym (after_at ∙ passing_lf (i + 1) i (add-one i) (omega arith) e)

    -- what is found at i is one of the two
    pub passing-at_comma : (get_or (take n s) i 0 ≡ comma) ⊎ (get_or (take n s) i 0 ≡ lf) → get_or s i 0 ≢ lf → i ≡ passing_of s n
    passing-at_comma (inl e) f = sym (after_at ∙ passing_comma (i + 1) i (add-one i) (omega arith) (sym (get_or-take n s i 0 h) ∙ e))
    passing-at_comma (inr e) f = absurd (f (sym (get_or-take n s i 0 h) ∙ e))

  pub passing_none : (n : ℕ) → n ≤ length s → ((k : ℕ) → k < n → get_or (take n s) k 0 ≢ comma) → ((k : ℕ) → k < n → get_or (take n s) k 0 ≢ lf) → 0 ≡ passing_of s n
  unfolding passing_of last_from
  passing_none n l f g =
      sym (passing-past 0 n n (omega arith) l (λ k a b. rw (get_or-take n s k 0 b) at (f k b)) (λ k a b. rw (get_or-take n s k 0 b) at (g k b)))
