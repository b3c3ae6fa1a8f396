-- Facts and sums over the numbers of a range. Assumes nothing.
use Prim.Native.Nat.{ℕ, zero, suc, ◌+◌, ◌≤◌, ◌<◌}
use mathlib.Core.Path.{◌≡◌, refl, subst}
use mathlib.Core.Logic.{by_cases}
use mathlib.Core.Bool.{Bool, true, false, cond}
use mathlib.Core.List.{◌∷◌, map}
use lib.ListN.{length}
use lib.Dec.{eqb}
use native.Mathlib.Decide.{dec_lt, dec_le}
use native.Mathlib.Omega.{arith}
use borrow.Author.Tests.{eq-eqb, ne_eqb}
use Rattle.bitml.specs.Lists.{keep, sum, up_from}

-- P holds from a on, up to b
pub record Each (P : ℕ → Type 0) (a b : ℕ) : Type 0 where
  pub at : (i : ℕ) → a ≤ i → i < b → P i

module _ {P : ℕ → Type 0} where
  pub each_none : {a b : ℕ} → b ≤ a → Each P a b
  each_none h = record { at = λ i p q. absurd (omega (arith, h, p, q)) }

  pub each_first : {a b : ℕ} → P a → Each P (suc a) b → Each P a b
  each_first {a} {b} h r = record { at = λ i p q. by_cases (dec_le i a) (λ k. let e : a ≡ i = omega (arith, p, k) in subst P e h) (λ k. r.at i (omega (arith, k)) q) }

  pub each-join : {a b c : ℕ} → Each P a b → Each P b c → Each P a c
  each-join {b = b} h r = record { at = λ i p q. by_cases (dec_lt i b) (λ k. h.at i p k) (λ k. r.at i (omega (arith, k)) q) }

  pub each_to : {a b : ℕ} (c : ℕ) → Each P a b → c ≤ b → Each P a c
  each_to c h k = record { at = λ i p q. h.at i p (omega (arith, k, q)) }

  pub each_map : {Q : ℕ → Type 0} {a b : ℕ} → Each Q a b → ((i : ℕ) → a ≤ i → i < b → Q i → P i) → Each P a b
  each_map h f = record { at = λ i p q. f i p q (h.at i p q) }

-- ---- sums

-- c where the test passes, else nothing
unfoldable pub only : Bool → ℕ → ℕ
only true c = c
only false c = 0

pub only_none : (t : Bool) → only t 0 ≡ 0
unfolding only
only_none true = refl
only_none false = refl

pub only-add : (t : Bool) (a b : ℕ) → only t (a + b) ≡ only t a + only t b
unfolding only
only-add true a b = refl
only-add false a b = omega arith

pub only_same : (i c : ℕ) → only (eqb i i) c ≡ c
unfolding only
only_same i c = rw (eq-eqb i i refl)

pub only-other : (i j c : ℕ) → (i ≡ j → ⊥) → only (eqb i j) c ≡ 0
unfolding only
only-other i j c h = rw (ne_eqb i j h)

-- f k + f (k + 1) + .. + f (k + n - 1)
unfoldable pub total : (ℕ → ℕ) → ℕ → ℕ → ℕ
total f k zero = 0
total f k (suc n) = f k + total f (suc k) n

pub total-add : (f : ℕ → ℕ) (k a b : ℕ) → total f k (a + b) ≡ total f k a + total f (k + a) b
unfolding total
total-add f k zero b = let e : k + 0 ≡ k = omega arith in let z : 0 + b ≡ b = omega arith in rw (e, z) (omega arith)
total-add f k (suc a) b =
    let e : suc a + b ≡ suc (a + b) = omega arith in
    let z : k + suc a ≡ suc k + a = omega arith in
    let r = total-add f (suc k) a b in
    rw (e, z) (omega (arith, r))

pub total-none : (f : ℕ → ℕ) (k n : ℕ) → ((j : ℕ) → k ≤ j → j < k + n → f j ≡ 0) → total f k n ≡ 0
unfolding total
total-none f k zero h = refl
total-none f k (suc n) h =
    let z = h k (omega arith) (omega arith) in
    let r = total-none f (suc k) n λ j p q. h j (omega (arith, p)) (omega (arith, q)) in
    omega (arith, z, r)

-- of the numbers only i counts
pub total-only : (f : ℕ → ℕ) (i k n : ℕ) → k ≤ i → i < k + n → total (λ j. only (eqb j i) (f j)) k n ≡ f i
unfolding total
total-only f i k zero p q = absurd (omega (arith, p, q))
total-only f i k (suc n) p q =
    by_cases (dec_le i k)
    (λ h.
    let e : k ≡ i = omega (arith, h, p) in
    let r = total-none (λ j. only (eqb j i) (f j)) (suc k) n λ j a b. only-other j i (f j) λ z. omega (arith, z, a, e) in
    let s : only (eqb k i) (f k) ≡ f i = rw e (only_same i (f i)) in
    omega (arith, r, s))
    (λ h.
    let r = total-only f i (suc k) n (omega (arith, h)) (omega (arith, q)) in
    let s = only-other k i (f k) λ z. omega (arith, z, h) in
    omega (arith, r, s))

-- ---- what a test keeps of a range

pub length-keep : (T : ℕ → Bool) (k n : ℕ) → length (keep T (up_from k n)) ≡ total (λ j. only (T j) 1) k n
unfolding total only
length-keep T k zero = refl
length-keep T k (suc n) = go (T k) (length-keep T (suc k) n)
  where
    go : (b : Bool) → length (keep T (up_from (suc k) n)) ≡ total (λ j. only (T j) 1) (suc k) n
        → length (cond b (k ∷ keep T (up_from (suc k) n)) (keep T (up_from (suc k) n))) ≡ only b 1 + total (λ j. only (T j) 1) (suc k) n
    go true r = omega (arith, r)
    go false r = omega (arith, r)

pub sum-keep : (T : ℕ → Bool) (f : ℕ → ℕ) (k n : ℕ) → sum (map f (keep T (up_from k n))) ≡ total (λ j. only (T j) (f j)) k n
unfolding total only
sum-keep T f k zero = refl
sum-keep T f k (suc n) = go (T k) (sum-keep T f (suc k) n)
  where
    go : (b : Bool) → sum (map f (keep T (up_from (suc k) n))) ≡ total (λ j. only (T j) (f j)) (suc k) n
        → sum (map f (cond b (k ∷ keep T (up_from (suc k) n)) (keep T (up_from (suc k) n)))) ≡ only b (f k) + total (λ j. only (T j) (f j)) (suc k) n
    go true r = omega (arith, r)
    go false r = omega (arith, r)

-- ---- pairs

-- R holds of any two numbers from a on, up to b, the lower first
pub record Pairs (R : ℕ → ℕ → Type 0) (a b : ℕ) : Type 0 where
  pub at : (k l : ℕ) → a ≤ k → k < l → l < b → R k l

module _ {R : ℕ → ℕ → Type 0} where
  pub pairs_none : {a b : ℕ} → b ≤ a → Pairs R a b
  pairs_none h = record { at = λ k l p q r. absurd (omega (arith, h, p, q, r)) }

  pub pairs_first : {a b : ℕ} → Each (R a) (suc a) b → Pairs R (suc a) b → Pairs R a b
  pairs_first {a} h r = record { at = λ k l p q s. by_cases (dec_le k a) (λ i. let e : a ≡ k = omega (arith, p, i) in subst (λ y. R y l) e (h.at l (omega (arith, e, q)) s)) (λ i. r.at k l (omega (arith, i)) q s) }

  pub pairs_join : {a b c : ℕ} → Pairs R a b → Pairs R b c → ((k l : ℕ) → a ≤ k → k < b → b ≤ l → l < c → R k l) → Pairs R a c
  pairs_join {b = b} h r x =
      record {
        at = λ k l p q s.
            by_cases (dec_lt l b) (λ i. h.at k l p q i)
            (λ i. by_cases (dec_lt k b) (λ j. x k l p j (omega (arith, i)) s) (λ j. r.at k l (omega (arith, j)) q s));
      }

  pub pairs_to : {a b : ℕ} (c : ℕ) → Pairs R a b → c ≤ b → Pairs R a c
  pairs_to c h k = record { at = λ i j p q r. h.at i j p q (omega (arith, k, r)) }
