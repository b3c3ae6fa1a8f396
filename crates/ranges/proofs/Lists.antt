-- Lists that grow at their end: what stood in them stays, and numbers that are listed stay below what they were below. Assumes nothing.
use Prim.Native.Nat.{ℕ, zero, suc, ◌+◌, ◌≤◌, ◌<◌}
use mathlib.Core.Path.{◌≡◌, refl, ap, sym, ◌∙◌, subst}
use mathlib.Core.Logic.{by_cases}
use mathlib.Core.List.{List, [], ◌∷◌, ◌++◌, map, append_assoc, append-nil}
use mathlib.Core.Bool.{Bool, true, false, false≢true, ◌||◌}
use native.Mathlib.Decide.{dec_le}
use native.Mathlib.Nat.{zero-add}
use native.Mathlib.Omega.{arith}
use lib.ListN.{length, get_or, drop, length-append, length-drop, get_or-append}
use lib.Seq.{get_or_at, get_or-drop}
use lib.Dec.{eqb}
use borrow.Author.Tests.{eqb-true}
use Rattle.bitml.specs.Lists.{All, nil, cons, sum, below, up_from}
use Rattle.bitml.proofs.Lists.{all_of, up_mem, map_cong}
use Rattle.tables.specs.State.{among, since}
use Rattle.ranges.specs.Ranged.{Below, DefRange}

-- ys has all of xs, and more behind it
pub record Begins {A : Type 0} (xs ys : List A) : Type 0 where
  rest : List A
  joined : ys ≡ xs ++ rest

module _ {A : Type 0} where
  pub begins_self : (xs : List A) → Begins xs xs
  begins_self xs = record { rest = []; joined = sym (append-nil xs) }

  pub begins_more : (xs : List A) (y : A) → Begins xs (xs ++ (y ∷ []))
  begins_more xs y = record { rest = y ∷ []; joined = refl }

  pub begins_on : {xs ys zs : List A} → Begins xs ys → Begins ys zs → Begins xs zs
  begins_on {xs} h i = record { rest = h.rest ++ i.rest; joined = i.joined ∙ rw (h.joined, append_assoc) }

  pub begins_length : {xs ys : List A} → Begins xs ys → length xs ≤ length ys
  begins_length h = rw (h.joined, length-append) (omega arith)

  pub begins_at : {xs ys : List A} → Begins xs ys → (i : ℕ) (d : A) → i < length xs → get_or ys i d ≡ get_or xs i d
  begins_at {xs} h i d l = rw h.joined (get_or-append xs h.rest d i l)

  pub length_more : (xs : List A) (y : A) → length (xs ++ (y ∷ [])) ≡ suc (length xs)
  length_more xs y = length-append xs (y ∷ []) ∙ omega arith

  -- a fact of every element is one of each place
  pub all-entry : (Q : A → Type 0) {xs : List A} (d : A) → All Q xs → (i : ℕ) → i < length xs → Q (get_or xs i d)
  all-entry Q d nil i h = absurd (omega arith)
  all-entry Q d (cons q r) zero h = q
  all-entry Q d (cons q r) (suc i) h = all-entry Q d r i (omega arith)

-- ---- listed numbers, each below m

module _ {m : ℕ} {xs : List ℕ} {first : ℕ} where
  pub below_none : first ≤ length xs → Below m xs first 0
  below_none h = record { fits = omega arith; each = λ i l. absurd (omega arith) }

  pub below_grown : {ys : List ℕ} {n : ℕ} → Begins xs ys → Below m xs first n → Below m ys first n
  below_grown {n = n} g h = record {
    fits = omega (arith, begins_length g, h.fits);
    each = λ i l. rw (begins_at g (first + i) 0 (omega (arith, h.fits))) (h.each i l);
  }

  -- the next number that is listed
  pub below_more : {n : ℕ} (v : ℕ) → Below m xs first n → length xs ≡ first + n → v < m → Below m (xs ++ (v ∷ [])) first (suc n)
  below_more {n} v h e l = record {
    fits = rw length_more (omega arith);
    each = λ i k. by_cases (dec_le n i)
        (λ j. rw (get_or_at xs v [] 0 (first + i) (omega (arith, e))) l)
        (λ j. rw (get_or-append xs (v ∷ []) 0 (first + i) (omega (arith, e))) (h.each i (omega arith)));
  }

-- a fact of every element is one of what is among them
among-all : (Q : ℕ → Type 0) (v : ℕ) (xs : List ℕ) → ((i : ℕ) → i < length xs → Q (get_or xs i 0)) → among v xs ≡ true → Q v
unfolding among
among-all Q v [] h e = absurd (false≢true e)
among-all Q v (x ∷ xs) h e = go (eqb x v) refl (among-all Q v xs (λ i l. h (suc i) (omega arith))) e
  where
    go : (b : Bool) → eqb x v ≡ b → (among v xs ≡ true → Q v) → (b || among v xs) ≡ true → Q v
    go true i r j = subst Q (eqb-true x v i) (h 0 (omega arith))
    go false i r j = r j

-- one of the n numbers that were listed last
pub below-among : {m : ℕ} {xs : List ℕ} {first n : ℕ} (v : ℕ) → Below m xs first n → length xs ≡ first + n → among v (since first xs) ≡ true → v < m
unfolding since
below-among {m} {xs} {first} {n} v h e =
    among-all (λ x. x < m) v (drop first xs) λ i l.
    let k : i < n = omega (arith, l, length-drop first xs, e) in
    rw (get_or-drop first xs i 0) (h.each i k)

-- ---- the numbers of a definition

-- n deposits together
abbrev pub total : List ℕ → ℕ → ℕ → ℕ
total xs first n = sum (map (λ p. get_or xs (first + p) 0) (below n))

total-same : (xs ys : List ℕ) (first n : ℕ) → first + n ≤ length xs → Begins xs ys → total ys first n ≡ total xs first n
total-same xs ys first n h g =
    ap (λ x. sum x) (map_cong (λ p. get_or ys (first + p) 0) (λ p. get_or xs (first + p) 0) (below n) λ p m.
    begins_at g (first + p) 0 (omega (arith, h, all_of (up_mem 0 n) m)))

sum-last : (f : ℕ → ℕ) (k n : ℕ) → sum (map f (up_from k (suc n))) ≡ sum (map f (up_from k n)) + f (k + n)
sum-last f k zero = let e : k + 0 ≡ k = omega arith in rw e (omega arith)
sum-last f k (suc n) = let e : k + suc n ≡ suc k + n = omega arith in rw e (omega (arith, sum-last f (suc k) n))

-- a deposit more
pub total-more : (xs : List ℕ) (first n v : ℕ) → length xs ≡ first + n → total (xs ++ (v ∷ [])) first (suc n) ≡ total xs first n + v
total-more xs first n v e =
    sum-last (λ p. get_or (xs ++ (v ∷ [])) (first + p) 0) 0 n
    ∙ rw (total-same xs (xs ++ (v ∷ [])) first n (omega arith) (begins_more xs v), zero-add, get_or_at xs v [] 0 (first + n) e)

pub def_grown : {K : ℕ} {xs ys : List ℕ} {first n : ℕ} → Begins xs ys → DefRange K xs first n → DefRange K ys first n
def_grown {K} {xs} {ys} {first} {n} g h = record {
  few = h.few;
  owners = below_grown g h.owners;
  deposits = rw (total-same xs ys first K (omega (arith, h.owners.fits)) g) h.deposits;
}
