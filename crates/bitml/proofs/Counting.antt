-- Laws of counting up, of what is kept or gathered, and of a store. Assumes nothing.
use mathlib.Core.Path.{◌≡◌, refl, sym, ap, ap₂, ◌∙◌}
use Prim.Native.Nat.{ℕ, zero, suc, ◌+◌, ◌-◌, ◌≤◌, ◌<◌}
use native.Mathlib.Omega.{arith}
use mathlib.Core.Bool.{Bool, true, false, cond, false≢true}
use mathlib.Core.List.{List, [], ◌∷◌, ◌++◌, map, append-nil, Memᴰ}
use lib.ListN.{length, get_or, set}
use Rattle.bitml.specs.Lists.{every, keep, gather, All, up_from, below}
use Rattle.bitml.proofs.Lists.{and_false, and_true, all_head, all_tail, gather_append}

-- a store, at an index in range, and elsewhere
pub at_store : {A : Type 0} (Q : A → Type 0) (xs : List A) (i j : ℕ) (y d : A) → i < length xs → ((j ≡ i → ⊥) → Q (get_or xs j d)) → (j ≡ i → Q y) → Q (get_or (set xs i y) j d)
at_store Q [] i j y d l f g = absurd (omega arith)
at_store Q (x ∷ xs) zero zero y d l f g = g refl
at_store Q (x ∷ xs) zero (suc j) y d l f g = f (λ e. omega arith)
at_store Q (x ∷ xs) (suc i) zero y d l f g = f (λ e. omega arith)
at_store Q (x ∷ xs) (suc i) (suc j) y d l f g = at_store Q xs i j y d (omega arith) (λ ne. f (λ e. ne (omega arith))) (λ e. g (ap suc e))

-- ---- what is kept

pub keep_cong : (T U : ℕ → Bool) (xs : List ℕ) → ((x : ℕ) → Memᴰ x xs → T x ≡ U x) → keep T xs ≡ keep U xs
keep_cong T U [] f = refl
keep_cong T U (x ∷ xs) f = rw (f x (Memᴰ.head refl)) (ap (λ ys. cond (U x) (x ∷ ys) ys) (keep_cong T U xs (λ y m. f y (Memᴰ.tail m))))

module _ (T : ℕ → Bool) where
  pub keep_append : (xs ys : List ℕ) → keep T (xs ++ ys) ≡ keep T xs ++ keep T ys
  keep_append [] ys = refl
  keep_append (x ∷ xs) ys = go (T x) (keep_append xs ys)
    where
      go : (b : Bool) → keep T (xs ++ ys) ≡ keep T xs ++ keep T ys → cond b (x ∷ keep T (xs ++ ys)) (keep T (xs ++ ys)) ≡ cond b (x ∷ keep T xs) (keep T xs) ++ keep T ys
      go true e = ap (λ zs. x ∷ zs) e
      go false e = e

  pub keep-none : (xs : List ℕ) → All (λ x. T x ≡ false) xs → keep T xs ≡ []
  keep-none [] a = refl
  keep-none (x ∷ xs) a = let e = all_head a in rw e (keep-none xs (all_tail a))

  pub keep_whole : (xs : List ℕ) → All (λ x. T x ≡ true) xs → keep T xs ≡ xs
  keep_whole [] a = refl
  keep_whole (x ∷ xs) a = let e = all_head a in rw e (ap (λ ys. x ∷ ys) (keep_whole xs (all_tail a)))

  -- a test that only passes where T does
  pub keep-keep : (P : ℕ → Bool) (xs : List ℕ) → ((x : ℕ) → P x ≡ true → Memᴰ x xs → T x ≡ true) → keep P (keep T xs) ≡ keep P xs
  keep-keep P [] f = refl
  keep-keep P (x ∷ xs) f = go (T x) refl (P x) refl (keep-keep P xs (λ y e m. f y e (Memᴰ.tail m)))
    where
      go : (b : Bool) → T x ≡ b → (c : Bool) → P x ≡ c → keep P (keep T xs) ≡ keep P xs → keep P (cond b (x ∷ keep T xs) (keep T xs)) ≡ cond c (x ∷ keep P xs) (keep P xs)
      go true e c q r = rw q (ap (λ zs. cond c (x ∷ zs) zs) r)
      go false e true q r = absurd (false≢true (sym e ∙ f x q (Memᴰ.head refl)))
      go false e false q r = r

-- ---- counting up

pub up_split : (a b c : ℕ) → up_from a (b + c) ≡ up_from a b ++ up_from (a + b) c
up_split a zero c = ap₂ up_from (let z : a ≡ a + 0 = omega arith in z) (let z : 0 + c ≡ c = omega arith in z)
up_split a (suc b) c =
    let z : suc b + c ≡ suc (b + c) = omega arith in
    rw z (ap (λ xs. a ∷ xs) (up_split (suc a) b c ∙ ap (λ k. up_from (suc a) b ++ up_from k c) (let y : suc a + b ≡ a + suc b = omega arith in y)))

up_next : (a n : ℕ) (k : ℕ) → n ≡ suc k → up_from a n ≡ a ∷ up_from (suc a) k
up_next a n k e = rw e

-- the numbers from a + i up to a + n
pub up_more : (a i n : ℕ) → i < n → up_from (a + i) (n - i) ≡ (a + i) ∷ up_from (a + (i + 1)) (n - (i + 1))
up_more a i n h =
    up_next (a + i) (n - i) (n - (i + 1)) (omega arith)
    ∙ ap (λ b. (a + i) ∷ up_from b (n - (i + 1))) (let z : suc (a + i) ≡ a + (i + 1) = omega arith in z)

pub up_none : (a i n : ℕ) → n ≤ i → up_from (a + i) (n - i) ≡ []
up_none a i n h = let z : n - i ≡ 0 = omega arith in rw z

pub up-all : (a n : ℕ) → up_from (a + 0) (n - 0) ≡ up_from a n
up-all a n = ap₂ up_from (let z : a + 0 ≡ a = omega arith in z) (let z : n - 0 ≡ n = omega arith in z)

-- and from i up to n
pub up_one : (i n : ℕ) → i < n → up_from i (n - i) ≡ i ∷ up_from (i + 1) (n - (i + 1))
up_one i n h = up_next i (n - i) (n - (i + 1)) (omega arith) ∙ ap (λ b. i ∷ up_from b (n - (i + 1))) (let z : suc i ≡ i + 1 = omega arith in z)

pub up-end : (i n : ℕ) → n ≤ i → up_from i (n - i) ≡ []
up-end i n h = let z : n - i ≡ 0 = omega arith in rw z

-- ---- a test of all that stands at the numbers from a + i up to a + n

module _ (T : ℕ → Bool) (f : ℕ → ℕ) (a i n : ℕ) where
  pub every-bad : i < n → T (f (a + i)) ≡ false → every T (map f (up_from (a + i) (n - i))) ≡ false
  every-bad h e = ap (λ xs. every T (map f xs)) (up_more a i n h) ∙ and_false _ _ e

  pub every_good : i < n → T (f (a + i)) ≡ true → every T (map f (up_from (a + i) (n - i))) ≡ every T (map f (up_from (a + (i + 1)) (n - (i + 1))))
  every_good h e = ap (λ xs. every T (map f xs)) (up_more a i n h) ∙ and_true _ _ e

  pub every-end : n ≤ i → every T (map f (up_from (a + i) (n - i))) ≡ true
  every-end h = ap (λ xs. every T (map f xs)) (up_none a i n h)

-- ---- what is gathered for the numbers below n

module _ {B : Type 0} (f : ℕ → List B) where
  -- one number more
  pub gather-up : (n : ℕ) → gather f (below (n + 1)) ≡ gather f (below n) ++ f n
  gather-up n =
      ap (gather f) (up_split 0 n 1) ∙ gather_append f (up_from 0 n) (up_from (0 + n) 1)
      ∙ ap (λ ys. gather f (below n) ++ ys) (ap (λ k. f k ++ []) (let z : 0 + n ≡ n = omega arith in z) ∙ append-nil (f n))

  -- what stands before number p, at it and behind it
  pub gather-split : (p n : ℕ) → p < n → gather f (below n) ≡ gather f (below p) ++ (f p ++ gather f (up_from (p + 1) (n - (p + 1))))
  gather-split p n h =
      let e : below n ≡ below p ++ up_from (0 + p) (n - p) = ap below (let z : n ≡ p + (n - p) = omega arith in z) ∙ up_split 0 p (n - p) in
      let g : up_from (0 + p) (n - p) ≡ p ∷ up_from (p + 1) (n - (p + 1)) =
      up_more 0 p n h ∙ ap₂ (λ a b. a ∷ up_from b (n - (p + 1))) (let z : 0 + p ≡ p = omega arith in z) (let z : 0 + (p + 1) ≡ p + 1 = omega arith in z) in
      ap (gather f) e ∙ gather_append f (below p) (up_from (0 + p) (n - p)) ∙ ap (λ ys. gather f (below p) ++ gather f ys) g
