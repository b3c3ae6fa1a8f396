-- Lists of numbers that are kept, joined and grouped. Assumes nothing.
use mathlib.Core.Path.{◌≡◌, refl, sym, ap, ap₂, ◌∙◌}
use mathlib.Core.Logic.{by_cases}
use Prim.Native.Nat.{ℕ, zero, suc, ◌+◌, ◌≤◌, ◌<◌}
use native.Mathlib.Omega.{arith}
use native.Mathlib.Decide.{dec_lt}
use mathlib.Core.Bool.{Bool, true, false, cond}
use mathlib.Core.List.{List, [], ◌∷◌, ◌++◌, Memᴰ}
use lib.Dec.{eqb, ltb}
use borrow.Author.Tests.{eqb-true, eq-eqb, ne_eqb, lt-ltb, le-ltb, ltb-true}
use Rattle.bitml.specs.Lists.{keep, up_from, All}
use Rattle.bitml.proofs.Counting.{keep-none, keep_whole, keep-keep}
use Rattle.bitml.proofs.Lists.{all_head, all_tail, all_of, all-mem, keep_all, keep_imp, up_mem}

abbrev pub joined : (ℕ → List ℕ) → List ℕ → List ℕ
joined g [] = []
joined g (b ∷ bs) = g b ++ joined g bs

pub joined_cong : (g h : ℕ → List ℕ) (bs : List ℕ) → ((b : ℕ) → Memᴰ b bs → g b ≡ h b) → joined g bs ≡ joined h bs
joined_cong g h [] f = refl
joined_cong g h (b ∷ bs) f = ap₂ (λ xs ys. xs ++ ys) (f b (Memᴰ.head refl)) (joined_cong g h bs (λ c m. f c (Memᴰ.tail m)))

pub joined_keep : (Q : ℕ → Bool) (g : ℕ → List ℕ) (bs : List ℕ) → ((b : ℕ) → Q b ≡ false → g b ≡ []) → joined g (keep Q bs) ≡ joined g bs
joined_keep Q g [] f = refl
joined_keep Q g (b ∷ bs) f = go (Q b) refl (joined_keep Q g bs f)
  where
    go : (c : Bool) → Q b ≡ c → joined g (keep Q bs) ≡ joined g bs → joined g (cond c (b ∷ keep Q bs) (keep Q bs)) ≡ g b ++ joined g bs
    go true e r = ap (λ xs. g b ++ xs) r
    go false e r = r ∙ ap (λ xs. xs ++ joined g bs) (sym (f b e))

-- f does not fall along a list
pub data Rising (f : ℕ → ℕ) : List ℕ → Type 0 where
  flat : Rising f []
  rise : {x : ℕ} {xs : List ℕ} → All (λ y. f x ≤ f y) xs → Rising f xs → Rising f (x ∷ xs)

rising_head : {f : ℕ → ℕ} {x : ℕ} {xs : List ℕ} → Rising f (x ∷ xs) → All (λ y. f x ≤ f y) xs
rising_head (rise a r) = a

rising_tail : {f : ℕ → ℕ} {x : ℕ} {xs : List ℕ} → Rising f (x ∷ xs) → Rising f xs
rising_tail (rise a r) = r

module _ (f : ℕ → ℕ) where
  keep-rising : (T : ℕ → Bool) (xs : List ℕ) → Rising f xs → Rising f (keep T xs)
  keep-rising T [] r = flat
  keep-rising T (x ∷ xs) r = go (T x) (keep-rising T xs (rising_tail r))
    where
      go : (b : Bool) → Rising f (keep T xs) → Rising f (cond b (x ∷ keep T xs) (keep T xs))
      go true w = rise (keep_imp T xs (rising_head r)) w
      go false w = w

  pub up-rising : (T : ℕ → Bool) (k n : ℕ) → ((m l : ℕ) → m < l → l < k + n → T m ≡ true → T l ≡ true → f m ≤ f l) → Rising f (keep T (up_from k n))
  up-rising T k zero h = flat
  up-rising T k (suc n) h = go (T k) refl (up-rising T (suc k) n (λ m l a b. h m l a (omega arith)))
    where
      go : (b : Bool) → T k ≡ b → Rising f (keep T (up_from (suc k) n)) → Rising f (cond b (k ∷ keep T (up_from (suc k) n)) (keep T (up_from (suc k) n)))
      go true e w = rise (all-mem (λ y. f k ≤ f y) (keep T (up_from (suc k) n)) λ y hy.
          let z = all_of (keep_imp T (up_from (suc k) n) (up_mem (suc k) n)) hy in
          h k y (omega (arith, z)) (omega (arith, z)) e (all_of (keep_all T (up_from (suc k) n)) hy)) w
      go false e w = w

  -- those at k, and those above
  cut : (k : ℕ) (xs : List ℕ) → Rising f xs → All (λ x. k ≤ f x) xs → keep (λ x. eqb (f x) k) xs ++ keep (λ x. ltb k (f x)) xs ≡ xs
  cut k [] r a = refl
  cut k (x ∷ xs) r a = by_cases (dec_lt k (f x))
      (λ l.
      let low : All (λ y. eqb (f y) k ≡ false) xs = all-mem (λ y. eqb (f y) k ≡ false) xs λ y hy. let z = all_of (rising_head r) hy in ne_eqb (f y) k (λ e. omega (arith, z)) in
      let up : All (λ y. ltb k (f y) ≡ true) xs = all-mem (λ y. ltb k (f y) ≡ true) xs λ y hy. let z = all_of (rising_head r) hy in lt-ltb k (f y) (omega (arith, z)) in
      let e₁ = ne_eqb (f x) k (λ e. omega arith) in
      let e₂ = lt-ltb k (f x) l in
      rw (e₁, e₂) (ap₂ (λ us vs. us ++ (x ∷ vs)) (keep-none (λ y. eqb (f y) k) xs low) (keep_whole (λ y. ltb k (f y)) xs up)))
      (λ l.
      let z = all_head a in
      let e₁ = eq-eqb (f x) k (omega (arith, z)) in
      let e₂ = le-ltb k (f x) (omega arith) in
      rw (e₁, e₂) (ap (λ ys. x ∷ ys) (cut k xs (rising_tail r) (all_tail a))))

  -- a list that rises, put together from its groups
  pub group : (r k : ℕ) (xs : List ℕ) → Rising f xs → All (λ x. (k ≤ f x) × (f x < k + r)) xs → joined (λ b. keep (λ x. eqb (f x) b) xs) (up_from k r) ≡ xs
  group zero k [] w a = refl
  group zero k (x ∷ xs) w a = absurd (let z = all_head a in omega (arith, z))
  group (suc r) k xs w a =
      let ys = keep (λ x. ltb k (f x)) xs in
      let in_ys : All (λ x. (suc k ≤ f x) × (f x < suc k + r)) ys = all-mem (λ x. (suc k ≤ f x) × (f x < suc k + r)) ys λ x hx.
      let u = ltb-true k (f x) (all_of (keep_all (λ x. ltb k (f x)) xs) hx) in
      let v = all_of (keep_imp (λ x. ltb k (f x)) xs a) hx in
      (omega (arith, u), omega (arith, v)) in
      ap (λ zs. keep (λ x. eqb (f x) k) xs ++ zs)
      (joined_cong (λ b. keep (λ x. eqb (f x) b) xs) (λ b. keep (λ x. eqb (f x) b) ys) (up_from (suc k) r)
      (λ b hb. sym (keep-keep (λ x. ltb k (f x)) (λ x. eqb (f x) b) xs (λ x e m. lt-ltb k (f x) (let z = all_of (up_mem (suc k) r) hb in let q = eqb-true (f x) b e in omega (arith, z)))))
      ∙ group r (suc k) ys (keep-rising (λ x. ltb k (f x)) xs w) in_ys)
      ∙ cut k xs w (all-mem (λ x. k ≤ f x) xs λ x hx. (all_of a hx).0)
