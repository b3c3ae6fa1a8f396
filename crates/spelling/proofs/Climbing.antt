-- Numbers that rise and pass a test are those that a test keeps, where they are as many. Assumes nothing.
use Prim.Native.Nat.{ℕ, zero, suc, ◌+◌, ◌≤◌, ◌<◌}
use mathlib.Core.Path.{◌≡◌, refl, sym, ap, ap₂, ◌∙◌}
use mathlib.Core.Bool.{Bool, true, false, cond, false≢true}
use mathlib.Core.Logic.{by_cases}
use mathlib.Core.List.{List, [], ◌∷◌}
use native.Mathlib.Omega.{arith}
use native.Mathlib.Decide.{dec_le}
use lib.ListN.{length}
use Rattle.bitml.specs.Lists.{keep, up_from}
use Rattle.reading.proofs.Formed.{no_elements}

-- from k on, below n
pub data Climbs (T : ℕ → Bool) : ℕ → ℕ → List ℕ → Type 0 where
  none : {k n : ℕ} → Climbs T k n []
  more : {k n : ℕ} (b : ℕ) {bs : List ℕ} → k ≤ b → b < n → T b ≡ true → Climbs T (suc b) n bs → Climbs T k n (b ∷ bs)

module _ (T : ℕ → Bool) where
  pub climbs_from : {k n : ℕ} {bs : List ℕ} (j : ℕ) → j ≤ k → Climbs T k n bs → Climbs T j n bs
  climbs_from j h none = none
  climbs_from j h (more b l u t c) = more {k = j} b (omega (arith, h, l)) u t c

  kept_more : (k m : ℕ) → length (keep T (up_from (suc k) m)) ≤ length (keep T (up_from k (suc m)))
  kept_more k m = go (T k)
    where
      go : (b : Bool) → length (keep T (up_from (suc k) m)) ≤ length (cond b (k ∷ keep T (up_from (suc k) m)) (keep T (up_from (suc k) m)))
      go true = omega arith
      go false = omega arith

  kept_here : (k m : ℕ) → T k ≡ true → keep T (up_from k (suc m)) ≡ k ∷ keep T (up_from (suc k) m)
  kept_here k m e = rw e

  kept_not : (k m : ℕ) → T k ≡ false → keep T (up_from k (suc m)) ≡ keep T (up_from (suc k) m)
  kept_not k m e = rw e

  -- there are no more of them than are kept
  at_most : (k m n : ℕ) (bs : List ℕ) → n ≡ k + m → Climbs T k n bs → length bs ≤ length (keep T (up_from k m))
  at_most k zero n bs e none = omega arith
  at_most k zero n bs e (more b l u t c) = absurd (omega (arith, l, u, e))
  at_most k (suc m) n bs e none = omega arith
  at_most k (suc m) n bs e (more b {bs = cs} l u t c) = by_cases (dec_le b k)
      (λ h.
      let q : k ≡ b = omega (arith, h, l) in
      let r = at_most (suc k) m n cs (omega (arith, e)) (climbs_from (suc k) (omega (arith, q)) c) in
      let z = ap (λ xs. length xs) (kept_here k m (ap T q ∙ t)) in
      omega (arith, r, z))
      (λ h.
      let r = at_most (suc k) m n (b ∷ cs) (omega (arith, e)) (more {k = suc k} b (omega (arith, h)) u t c) in
      let z = kept_more k m in
      omega (arith, r, z))

  -- and where they are as many, they are those
  pub climbs_are : (k m n : ℕ) (bs : List ℕ) → n ≡ k + m → Climbs T k n bs → length (keep T (up_from k m)) ≡ length bs → keep T (up_from k m) ≡ bs
  climbs_are k zero n bs e none q = refl
  climbs_are k zero n bs e (more b l u t c) q = absurd (omega (arith, l, u, e))
  climbs_are k (suc m) n bs e none q = no_elements _ q
  climbs_are k (suc m) n bs e (more b {bs = cs} l u t c) q = by_cases (dec_le b k)
      (λ h.
      let i : k ≡ b = omega (arith, h, l) in
      let here = kept_here k m (ap T i ∙ t) in
      let z : length (keep T (up_from (suc k) m)) ≡ length cs = let y = ap (λ xs. length xs) here in omega (arith, y, q) in
      here ∙ ap₂ ◌∷◌ i (climbs_are (suc k) m n cs (omega (arith, e)) (climbs_from (suc k) (omega (arith, i)) c) z))
      (λ h. let w : Climbs T (suc k) n (b ∷ cs) = more {k = suc k} b (omega (arith, h)) u t c in beyond (T k) refl w (climbs_are (suc k) m n (b ∷ cs) (omega (arith, e)) w))
    where
      beyond : (x : Bool) → T k ≡ x → Climbs T (suc k) n (b ∷ cs) → (length (keep T (up_from (suc k) m)) ≡ length (b ∷ cs) → keep T (up_from (suc k) m) ≡ b ∷ cs)
          → keep T (up_from k (suc m)) ≡ b ∷ cs
      beyond true y w f =
          let r = at_most (suc k) m n (b ∷ cs) (omega (arith, e)) w in
          let z = ap (λ xs. length xs) (kept_here k m y) in
          absurd (omega (arith, r, z, q))
      beyond false y w f = kept_not k m y ∙ f (sym (ap (λ xs. length xs) (kept_not k m y)) ∙ q)
