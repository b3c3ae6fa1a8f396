-- Numbers in the order of a text that nests: where what is below a number ends. Assumes nothing.
use mathlib.Core.Path.{◌≡◌, refl, sym, ap, ap₂, ◌∙◌, subst}
use mathlib.Core.Logic.{by_cases}
use Prim.Native.Nat.{ℕ, zero, suc, ◌+◌, ◌-◌, ◌≤◌, ◌<◌}
use native.Mathlib.Omega.{arith}
use native.Mathlib.Decide.{dec_lt, dec_le}
use mathlib.Core.Bool.{Bool, true, false, cond}
use mathlib.Core.List.{[], ◌∷◌, ◌++◌, append-nil}
use lib.Dec.{eqb, leb}
use borrow.Author.Tests.{eqb-true, eqb-false, eq-eqb, ne_eqb, leb-true, leb-false}
use Rattle.bitml.specs.Lists.{keep, up_from, below}
use Rattle.bitml.proofs.Bound.{Chain}
use Rattle.bitml.proofs.Lists.{all_of, all-mem, up_mem}
use Rattle.bitml.proofs.Counting.{keep_append, keep-none, up_split}

-- the first number from k on that passes, and k + f where none of f numbers does
abbrev first : (ℕ → Bool) → ℕ → ℕ → ℕ
first T k zero = k
first T k (suc f) = cond (T k) k (first T (suc k) f)

module _ (T : ℕ → Bool) where
  first_ge : (k f : ℕ) → k ≤ first T k f
  first_ge k zero = omega arith
  first_ge k (suc f) = go (T k) (first_ge (suc k) f)
    where
      go : (b : Bool) → suc k ≤ first T (suc k) f → k ≤ cond b k (first T (suc k) f)
      go true h = omega arith
      go false h = omega arith

  first-le : (k f : ℕ) → first T k f ≤ k + f
  first-le k zero = omega arith
  first-le k (suc f) = go (T k) (first-le (suc k) f)
    where
      go : (b : Bool) → first T (suc k) f ≤ suc k + f → cond b k (first T (suc k) f) ≤ k + suc f
      go true h = omega arith
      go false h = omega arith

  first_no : (k f j : ℕ) → k ≤ j → j < first T k f → T j ≡ false
  first_no k zero j h l = absurd (omega arith)
  first_no k (suc f) j h l = go (T k) refl (first_no (suc k) f j) l
    where
      go : (b : Bool) → T k ≡ b → (suc k ≤ j → j < first T (suc k) f → T j ≡ false) → j < cond b k (first T (suc k) f) → T j ≡ false
      go true e r l = absurd (omega arith)
      go false e r l = by_cases (dec_le j k) (λ a. let z : j ≡ k = omega arith in rw z e) (λ a. r (omega arith) l)

  first_yes : (k f : ℕ) → first T k f < k + f → T (first T k f) ≡ true
  first_yes k zero l = absurd (omega arith)
  first_yes k (suc f) l = go (T k) refl (first_yes (suc k) f) l
    where
      go : (b : Bool) → T k ≡ b → (first T (suc k) f < suc k + f → T (first T (suc k) f) ≡ true) → cond b k (first T (suc k) f) < k + suc f → T (cond b k (first T (suc k) f)) ≡ true
      go true e r l = e
      go false e r l = r (omega arith)

-- ---- the order

module _ (ov : ℕ → ℕ) (N : ℕ) where
  -- the first node after n that is not below it
  unfoldable pub end_of : ℕ → ℕ
  end_of n = first (λ j. leb (ov j) n) (suc n) (N - suc n)

module _ (ov : ℕ → ℕ) (N : ℕ) (up : (m : ℕ) → m < N → ov m ≤ m) (between : (m n k : ℕ) → m < N → ov m ≡ suc n → n < k → k < m → n < ov k) where
  pub end_after : (n : ℕ) → n < end_of ov N n
  unfolding end_of
  end_after n = omega (arith, first_ge (λ j. leb (ov j) n) (suc n) (N - suc n))

  pub end-le : (n : ℕ) → n < N → end_of ov N n ≤ N
  unfolding end_of
  end-le n h = omega (arith, first-le (λ j. leb (ov j) n) (suc n) (N - suc n))

  end_in : (n j : ℕ) → n < j → j < end_of ov N n → n < ov j
  unfolding end_of
  end_in n j h l = leb-false (ov j) n (first_no (λ j. leb (ov j) n) (suc n) (N - suc n) j h l)

  end-at : (n : ℕ) → n < N → end_of ov N n < N → ov (end_of ov N n) ≤ n
  unfolding end_of
  end-at n h l = leb-true _ n (first_yes (λ j. leb (ov j) n) (suc n) (N - suc n) (omega arith))

  end_is : (k c : ℕ) → k < N → k < c → c ≤ N → ((j : ℕ) → k < j → j < c → k < ov j) → (c < N → ov c ≤ k) → end_of ov N k ≡ c
  end_is k c hk hc hN f g =
      by_cases (dec_lt (end_of ov N k) c)
      (λ l. absurd (omega (arith, f (end_of ov N k) (end_after k) l, end-at k hk (omega arith))))
      (λ l. by_cases (dec_lt c (end_of ov N k))
      (λ l'. absurd (omega (arith, end_in k c hc l', g (omega (arith, end-le k hk)))))
      (λ l'. omega arith))

  module _ (n : ℕ) (hn : n < N) where
    same_end : (k f : ℕ) → suc k + f ≡ end_of ov N n → n < k → ov k ≡ suc n → end_of ov N k ≡ first (λ j. eqb (ov j) (suc n)) (suc k) f
    same_end k f e h q =
        let T : ℕ → Bool = λ j. eqb (ov j) (suc n) in
        let c = first T (suc k) f in
        let ge : suc k ≤ c = first_ge T (suc k) f in
        let le : c ≤ suc k + f = first-le T (suc k) f in
        let eN = end-le n hn in
        end_is k c (omega arith) (omega arith) (omega arith)
        (λ j a b.
        let w : n < ov j = end_in n j (omega arith) (omega arith) in
        let u : ov j ≡ suc n → ⊥ = eqb-false (ov j) (suc n) (first_no T (suc k) f j (omega arith) b) in
        let v : ov j ≤ j = up j (omega arith) in
        by_cases (dec_lt k (ov j)) (λ l. l) (λ l. absurd (
        let p = ov j - 1 in
        let z : p < ov k = between j p k (omega arith) (omega arith) (omega arith) (omega arith) in omega arith)))
        (λ l. by_cases (dec_lt c (suc k + f))
        (λ a. let z = eqb-true (ov c) (suc n) (first_yes T (suc k) f a) in omega arith)
        (λ a. let z : c ≡ end_of ov N n = omega arith in let y = end-at n hn (omega arith) in
        subst (λ i. ov i ≤ k) (sym z) (omega arith)))

    kids_from : (f k : ℕ) → k + f ≡ end_of ov N n → n < k → Chain (end_of ov N) (first (λ j. eqb (ov j) (suc n)) k f) (keep (λ j. eqb (ov j) (suc n)) (up_from k f)) (end_of ov N n)
    kids_from zero k e h = let z : k ≡ end_of ov N n = omega arith in z
    kids_from (suc f) k e h = go (eqb (ov k) (suc n)) refl (kids_from f (suc k) (omega arith) (omega arith))
      where
        go : (b : Bool) → eqb (ov k) (suc n) ≡ b
            → Chain (end_of ov N) (first (λ j. eqb (ov j) (suc n)) (suc k) f) (keep (λ j. eqb (ov j) (suc n)) (up_from (suc k) f)) (end_of ov N n)
            → Chain (end_of ov N) (cond b k (first (λ j. eqb (ov j) (suc n)) (suc k) f)) (cond b (k ∷ keep (λ j. eqb (ov j) (suc n)) (up_from (suc k) f)) (keep (λ j. eqb (ov j) (suc n)) (up_from (suc k) f))) (end_of ov N n)
        go true q c = (refl, subst (λ i. Chain (end_of ov N) i (keep (λ j. eqb (ov j) (suc n)) (up_from (suc k) f)) (end_of ov N n)) (sym (same_end k f (omega arith) h (eqb-true (ov k) (suc n) q))) c)
        go false q c = c

    first_kid : (f : ℕ) → suc n + f ≡ end_of ov N n → first (λ j. eqb (ov j) (suc n)) (suc n) f ≡ suc n
    first_kid zero e = refl
    first_kid (suc f) e =
        let a = end_in n (suc n) (omega arith) (omega arith) in
        let b = up (suc n) (omega (arith, end-le n hn)) in
        let q = eq-eqb (ov (suc n)) (suc n) (omega arith) in rw q

    pub kids_chain : Chain (end_of ov N) (suc n) (keep (λ j. eqb (ov j) (suc n)) (up_from (suc n) (end_of ov N n - suc n))) (end_of ov N n)
    kids_chain =
        let e : suc n + (end_of ov N n - suc n) ≡ end_of ov N n = omega (arith, end_after n) in
        subst (λ i. Chain (end_of ov N) i (keep (λ j. eqb (ov j) (suc n)) (up_from (suc n) (end_of ov N n - suc n))) (end_of ov N n)) (first_kid (end_of ov N n - suc n) e) (kids_from (end_of ov N n - suc n) (suc n) e (omega arith))

    -- there are no others
    pub kids_all : keep (λ j. eqb (ov j) (suc n)) (below N) ≡ keep (λ j. eqb (ov j) (suc n)) (up_from (suc n) (end_of ov N n - suc n))
    kids_all =
        let T : ℕ → Bool = λ j. eqb (ov j) (suc n) in
        let e = end_of ov N n in
        let a₁ = end_after n in
        let a₂ = end-le n hn in
        let z : N ≡ suc n + ((e - suc n) + (N - e)) = omega arith in
        let y : 0 + suc n ≡ suc n = omega arith in
        let v : suc n + (e - suc n) ≡ e = omega arith in
        let low : keep T (up_from 0 (suc n)) ≡ [] = keep-none T (up_from 0 (suc n)) (all-mem (λ j. T j ≡ false) (up_from 0 (suc n)) λ j hj.
        let b = all_of (up_mem 0 (suc n)) hj in ne_eqb (ov j) (suc n) (λ q. omega (arith, b, up j (omega (arith, b))))) in
        let high : keep T (up_from e (N - e)) ≡ [] = keep-none T (up_from e (N - e)) (all-mem (λ j. T j ≡ false) (up_from e (N - e)) λ j hj.
        let b = all_of (up_mem e (N - e)) hj in
        let w = end-at n hn (omega (arith, b)) in
        ne_eqb (ov j) (suc n) (λ q. by_cases (dec_lt e j)
        (λ l. omega (arith, between j n e (omega (arith, b)) q a₁ l))
        (λ l. let i : j ≡ e = omega (arith, b) in let o : ov e ≡ suc n = ap ov (sym i) ∙ q in omega arith))) in
        ap (λ k. keep T (up_from 0 k)) z
        ∙ ap (keep T) (up_split 0 (suc n) ((e - suc n) + (N - e)))
        ∙ keep_append T (up_from 0 (suc n)) (up_from (0 + suc n) ((e - suc n) + (N - e)))
        ∙ ap₂ (λ xs i. xs ++ keep T (up_from i ((e - suc n) + (N - e)))) low y
        ∙ ap (keep T) (up_split (suc n) (e - suc n) (N - e))
        ∙ keep_append T (up_from (suc n) (e - suc n)) (up_from (suc n + (e - suc n)) (N - e))
        ∙ ap (λ i. keep T (up_from (suc n) (e - suc n)) ++ keep T (up_from i (N - e))) v
        ∙ ap (λ xs. keep T (up_from (suc n) (e - suc n)) ++ xs) high
        ∙ append-nil (keep T (up_from (suc n) (e - suc n)))
