-- What a store does to the sections. Assumes nothing.
use Prim.Native.Nat.{ℕ, zero, suc, ◌+◌, ◌-◌, ◌≤◌, ◌<◌}
use mathlib.Core.Bool.{Bool, true, false, cond}
use mathlib.Core.Path.{◌≡◌, refl, sym, ap, ◌∙◌, subst, fun_ext}
use mathlib.Core.List.{List}
use mathlib.Core.Logic.{by_cases}
use native.Mathlib.Decide.{dec_le}
use native.Mathlib.Omega.{arith}
use lib.ListN.{length, get_or, set, take, drop, length-set, length-drop}
use lib.Seq.{get_or-set_same, get_or-set_other, ext_get_or, length-take-le, get_or-take, get_or-drop}
use lib.Dec.{eqb}
use borrow.Author.Tests.{eqb-true, eqb-false}
use Rattle.tables.specs.Entries.{first_of}
use Rattle.tables.proofs.Runs.{first_of-length, first_of_agree, first_of_get_d, first_of-set}
use Rattle.pages.specs.Pages.{size, start, cells_long, Pages, pages_in, put}

-- ---- sections lie one behind the other

behind : (s m : ℕ) → s < m → start s + size s ≤ start m
unfolding start
behind s zero h = absurd (omega arith)
behind s (suc m) h =
    by_cases (dec_le (suc s) m)
    (λ k. let z = behind s m k in omega arith)
    (λ k. let e : s ≡ m = omega arith in subst (λ x. start s + size s ≤ start x + size x) e (omega arith))

apart : (s s' k i : ℕ) → s < s' → k < size s → start s + k < start s' + i
apart s s' k i h l = let z = behind s s' h in omega arith

pub all_sections : (s : ℕ) → s < 10 → start s + size s ≤ cells_long
unfolding start size
all_sections s h = behind s 10 h

-- ---- a section's places

module _ (C : List ℕ) (s : ℕ) where
  pub page_long : length (pages_in C s) ≡ size s
  unfolding pages_in
  page_long = first_of-length (λ i. get_or C (start s + i) 0) (size s)

  pub page_at : (k : ℕ) → k < size s → get_or (pages_in C s) k 0 ≡ get_or C (start s + k) 0
  unfolding pages_in
  page_at k h = first_of_get_d (λ i. get_or C (start s + i) 0) (size s) k 0 h

  -- its first n places as a part that is lent
  module _ (n : ℕ) (few : n ≤ size s) (h : start s + n ≤ length C) where
    pub part_long : length (take n (drop (start s) C)) ≡ n
    part_long = length-take-le n (drop (start s) C) (rw length-drop (omega arith))

    pub page_first : take n (drop (start s) C) ≡ first_of (λ i. get_or (pages_in C s) i 0) n
    page_first =
        ext_get_or 0 (take n (drop (start s) C)) (first_of (λ i. get_or (pages_in C s) i 0) n) (part_long ∙ sym (first_of-length (λ i. get_or (pages_in C s) i 0) n))
        (λ i k. let z : i < n = subst (λ m. i < m) part_long k in
        get_or-take n (drop (start s) C) i 0 z ∙ get_or-drop (start s) C i 0 ∙ sym (page_at i (omega arith)) ∙ sym (first_of_get_d (λ i. get_or (pages_in C s) i 0) n i 0 z))

  -- and all of them
  pub page_part : start s + size s ≤ length C → take (size s) (drop (start s) C) ≡ pages_in C s
  unfolding pages_in
  page_part h = page_first (size s) (omega arith) h ∙ first_of_agree (λ i. get_or (pages_in C s) i 0) (λ i. get_or C (start s + i) 0) (size s) page_at

-- ---- the sections are all that there is

-- a place before section m is one of a section before it
by_section : (m i : ℕ) (Q : Type 0) → i < start m → ((s k : ℕ) → k < size s → i ≡ start s + k → Q) → Q
unfolding start
by_section zero i Q h f = absurd (omega arith)
by_section (suc m) i Q h f = by_cases (dec_le (start m) i) (λ k. f m (i - start m) (omega arith) (omega arith)) (λ k. by_section m i Q (omega arith) f)

-- so cells with the same lists are the same
pub same-cells : (C D : List ℕ) → length C ≡ cells_long → length D ≡ cells_long → pages_in C ≡ pages_in D → C ≡ D
unfolding start size
same-cells C D hc hd e =
    ext_get_or 0 C D (hc ∙ sym hd)
    (λ i h. by_section 10 i (get_or C i 0 ≡ get_or D i 0) (omega arith)
    (λ s k l q. ap (λ j. get_or C j 0) q ∙ sym (page_at C s k l) ∙ ap (λ P. get_or (P s) k 0) e ∙ page_at D s k l ∙ sym (ap (λ j. get_or D j 0) q)))

-- ---- a store

module _ (C : List ℕ) (s k v : ℕ) (h : k < size s) (l : start s + size s ≤ length C) where
  here : pages_in (set C (start s + k) v) s ≡ set (pages_in C s) k v
  unfolding pages_in
  here =
      first_of-set (λ i. get_or C (start s + i) 0) (λ i. get_or (set C (start s + k) v) (start s + i) 0) (size s) k v 0 h (get_or-set_same C (start s + k) v 0 (omega arith))
      (λ i _ ne. get_or-set_other C (start s + k) (start s + i) v 0 (λ e. ne (omega arith)))

  elsewhere : (s' : ℕ) → (s ≡ s' → ⊥) → pages_in (set C (start s + k) v) s' ≡ pages_in C s'
  unfolding pages_in
  elsewhere s' n =
      first_of_agree (λ i. get_or (set C (start s + k) v) (start s' + i) 0) (λ i. get_or C (start s' + i) 0) (size s')
      (λ i q. get_or-set_other C (start s + k) (start s' + i) v 0
      (by_cases (dec_le (suc s) s') (λ x. let z = apart s s' k i x h in λ e. omega arith) (λ x. let z = apart s' s i k (omega arith) q in λ e. omega arith)))

  pub store_is : pages_in (set C (start s + k) v) ≡ put s k v (pages_in C)
  store_is = fun_ext λ s'. go s' (eqb s s') refl
    where
      go : (s' : ℕ) (x : Bool) → eqb s s' ≡ x → pages_in (set C (start s + k) v) s' ≡ cond x (set (pages_in C s') k v) (pages_in C s')
      go s' true e = subst (λ z. pages_in (set C (start s + k) v) z ≡ set (pages_in C z) k v) (eqb-true s s' e) here
      go s' false e = elsewhere s' (eqb-false s s' e)

-- one store after the other
abbrev pub Hold : List ℕ → Pages → Type 0
Hold C P = (cells_long ≤ length C) × (pages_in C ≡ P)

pub then_put : (C : List ℕ) {P : Pages} (s k v : ℕ) → s < 10 → k < size s → Hold C P → Hold (set C (start s + k) v) (put s k v P)
then_put C s k v h q c = (simp length-set c.0, store_is C s k v q (let z = all_sections s h in omega (arith, c.0)) ∙ ap (put s k v) c.1)
