-- What a run of stores leaves and brings, and the first n of a section. Assumes nothing.
use Prim.Native.Nat.{ℕ, zero, suc, ◌+◌, ◌<◌, ◌≤◌}
use mathlib.Core.Path.{◌≡◌, refl, sym, ap, ◌∙◌, subst}
use mathlib.Core.List.{List, [], ◌∷◌, ◌++◌}
use mathlib.Core.Logic.{by_cases}
use native.Mathlib.Decide.{dec_le}
use native.Mathlib.Nat.{add-zero}
use native.Mathlib.Numerals.{add-one, towards_suc}
use native.Mathlib.Omega.{arith}
use lib.ListN.{length, get_or, set, length-set, length-append, get_or-append, get_or-eq_default}
use lib.Seq.{get_or-set_same, get_or-set_other, sets, get_or_at, ext_get_or}
use Rattle.bitml.proofs.Counting.{at_store}
use Rattle.tables.specs.Entries.{first_of}

-- ---- a run of stores

pub sets-before : (vs t : List ℕ) (i j : ℕ) → j < i → get_or (sets t i vs) j 0 ≡ get_or t j 0
sets-before [] t i j h = refl
sets-before (v ∷ vs) t i j h = sets-before vs (set t i v) (suc i) j (omega arith) ∙ get_or-set_other t i j v 0 (omega arith)

pub sets-after : (vs t : List ℕ) (i j : ℕ) → i + length vs ≤ j → get_or (sets t i vs) j 0 ≡ get_or t j 0
sets-after [] t i j h = refl
sets-after (v ∷ vs) t i j h = sets-after vs (set t i v) (suc i) j (omega arith) ∙ get_or-set_other t i j v 0 (omega arith)

pub sets-at : (vs t : List ℕ) (i k : ℕ) → k < length vs → i + length vs ≤ length t → get_or (sets t i vs) (i + k) 0 ≡ get_or vs k 0
sets-at [] t i k h r = absurd (omega arith)
sets-at (v ∷ vs) t i zero h r = rw add-zero (sets-before vs (set t i v) (suc i) i (omega arith) ∙ get_or-set_same t i v 0 (omega arith))
sets-at (v ∷ vs) t i (suc k) h r =
    let e : i + suc k ≡ suc i + k = omega arith in
    rw e (sets-at vs (set t i v) (suc i) k (omega arith) (simp length-set (omega arith)))

pub at_place : (vs t : List ℕ) (i k j : ℕ) → j ≡ i + k → k < length vs → i + length vs ≤ length t → get_or (sets t i vs) j 0 ≡ get_or vs k 0
at_place vs t i k j e h l = rw e (sets-at vs t i k h l)

-- what straight-line code leaves is such a run
module _ (t : List ℕ) (i : ℕ) where
  pub run_3 : (a b c : ℕ) → set (set (set t i a) (i + 1) b) (i + 2) c ≡ sets t i (a ∷ b ∷ c ∷ [])
  run_3 a b c = simp towards_suc

  pub run_4 : (a b c d : ℕ) → set (set (set (set t i a) (i + 1) b) (i + 2) c) (i + 3) d ≡ sets t i (a ∷ b ∷ c ∷ d ∷ [])
  run_4 a b c d = simp towards_suc

  pub run_8 : (a b c d e f g h : ℕ) → set (set (set (set (set (set (set (set t i a) (i + 1) b) (i + 2) c) (i + 3) d) (i + 4) e) (i + 5) f) (i + 6) g) (i + 7) h ≡ sets t i (a ∷ b ∷ c ∷ d ∷ e ∷ f ∷ g ∷ h ∷ [])
  run_8 a b c d e f g h = simp towards_suc

-- ---- the first n of a section

pub first_of-length : {A : Type 0} (f : ℕ → A) (n : ℕ) → length (first_of f n) ≡ n
unfolding first_of
first_of-length f zero = refl
first_of-length f (suc n) = rw length-append (omega (arith, first_of-length f n))

pub first_of_agree : {A : Type 0} (f g : ℕ → A) (n : ℕ) → ((i : ℕ) → i < n → f i ≡ g i) → first_of f n ≡ first_of g n
unfolding first_of
first_of_agree f g zero h = refl
first_of_agree f g (suc n) h = rw (first_of_agree f g n (λ i l. h i (omega arith)), h n (omega arith))

pub first_of-more : {A : Type 0} (f g : ℕ → A) (n : ℕ) (x : A) → ((i : ℕ) → i < n → f i ≡ g i) → f n ≡ x → first_of f (n + 1) ≡ first_of g n ++ (x ∷ [])
unfolding first_of
first_of-more f g n x h e = rw (add-one n, first_of_agree f g n h, e)

pub first_of_get_d : {A : Type 0} (f : ℕ → A) (n i : ℕ) (d : A) → i < n → get_or (first_of f n) i d ≡ f i
unfolding first_of
first_of_get_d f zero i d h = absurd (omega arith)
first_of_get_d f (suc n) i d h =
    by_cases (dec_le n i)
    (λ l. let e : i ≡ n = omega arith in rw e (get_or_at (first_of f n) (f n) [] d n (first_of-length f n)))
    (λ l. let k : i < length (first_of f n) = rw (first_of-length f n) (omega arith) in
    get_or-append (first_of f n) (f n ∷ []) d i k ∙ first_of_get_d f n i d (omega arith))

pub first_of_past : {A : Type 0} (f : ℕ → A) (n i : ℕ) (d : A) → n ≤ i → get_or (first_of f n) i d ≡ d
first_of_past f n i d h = get_or-eq_default (first_of f n) d {n = i} (rw (first_of-length f n) h)

-- g is f but for a at c
pub first_of-set : {A : Type 0} (f g : ℕ → A) (n c : ℕ) (a d : A) → c < n → g c ≡ a → ((i : ℕ) → i < n → (i ≡ c → ⊥) → g i ≡ f i) → first_of g n ≡ set (first_of f n) c a
first_of-set f g n c a d h e o =
    let lf = first_of-length f n in
    let lg = first_of-length g n in
    ext_get_or d (first_of g n) (set (first_of f n) c a) (rw length-set (lg ∙ sym lf))
    (λ j l. let k : j < n = subst (λ m. j < m) lg l in
    first_of_get_d g n j d k
    ∙ at_store (λ y. g j ≡ y) (first_of f n) c j a d (subst (λ m. c < m) (sym lf) h) (λ ne. o j k ne ∙ sym (first_of_get_d f n j d k)) (λ q. ap g q ∙ e))
