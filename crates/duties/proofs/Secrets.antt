-- Secrets of a set: told or not, and values as they are handed over. Assumes nothing.
use Prim.Native.Nat.{ℕ, zero, suc, ◌+◌, ◌-◌, ◌≤◌, ◌<◌}
use mathlib.Core.Bool.{Bool, false}
use lib.Dec.{leb}
use mathlib.Core.Path.{◌≡◌, sym, ap, ◌∙◌, subst}
use mathlib.Core.List.{List, [], ◌∷◌}
use native.Mathlib.Omega.{arith}
use lib.ListN.{length, get_or, take, drop, length-drop, get_or-eq_default}
use lib.Seq.{length-take-le, get_or-take, get_or-drop}
use borrow.Author.Tests.{lt-ltb, le-ltb}
use Rattle.bitml.specs.Sheet.{Cond, holds}
use Rattle.bitml.proofs.Lists.{and_false, and_true}
use Rattle.truth.specs.Evaluation.{Values, numbers}
use Rattle.duties.specs.Duties.{told_at, number_at}

module _ (state : List ℕ) (base known j : ℕ) where
  pub told_past : known ≤ j → told_at state base known j ≡ false
  unfolding told_at
  told_past h = and_false _ _ (le-ltb j known h)

  pub told_known : j < known → told_at state base known j ≡ leb 2 (get_or state (base + j) 0)
  unfolding told_at
  told_known h = and_true _ _ (lt-ltb j known h)

module _ (value : List ℕ) (base known : ℕ) where
  pub number_in : (j : ℕ) → j < known → number_at value base known j ≡ get_or value (base + j) 0
  number_in j h = get_or-take known (drop base value) j 0 h ∙ get_or-drop base value j 0

  pub number_past : (j : ℕ) → known ≤ j → base + known ≤ length value → number_at value base known j ≡ 0
  number_past j h k =
      let e : length (take known (drop base value)) ≡ known = length-take-le known (drop base value) (rw length-drop (omega arith)) in
      get_or-eq_default (take known (drop base value)) 0 {n = j} (omega arith)

-- a part of the ledger's numbers is lent
take-most : (n M : ℕ) (xs : List ℕ) → ((j : ℕ) → get_or xs j 0 ≤ M) → (j : ℕ) → get_or (take n xs) j 0 ≤ M
take-most zero M xs f j = omega arith
take-most (suc n) M [] f j = omega arith
take-most (suc n) M (x ∷ xs) f zero = f 0
take-most (suc n) M (x ∷ xs) f (suc j) = take-most n M xs (λ i. f (suc i)) j

pub lent-values : (value : List ℕ) (base n : ℕ) → Values value → Values (take n (drop base value))
lent-values value base n v = record { most = take-most n 1000000000 (drop base value) (λ j. subst (λ y. y ≤ 1000000000) (sym (get_or-drop base value j 0)) (v.most (base + j))) }

pub lent-holds : (value : List ℕ) (base known : ℕ) (C : Cond) {r : Bool} → r ≡ holds (numbers (take (base + known - base) (drop base value))) C → r ≡ holds (number_at value base known) C
lent-holds value base known C e = e ∙ ap (λ n. holds (numbers (take n (drop base value))) C) (let z : base + known - base ≡ known = omega arith in z)
