-- What holds of every state that reading ends with: one law for each way that steps are put together. Assumes nothing.
use Prim.Native.Nat.{ℕ, zero, suc, ◌<◌}
use mathlib.Core.Path.{◌≡◌, refl, subst}
use mathlib.Core.Bool.{Bool, true, false}
use native.Mathlib.Omega.{arith}
use Rattle.fields.specs.Field.{Got}
use Rattle.fields.specs.Field as got
use Rattle.tables.specs.State.{State}
use Rattle.steps.specs.Steps.{Outcome, next, bad, to_place, go_on, either, and_then, times}

-- P holds of the state, or reading was refused
pub data Ends (P : State → Type 0) : Outcome → Type 0 where
  good : {a : State} → P a → Ends P (next a)
  refused : {n p : ℕ} → Ends P (bad n p)

unfoldable OnNext : (State → Type 0) → Outcome → Type 0
OnNext P (next a) = P a
OnNext P (bad n p) = Unit {0}

on-next : {P : State → Type 0} {w : Outcome} → Ends P w → OnNext P w
unfolding OnNext
on-next (good h) = h
on-next refused = tt

ends_next : (P : State → Type 0) (a : State) {w : Outcome} → Ends P w → w ≡ next a → P a
unfolding OnNext
ends_next P a h e = subst (OnNext P) e (on-next h)

pub ends-map : {P Q : State → Type 0} {w : Outcome} → Ends Q w → ((a : State) → Q a → P a) → Ends P w
ends-map (good {a} h) f = good (f a h)
ends-map refused f = refused

-- two facts of one outcome
pub ends-both : {P Q : State → Type 0} {w : Outcome} → Ends P w → Ends Q w → Ends (λ a. P a × Q a) w
unfolding OnNext
ends-both (good {a} h) k = good (h, on-next k)
ends-both refused k = refused

module _ {P : State → Type 0} where
  -- what follows a field is told what was read
  pub ends-field : (a : State) (g : Got) (k : ℕ → State → Outcome) → ((v e : ℕ) → g ≡ got.Value v e → Ends P (k v (to_place a e)))
      → Ends P (go_on a g k)
  unfolding go_on
  ends-field a (got.Value v e) k h = h v e refl
  ends-field a (got.Bad n p) k h = refused

  -- any value, any end
  pub ends_go : (a : State) (g : Got) (k : ℕ → State → Outcome) → ((v e : ℕ) → Ends P (k v (to_place a e))) → Ends P (go_on a g k)
  ends_go a g k h = ends-field a g k λ v e _. h v e

  -- each side is told what the test showed
  pub ends_test : (b : Bool) (x y : Outcome) → (b ≡ true → Ends P x) → (b ≡ false → Ends P y) → Ends P (either b x y)
  unfolding either
  ends_test true x y h i = h refl
  ends_test false x y h i = i refl

  pub ends-either : (b : Bool) (x y : Outcome) → Ends P x → Ends P y → Ends P (either b x y)
  ends-either b x y h i = ends_test b x y (λ _. h) (λ _. i)

  pub ends_then : {Q : State → Type 0} (w : Outcome) (k : State → Outcome) → Ends Q w → ((a : State) → Q a → Ends P (k a))
      → Ends P (and_then w k)
  unfolding and_then
  ends_then (next a) k h f = f a (ends_next _ a h refl)
  ends_then (bad n p) k h f = refused

-- P counts how often the step was taken
pub ends-times : (P : ℕ → State → Type 0) (n : ℕ) (f : State → Outcome) (a : State) → P 0 a
    → ((i : ℕ) → i < n → (b : State) → P i b → Ends (P (suc i)) (f b)) → Ends (P n) (times n f a)
unfolding times
ends-times P zero f a h k = good h
ends-times P (suc n) f a h k =
    ends_then (f a) (times n f) (k 0 (omega arith) a h) λ b i.
    ends-times (λ m. P (suc m)) n f b i λ m l. k (suc m) (omega arith)
