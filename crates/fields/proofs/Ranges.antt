-- What is known of a field that was read: its number's range, and where it ends.
use Prim.Native.Nat.{ℕ, ◌+◌, ◌<◌, ◌≤◌}
use mathlib.Core.Bool.{Bool, true, false, cond}
use mathlib.Core.List.{List}
use mathlib.Core.Path.{◌≡◌, refl}
use native.Mathlib.Omega.{arith}
use lib.Dec.{ltb, eqb}
use lib.ListN.{length, get_or, drop}
use borrow.Author.Tests.{ltb-true, ltb-false}
use Rattle.fields.proofs.Laws.{end-within, number-max, number-end}
use Rattle.fields.specs.Field.{lf, field_len, when_read, any_number, number_at, below_at, between_at, word_from, end_at, first_at, line_end_at}
use Rattle.fields.specs.Field.{Got}
use Rattle.fields.specs.Field.{Value, Bad}

-- what holds of a refusal, and of what follows a field, holds of both
pub when_read-cases : {A : Type 0} (Q : A → Type 0) (bad : ℕ → ℕ → A) (g : Got) (go : ℕ → ℕ → A)
    → ((n p : ℕ) → Q (bad n p)) → ((v e : ℕ) → g ≡ Value v e → Q (go v e)) → Q (when_read bad g go)
unfolding when_read
when_read-cases Q bad (Value v e) go h k = k v e refl
when_read-cases Q bad (Bad n p) go h k = h n p

pub cond_cases : {A : Type 0} (Q : A → Type 0) (b : Bool) (x y : A) → (b ≡ true → Q x) → (b ≡ false → Q y) → Q (cond b x y)
cond_cases Q true x y h k = h refl
cond_cases Q false x y h k = k refl

pub never : {Q : Type 0} (n p v e : ℕ) → Bad n p ≡ Value v e → Q
never n p v e h = let z : ◌≡◌ {A = ℕ} 0 1 = cc in absurd (omega arith)

module _ (s : List ℕ) (at : ℕ) where
  -- the number of one of n is below n
  pub below_end : (n v q : ℕ) → below_at s at n ≡ Value v q → (v < n) × (at + 2 ≤ q) × (q ≤ length s)
  unfolding below_at
  below_end n v q =
      when_read-cases (λ r. r ≡ Value v q → (v < n) × (at + 2 ≤ q) × (q ≤ length s)) Bad (number_at s at any_number) _ (λ m p h. never m p v q h) λ w e g.
      cond_cases (λ r. r ≡ Value v q → (v < n) × (at + 2 ≤ q) × (q ≤ length s)) (ltb w n) (Value w e) (Bad 6 at)
      (λ b h. let i : w ≡ v = cc in let j : e ≡ q = cc in let k = number-end s at any_number w e g in (omega (arith, ltb-true w n b), omega arith, omega arith))
      (λ b h. never 6 at v q h)

  -- a number of a range lies within it
  pub between-end : (low high v q : ℕ) → between_at s at low high ≡ Value v q → (low ≤ v) × (v ≤ high) × (at + 2 ≤ q) × (q ≤ length s)
  unfolding between_at
  between-end low high v q =
      when_read-cases (λ r. r ≡ Value v q → (low ≤ v) × (v ≤ high) × (at + 2 ≤ q) × (q ≤ length s)) Bad (number_at s at high) _ (λ m p h. never m p v q h) λ w e g.
      cond_cases (λ r. r ≡ Value v q → (low ≤ v) × (v ≤ high) × (at + 2 ≤ q) × (q ≤ length s)) (ltb w low) (Bad 4 at) (Value w e)
      (λ b h. never 4 at v q h)
      (λ b h. let i : w ≡ v = cc in let j : e ≡ q = cc in let k = number-end s at high w e g in
      (omega (arith, ltb-false w low b), omega (arith, number-max s at high w e g), omega arith, omega arith))

  -- a line's first field starts within the request
  pub first-end : (w q : ℕ) → first_at s at ≡ Value w q → (at ≤ q) × (q ≤ length s)
  unfolding first_at word_from end_at
  first-end w q =
      cond_cases (λ r. r ≡ Value w q → (at ≤ q) × (q ≤ length s)) (ltb at (length s)) (word_from s at) (Bad 2 at)
      (λ b h. let j : at + field_len (drop at s) ≡ q = cc in let l = ltb-true at (length s) b in (omega arith, omega (arith, end-within s at (omega arith))))
      (λ b h. never 2 at w q h)

  -- the LF is one byte
  pub line-end-next : (v q : ℕ) → line_end_at s at ≡ Value v q → (q ≡ at + 1) × (q ≤ length s)
  unfolding line_end_at
  line-end-next v q =
      cond_cases (λ r. r ≡ Value v q → (q ≡ at + 1) × (q ≤ length s)) (ltb at (length s)) _ (Bad 2 at)
      (λ b. cond_cases (λ r. r ≡ Value v q → (q ≡ at + 1) × (q ≤ length s)) (eqb (get_or s at 0) lf) (Value 0 (at + 1)) (Bad 9 at)
      (λ c h. let j : at + 1 ≡ q = cc in let l = ltb-true at (length s) b in (omega arith, omega arith))
      (λ c h. never 9 at v q h))
      (λ b h. never 2 at v q h)
