-- Laws of conditions: one that names no secret asks for no value, and so what counts as `t` holds of all values. Assumes nothing.
use mathlib.Core.Path.{◌≡◌, refl, ◌∙◌}
use mathlib.Core.Logic.{◌↔◌}
use Prim.Native.Nat.{ℕ}
use mathlib.Core.Bool.{true, false≢true}
use Rattle.bitml.specs.Sheet.{Expr, number, secret, add, sub, Cond, always, both, neg, equal, less, value, holds}
use Rattle.bitml.specs.Runs.{closed_expr, closed, counts_always}
use Rattle.bitml.proofs.Lists.{and_l, and_r, and_i}

closed-value : (v w : ℕ → ℕ) (e : Expr) → closed_expr e ≡ true → value v e ≡ value w e
closed-value v w (number k) h = refl
closed-value v w (secret j) h = absurd (false≢true h)
closed-value v w (add e f) h = rw (closed-value v w e (and_l _ _ h), closed-value v w f (and_r _ _ h))
closed-value v w (sub e f) h = rw (closed-value v w e (and_l _ _ h), closed-value v w f (and_r _ _ h))

closed-holds : (v w : ℕ → ℕ) (c : Cond) → closed c ≡ true → holds v c ≡ holds w c
closed-holds v w always h = refl
closed-holds v w (both c d) h = rw (closed-holds v w c (and_l _ _ h), closed-holds v w d (and_r _ _ h))
closed-holds v w (neg c) h = rw (closed-holds v w c h)
closed-holds v w (equal e f) h = rw (closed-value v w e (and_l _ _ h), closed-value v w f (and_r _ _ h))
closed-holds v w (less e f) h = rw (closed-value v w e (and_l _ _ h), closed-value v w f (and_r _ _ h))

pub counts-always : (c : Cond) → (counts_always c ≡ true) ↔ ((closed c ≡ true) × ((v : ℕ → ℕ) → holds v c ≡ true))
unfolding counts_always
counts-always c = (λ h. (and_l _ _ h, λ v. closed-holds v (λ j. 0) c (and_l _ _ h) ∙ and_r _ _ h), λ h. and_i _ _ h.0 (h.1 (λ j. 0)))
