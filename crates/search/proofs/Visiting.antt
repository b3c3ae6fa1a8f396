-- What a visit leaves, where the number has no mark yet and where it has one. Assumes nothing.
use mathlib.Core.Path.{◌≡◌, refl}
use mathlib.Core.Bool.{Bool, true, false, cond}
use Prim.Native.Nat.{ℕ, ◌+◌}
use mathlib.Core.List.{List}
use lib.ListN.{get_or, set}
use lib.Dec.{eqb}
use borrow.Author.Tests.{eqb-true, eqb-false}

pub by_mark : (P : List ℕ → List ℕ → ℕ → Type 0) (i x : ℕ) {M Q M' Q' : List ℕ} {tail tail' : ℕ} → M' ≡ cond (eqb (get_or M i 0) 0) (set M i x) M → Q' ≡ cond (eqb (get_or M i 0) 0) (set Q tail i) Q
    → tail' ≡ cond (eqb (get_or M i 0) 0) (tail + 1) tail → (get_or M i 0 ≡ 0 → P (set M i x) (set Q tail i) (tail + 1)) → ((get_or M i 0 ≡ 0 → ⊥) → P M Q tail) → P M' Q' tail'
by_mark P i x {M} {Q} {tail = tail} m q t fresh known = rw (m, q, t) (go (eqb (get_or M i 0) 0) refl)
  where
    go : (b : Bool) → eqb (get_or M i 0) 0 ≡ b → P (cond b (set M i x) M) (cond b (set Q tail i) Q) (cond b (tail + 1) tail)
    go true e = fresh (eqb-true _ _ e)
    go false e = known (eqb-false _ _ e)
