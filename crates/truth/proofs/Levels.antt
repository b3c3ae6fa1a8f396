-- Reading an expression or a condition where there are more levels than cells: none runs out. Assumes nothing.
use mathlib.Core.Path.{◌≡◌, refl, ap, ◌∙◌}
use Prim.Native.Nat.{ℕ, zero, suc, ◌≤◌, ◌<◌}
use native.Mathlib.Omega.{arith}
use native.Mathlib.Decide.{dec_le}
use mathlib.Core.Logic.{by_cases}
use mathlib.Core.List.{List}
use lib.ListN.{length, length-drop, get_or, drop, get_or-eq_default}
use Rattle.bitml.specs.Sheet.{Expr, Cond, add, sub, both, neg, equal, less}
use Rattle.tables.specs.SheetOf.{pick_e, read_e, pick_c, read_c}
use Rattle.truth.specs.Evaluation.{expr_in, cond_in}

-- ---- what is left is no more than there was

abbrev Shrinks : {A : Type 0} → (List ℕ → A × List ℕ) → Type 0
Shrinks r = (fs : List ℕ) → length (r fs).1 ≤ length fs

drop_shrinks : (k : ℕ) (fs : List ℕ) → length (drop k fs) ≤ length fs
drop_shrinks k fs = omega (arith, length-drop k fs)

pick_e_shrinks : (r : List ℕ → Expr × List ℕ) → Shrinks r → (c : ℕ) → Shrinks (pick_e r c)
unfolding pick_e
pick_e_shrinks r h zero fs = drop_shrinks 1 fs
pick_e_shrinks r h (suc zero) fs = drop_shrinks 1 fs
pick_e_shrinks r h (suc (suc zero)) fs = omega (arith, h fs, h (r fs).1)
pick_e_shrinks r h (suc (suc (suc c))) fs = omega (arith, h fs, h (r fs).1)

read_e_shrinks : (d : ℕ) → Shrinks (read_e d)
unfolding read_e
read_e_shrinks zero fs = omega arith
read_e_shrinks (suc d) fs = omega (arith, pick_e_shrinks (read_e d) (read_e_shrinks d) (get_or fs 0 0) (drop 1 fs), drop_shrinks 1 fs)

pick_c_shrinks : (r : List ℕ → Cond × List ℕ) (e : List ℕ → Expr × List ℕ) → Shrinks r → Shrinks e → (c : ℕ) → Shrinks (pick_c r e c)
unfolding pick_c
pick_c_shrinks r e h k zero fs = omega arith
pick_c_shrinks r e h k (suc zero) fs = omega (arith, h fs, h (r fs).1)
pick_c_shrinks r e h k (suc (suc zero)) fs = h fs
pick_c_shrinks r e h k (suc (suc (suc zero))) fs = omega (arith, k fs, k (e fs).1)
pick_c_shrinks r e h k (suc (suc (suc (suc c)))) fs = omega (arith, k fs, k (e fs).1)

read_c_shrinks : (d : ℕ) → Shrinks (read_c d)
unfolding read_c
read_c_shrinks zero fs = omega arith
read_c_shrinks (suc d) fs = omega (arith, pick_c_shrinks (read_c d) (read_e d) (read_c_shrinks d) (read_e_shrinks d) (get_or fs 0 0) (drop 1 fs), drop_shrinks 1 fs)

-- ---- readings that agree on what is no longer agree on one field more

abbrev Agree : {A : Type 0} → (List ℕ → A × List ℕ) → (List ℕ → A × List ℕ) → List ℕ → Type 0
Agree r r' fs = (gs : List ℕ) → length gs ≤ length fs → r gs ≡ r' gs

-- two parts, one behind the other
twice : {A B : Type 0} {r r' : List ℕ → A × List ℕ} (f : A → A → B) (fs : List ℕ) → Shrinks r → Agree r r' fs
    → ◌≡◌ {A = B × List ℕ} (f (r fs).0 (r (r fs).1).0, (r (r fs).1).1) (f (r' fs).0 (r' (r' fs).1).0, (r' (r' fs).1).1)
twice {A} {B} {r} {r'} f fs h e =
    ap (λ (y : A × List ℕ). pair (r fs).0 y) (e (r fs).1 (h fs))
    ∙ ap (λ (x : A × List ℕ). pair x.0 (r' x.1)) (e fs (omega arith))
  where
    pair : A → A × List ℕ → B × List ℕ
    pair a y = (f a y.0, y.1)

pick_e_agrees : (r r' : List ℕ → Expr × List ℕ) (c : ℕ) (fs : List ℕ) → Shrinks r → (0 < c → Agree r r' fs) → pick_e r c fs ≡ pick_e r' c fs
unfolding pick_e
pick_e_agrees r r' zero fs h e = refl
pick_e_agrees r r' (suc zero) fs h e = refl
pick_e_agrees r r' (suc (suc zero)) fs h e = twice add fs h (e (omega arith))
pick_e_agrees r r' (suc (suc (suc c))) fs h e = twice sub fs h (e (omega arith))

pick_c_agrees : (r r' : List ℕ → Cond × List ℕ) (s s' : List ℕ → Expr × List ℕ) (c : ℕ) (fs : List ℕ) → Shrinks r → Shrinks s
    → (0 < c → Agree r r' fs) → (0 < c → Agree s s' fs) → pick_c r s c fs ≡ pick_c r' s' c fs
unfolding pick_c
pick_c_agrees r r' s s' zero fs h k e g = refl
pick_c_agrees r r' s s' (suc zero) fs h k e g = twice both fs h (e (omega arith))
pick_c_agrees r r' s s' (suc (suc zero)) fs h k e g = ap (λ x. (neg x.0, x.1)) (e (omega arith) fs (omega arith))
pick_c_agrees r r' s s' (suc (suc (suc zero))) fs h k e g = twice equal fs k (g (omega arith))
pick_c_agrees r r' s s' (suc (suc (suc (suc c)))) fs h k e g = twice less fs k (g (omega arith))

-- a field that is not 0 is there, so fewer are left behind it
fewer : {d : ℕ} (fs : List ℕ) → length fs < suc d → 0 < get_or fs 0 0 → length (drop 1 fs) < d
fewer {d} fs h o = by_cases (dec_le (length fs) 0)
    (λ z. let e : get_or fs 0 0 ≡ 0 = get_or-eq_default fs 0 {n = 0} z in absurd (omega (arith, o, e)))
    (λ z. omega (arith, z, h, length-drop 1 fs))

read_e_agrees : (d e : ℕ) (fs : List ℕ) → length fs < d → length fs < e → read_e d fs ≡ read_e e fs
unfolding read_e
read_e_agrees zero e fs h k = absurd (omega (arith, h))
read_e_agrees (suc d) zero fs h k = absurd (omega (arith, k))
read_e_agrees (suc d) (suc e) fs h k = pick_e_agrees (read_e d) (read_e e) (get_or fs 0 0) (drop 1 fs) (read_e_shrinks d)
    (λ o gs l. read_e_agrees d e gs (omega (arith, l, fewer fs h o)) (omega (arith, l, fewer fs k o)))

read_c_agrees : (d e : ℕ) (fs : List ℕ) → length fs < d → length fs < e → read_c d fs ≡ read_c e fs
unfolding read_c
read_c_agrees zero e fs h k = absurd (omega (arith, h))
read_c_agrees (suc d) zero fs h k = absurd (omega (arith, k))
read_c_agrees (suc d) (suc e) fs h k = pick_c_agrees (read_c d) (read_c e) (read_e d) (read_e e) (get_or fs 0 0) (drop 1 fs) (read_c_shrinks d) (read_e_shrinks d)
    (λ o gs l. read_c_agrees d e gs (omega (arith, l, fewer fs h o)) (omega (arith, l, fewer fs k o)))
    (λ o gs l. read_e_agrees d e gs (omega (arith, l, fewer fs h o)) (omega (arith, l, fewer fs k o)))

-- ---- so what stands at a place follows its parts, by the same reading

module _ (t fs : List ℕ) (h : length fs ≤ length t) where
  pub expr_parts : expr_in t fs ≡ pick_e (expr_in t) (get_or fs 0 0) (drop 1 fs)
  unfolding read_e
  expr_parts = read_e_agrees (suc (length t)) (suc (suc (length t))) fs (omega (arith, h)) (omega (arith, h))

  pub cond-parts : cond_in t fs ≡ pick_c (cond_in t) (expr_in t) (get_or fs 0 0) (drop 1 fs)
  unfolding read_c
  cond-parts = read_c_agrees (suc (length t)) (suc (suc (length t))) fs (omega (arith, h)) (omega (arith, h))
