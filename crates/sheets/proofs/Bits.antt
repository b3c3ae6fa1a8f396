-- Signers as the bits of a number: none but p signs where the number is 0 or 2 ^ p. Assumes nothing.
use mathlib.Core.Path.{◌≡◌, refl, sym, ap, ◌∙◌}
use mathlib.Core.Logic.{◌⊎◌, inl, inr, ⊎_elim, by_cases}
use Prim.Native.Nat.{ℕ, zero, suc, ◌/◌, ◌%◌, ◌^◌, ◌<◌}
use native.Mathlib.Omega.{arith}
use native.Mathlib.Decide.{dec_le}
use native.Mathlib.Nat.{pow-zero, pow-succ', div-div-eq-div-mul}
use mathlib.Core.Bool.{Bool, true, false, false≢true}
use lib.Dec.{eqb}
use borrow.Author.Tests.{eqb-true, eq-eqb}
use Rattle.bitml.specs.Lists.{◌⇒◌, every, below}
use Rattle.bitml.proofs.Lists.{every_by_mem, every-mem, mem_up}

abbrev pub bit : ℕ → ℕ → ℕ
bit x q = x / 2 ^ q % 2

pub bit_suc : (x q : ℕ) → bit x (suc q) ≡ bit (x / 2) q
bit_suc x q = ap (λ y. y % 2) (rw pow-succ' (sym (div-div-eq-div-mul x 2 (2 ^ q))))

pub bit_zero : (x : ℕ) → bit x 0 ≡ x % 2
bit_zero x = rw pow-zero (omega arith)

pub none-zero : (q : ℕ) → bit 0 q ≡ 0
none-zero zero = refl
none-zero (suc q) = bit_suc 0 q ∙ none-zero q

pow_bit : (q p : ℕ) → bit (2 ^ p) q ≡ 1 → q ≡ p
pow_bit zero zero e = refl
pow_bit zero (suc p) e = absurd (let z = sym (bit_zero (2 ^ suc p)) ∙ e in let w = pow-succ' 2 p in omega arith)
pow_bit (suc q) zero e = absurd (let z : bit 0 q ≡ 1 = sym (bit_suc 1 q) ∙ e in omega (arith, none-zero q))
pow_bit (suc q) (suc p) e =
    let w : 2 ^ suc p / 2 ≡ 2 ^ p = omega (arith, pow-succ' 2 p) in
    ap suc (pow_bit q p (ap (λ y. bit y q) (sym w) ∙ sym (bit_suc (2 ^ suc p) q) ∙ e))

pub two : (x : ℕ) → (x % 2 ≡ 0) ⊎ (x % 2 ≡ 1)
two x = by_cases (dec_le (x % 2) 0) (λ h. inl (omega arith)) (λ h. inr (omega arith))

one_bit : (K p x : ℕ) → x < 2 ^ K → ((q : ℕ) → q < K → bit x q ≡ 1 → q ≡ p) → (x ≡ 0) ⊎ (x ≡ 2 ^ p)
one_bit zero p x h f = inl (let w = pow-zero 2 in omega arith)
one_bit (suc K) zero x h f =
    ⊎_elim (λ y. ⊎_elim (λ r. inl (omega arith)) (λ r. inr (let w = pow-zero 2 in omega arith)) (two x))
    (λ y. absurd (let w = pow-succ' 2 K in omega arith))
    (one_bit K K (x / 2) (let w = pow-succ' 2 K in omega arith) (λ q hq e. absurd (let z = f (suc q) (omega arith) (bit_suc x q ∙ e) in omega arith)))
one_bit (suc K) (suc p) x h f =
    ⊎_elim
    (λ r. ⊎_elim (λ y. inl (omega arith)) (λ y. inr (let w = pow-succ' 2 p in omega arith))
    (one_bit K p (x / 2) (let w = pow-succ' 2 K in omega arith) (λ q hq e. let z = f (suc q) (omega arith) (bit_suc x q ∙ e) in omega arith)))
    (λ r. absurd (let z = f 0 (omega arith) (bit_zero x ∙ r) in omega arith)) (two x)

abbrev only : ℕ → ℕ → ℕ → Bool
only K p x = every (λ q. eqb (x / 2 ^ q % 2) 1 ⇒ eqb q p) (below K)

imp_by : (a b : Bool) → (a ≡ true → b ≡ true) → (a ⇒ b) ≡ true
unfolding ◌⇒◌
imp_by true b f = f refl
imp_by false b f = refl

imp_of : (a b : Bool) → (a ⇒ b) ≡ true → a ≡ true → b ≡ true
unfolding ◌⇒◌
imp_of true b f e = f
imp_of false b f e = absurd (false≢true e)

pub only_none : (K p : ℕ) → only K p 0 ≡ true
only_none K p = every_by_mem _ (below K) λ q hq. imp_by _ _ λ e. absurd (let z = eqb-true (bit 0 q) 1 e in omega (arith, none-zero q))

pub only_mask : (K p : ℕ) → only K p (2 ^ p) ≡ true
only_mask K p = every_by_mem _ (below K) λ q hq. imp_by _ _ λ e. eq-eqb q p (pow_bit q p (eqb-true _ 1 e))

pub only-other : (K p x : ℕ) → x < 2 ^ K → (x ≡ 0 → ⊥) → (x ≡ 2 ^ p → ⊥) → only K p x ≡ false
only-other K p x h f g = go (only K p x) refl
  where
    go : (b : Bool) → only K p x ≡ b → b ≡ false
    go false e = refl
    go true e = absurd (⊎_elim f g (one_bit K p x h (λ q hq a.
        eqb-true q p (imp_of _ _ (every-mem (λ q. eqb (x / 2 ^ q % 2) 1 ⇒ eqb q p) (below K) e (mem_up 0 K q (omega arith) (omega arith))) (eq-eqb _ 1 a)))))
