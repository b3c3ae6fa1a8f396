-- Who signs, by a participant's number; whether all have; what adding a clear bit does. Assumes nothing.
use Prim.Native.Nat.{ℕ, zero, suc, min, ◌+◌, ◌*◌, ◌-◌, ◌/◌, ◌%◌, ◌^◌, ◌≤◌, ◌<◌}
use mathlib.Core.Bool.{Bool, true, false, true≢false, not}
use mathlib.Core.Path.{◌≡◌, refl, sym, ap, ap₂, ◌∙◌}
use mathlib.Core.Logic.{◌⊎◌, inl, inr, ⊎_elim}
use native.Mathlib.Omega.{arith}
use native.Mathlib.Nat.{pow-zero, pow-succ'}
use mir.Syntax.{w64}
use lib.Dec.{eqb}
use lib.Bits.{bit_and}
use lib.Pow.{pow_pos}
use borrow.Author.Tests.{eq-eqb, ne_eqb, le-leb, lt-leb}
use Rattle.std.specs.Int.{bit_not}
use Rattle.std.specs.List.{list_all, range_with_len}
use Rattle.std.proofs.lemmas.Nat.Bits.{and_pow, bit_at_and, bit_at_not, bit_at-zero}
use Rattle.bitml.specs.Lists.{◌⇒◌, ask, below}
use Rattle.bitml.proofs.Lists.{ask_no, ask_yes, every_by_mem, all_of, up_mem}
use Rattle.sheets.proofs.Bits.{bit, bit_suc, bit_zero, two}
use Rattle.sheets.proofs.Chains.{all-in}
use Rattle.tables.specs.Entries.{Entries}
use Rattle.tables.specs.SheetOf.{branch_entry_at}
use Rattle.duties.specs.Duties.{covers, not_yet}

-- ---- who signs

module _ (x p : ℕ) where
  -- what a number has in common with 2 ^ p
  and_bit : {b : ℕ} → bit x p ≡ b → bit_and x (2 ^ p) ≡ b * 2 ^ p
  and_bit e = and_pow x p ∙ ap (λ b. b * 2 ^ p) e

  signs-not : bit x p ≡ 0 → not (eqb (bit_and x (2 ^ p)) 0) ≡ eqb (bit x p) 1
  signs-not e = ap not (eq-eqb _ 0 (let z = and_bit e in let w : bit_and x (2 ^ p) ≡ 0 = omega arith in w)) ∙ sym (ne_eqb (bit x p) 1 (λ q. omega arith))

  signs_too : bit x p ≡ 1 → not (eqb (bit_and x (2 ^ p)) 0) ≡ eqb (bit x p) 1
  signs_too e = ap not (ne_eqb (bit_and x (2 ^ p)) 0 (λ q. let z = and_bit e in let w = pow_pos p in omega arith)) ∙ sym (eq-eqb _ 1 e)

  pub signs-is : {m : ℕ} → m ≡ 2 ^ p → not (eqb (bit_and x m) 0) ≡ eqb (bit x p) 1
  signs-is e = rw e (⊎_elim signs-not signs_too (two (x / 2 ^ p)))

-- ---- all signers signed

both_bits : (a b : ℕ) → (a ≡ 0) ⊎ (a ≡ 1) → (b ≡ 0) ⊎ (b ≡ 1) → not (eqb (min a (1 - b)) 1) ≡ (eqb a 1 ⇒ eqb b 1)
unfolding ◌⇒◌
both_bits a b (inl p) (inl q) = rw (p, q) refl
both_bits a b (inl p) (inr q) = rw (p, q) refl
both_bits a b (inr p) (inl q) = rw (p, q) refl
both_bits a b (inr p) (inr q) = rw (p, q) refl

-- those of x who are not in y
abbrev pub missing : ℕ → ℕ → ℕ
missing x y = bit_and x (18446744073709551615 - y)

missing-bit : (x y i : ℕ) → y < 2 ^ 64 → i < 64 → not (eqb (bit (missing x y) i) 1) ≡ (eqb (bit x i) 1 ⇒ eqb (bit y i) 1)
missing-bit x y i h l =
    ap (λ b. not (eqb b 1)) (bit_at_and x (bit_not w64 y) i ∙ ap (min (bit x i)) (bit_at_not w64 y i h l))
    ∙ both_bits (bit x i) (bit y i) (two (x / 2 ^ i)) (two (y / 2 ^ i))

module _ (K x y : ℕ) (few : K ≤ 16) (h : y < 2 ^ 64) where
  pub covered : list_all (λ p. not (eqb (missing x y / 2 ^ p % 2) 1)) (range_with_len 0 K) ≡ covers K x y
  unfolding covers
  covered = all-in (λ p. not (eqb (missing x y / 2 ^ p % 2) 1)) (λ p. eqb (x / 2 ^ p % 2) 1 ⇒ eqb (y / 2 ^ p % 2) 1) 0 K (λ i a b. missing-bit x y i h (omega arith))

  pub none-missing : missing x y ≡ 0 → eqb (missing x y) 0 ≡ covers K x y
  unfolding covers
  none-missing e = eq-eqb _ _ e ∙ sym (every_by_mem (λ p. eqb (x / 2 ^ p % 2) 1 ⇒ eqb (y / 2 ^ p % 2) 1) (below K) λ p m.
      let l = all_of (up_mem 0 K) m in sym (missing-bit x y p h (omega (arith, l.1))) ∙ ap (λ b. not (eqb b 1)) (ap (λ z. bit z p) e ∙ bit_at-zero p))

-- ---- what holds an entry back

module _ (K : ℕ) (E : Entries) (q time y : ℕ) where
  pub back-time : {o : ℕ} → o ≡ (branch_entry_at E q).opens → time < o → 15 ≡ not_yet K E q time y
  unfolding not_yet
  back-time {o} e h = sym (ask_no _ _ _ (lt-leb (branch_entry_at E q).opens time (omega arith)))

  module _ {o K' x : ℕ} {z : Bool} (eo : o ≡ (branch_entry_at E q).opens) (h : o ≤ time) (eK : K' ≡ K) (ex : x ≡ (branch_entry_at E q).signers) (ez : z ≡ covers K' x y) where
    back-signed : (w : Bool) → z ≡ w → not_yet K E q time y ≡ ask w 16 0
    unfolding not_yet
    back-signed w e =
        ask_yes _ _ _ (le-leb (branch_entry_at E q).opens time (omega arith))
        ∙ ap (λ c. ask c 16 0) (sym (ap₂ (λ K x. covers K x y) eK ex) ∙ sym ez ∙ e)

    pub back_none : z ≡ true → 0 ≡ not_yet K E q time y
    unfolding ask
    back_none e = sym (back-signed true e)

    pub back-sign : z ≡ false → 16 ≡ not_yet K E q time y
    unfolding ask
    back-sign e = sym (back-signed false e)

-- ---- a signature more

-- a clear bit has room
bit_room : (p K m : ℕ) → p < K → m < 2 ^ K → bit m p ≡ 0 → m + 2 ^ p < 2 ^ K
bit_room p zero m h k e = absurd (omega arith)
bit_room zero (suc K) m h k e = let z = sym (bit_zero m) ∙ e in let w = pow-succ' 2 K in let v = pow-zero 2 in omega arith
bit_room (suc p) (suc K) m h k e =
    let w = pow-succ' 2 K in let v = pow-succ' 2 p in
    let ih = bit_room p K (m / 2) (omega arith) (omega arith) (sym (bit_suc m p) ∙ e) in omega arith

pub bit_put : (p m : ℕ) → bit m p ≡ 0 → bit (m + 2 ^ p) p ≡ 1
bit_put zero m e = let z = sym (bit_zero m) ∙ e in let v = pow-zero 2 in bit_zero (m + 2 ^ 0) ∙ omega arith
bit_put (suc p) m e =
    let v = pow-succ' 2 p in
    let w : (m + 2 ^ suc p) / 2 ≡ m / 2 + 2 ^ p = omega arith in
    bit_suc (m + 2 ^ suc p) p ∙ ap (λ y. bit y p) w ∙ bit_put p (m / 2) (sym (bit_suc m p) ∙ e)

pub bit_others : (p q m : ℕ) → bit m p ≡ 0 → (q ≡ p → ⊥) → bit (m + 2 ^ p) q ≡ bit m q
bit_others zero zero m e n = absurd (n refl)
bit_others zero (suc q) m e n =
    let z = sym (bit_zero m) ∙ e in let v = pow-zero 2 in
    let w : (m + 2 ^ 0) / 2 ≡ m / 2 = omega arith in
    bit_suc (m + 2 ^ 0) q ∙ ap (λ y. bit y q) w ∙ sym (bit_suc m q)
bit_others (suc p) zero m e n =
    let v = pow-succ' 2 p in bit_zero (m + 2 ^ suc p) ∙ (let w : (m + 2 ^ suc p) % 2 ≡ m % 2 = omega arith in w) ∙ sym (bit_zero m)
bit_others (suc p) (suc q) m e n =
    let v = pow-succ' 2 p in
    let w : (m + 2 ^ suc p) / 2 ≡ m / 2 + 2 ^ p = omega arith in
    bit_suc (m + 2 ^ suc p) q ∙ ap (λ y. bit y q) w ∙ bit_others p q (m / 2) (sym (bit_suc m p) ∙ e) (λ k. n (ap suc k)) ∙ sym (bit_suc m q)

pub bit_clear : (x p : ℕ) → eqb (bit x p) 1 ≡ false → bit x p ≡ 0
bit_clear x p z = ⊎_elim (λ q. q) (λ q. absurd (true≢false (sym (eq-eqb _ 1 q) ∙ z))) (two (x / 2 ^ p))

pub mask_room : {m : ℕ} (p x : ℕ) → p < 16 → x ≤ 65535 → m ≡ 2 ^ p → eqb (bit x p) 1 ≡ false → x + m ≤ 65535
mask_room p x h k e z = let w = bit_room p 16 x h (omega arith) (bit_clear x p z) in omega arith
