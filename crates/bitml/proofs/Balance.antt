-- Balances of live contracts and paid amounts add up to the deposits taken, event by event. Assumes nothing.
use mathlib.Core.Path.{◌≡◌, refl, ap}
use Prim.Native.Nat.{ℕ, zero, suc, ◌+◌, ◌*◌, ◌/◌, ◌-◌, ◌≤◌, ◌<◌}
use native.Mathlib.Omega.{arith}
use native.Mathlib.Nat.{div-mul-le_self, mul-le-mul_right}
use native.Mathlib.Decide.{dec_le}
use mathlib.Core.Logic.{by_cases}
use mathlib.Core.Bool.{true, not, false≢true, cond}
use mathlib.Core.List.{List, [], ◌∷◌, map}
use lib.ListN.{length, get_or, set}
use lib.Seq.{map-set_same}
use borrow.Author.Tests.{ltb-true}
use Rattle.bitml.specs.Lists.{sum}
use Rattle.bitml.specs.Sheet.{Sheet, Part, Action, withdraw, split, reveal, renew_as, branches_at, branch_at, def_at}
use Rattle.bitml.specs.Ledger.{Ledger, Contract, CommitmentSet, Event, wait, sign, tell, fire, renew, contract_at, no_contract, set_at, no_set, the_branch, is_renewal, renewed_as, making, paying, splitting, new_contract, dead, signing, telling, commit, commitment_at, refusal, after}
use Rattle.bitml.specs.Limits.{deposits_taken}
use Rattle.bitml.specs.Balance.{locked}
use Rattle.bitml.proofs.Lists.{and_l, and_r, ask_test, in_range, sum-append, sum-set}

-- the deposits that an event brings, where it is taken
abbrev pub bringing : Sheet → Ledger → Event → ℕ
bringing s l (wait d) = 0
bringing s l (sign p c b) = 0
bringing s l (tell i j) = 0
bringing s l (fire c b) = 0
bringing s l (renew c b vs) = sum (def_at s (renewed_as (the_branch s l c b).action)).deposits

-- who is paid is a participant, and weights don't add to 0
pub record Payable (s : Sheet) : Type 0 where
  pub payee : (n b p : ℕ) → b < length (branches_at s n) → (branch_at s n b).action ≡ withdraw p → p < s.participants
  pub weigh : (n b : ℕ) (qs : List Part) → b < length (branches_at s n) → (branch_at s n b).action ≡ split qs → 0 < sum (map (λ q. q.weight) qs)

-- a share is never more than what is left, and the rest is enough for the other parts
pub share_fits : (v w W left T : ℕ) → 0 < T → v * (w + W) ≤ left * T → (v * w / T ≤ left) × (v * W ≤ (left - v * w / T) * T)
share_fits v w W left T h a =
    let x = v * w / T in
    let hx : x * T ≤ v * w = div-mul-le_self (v * w) T in
    let hl : x ≤ left = by_cases (dec_le x left) (λ k. k) (λ k. absurd (let g : suc left * T ≤ x * T = mul-le-mul_right T (omega arith) in omega arith)) in
    let e : left * T ≡ ((left - x) + x) * T = ap (λ y. y * T) (omega arith) in
    (hl, omega arith)

split-locked : (v T left i : ℕ) (q : Part) (qs : List Part) → 0 < T → v * sum (map (λ q. q.weight) (q ∷ qs)) ≤ left * T → locked (splitting v T left i (q ∷ qs)) ≡ left
split-locked v T left i q [] h a = omega arith
split-locked v T left i q (r ∷ qs) h a =
    let f = share_fits v q.weight (sum (map (λ q. q.weight) (r ∷ qs))) left T h a in
    let ih = split-locked v T (left - v * q.weight / T) i r qs h f.1 in
    omega (arith, f.0)

sum-put : (xs : List ℕ) (i v : ℕ) → i < length xs → sum (set xs i (get_or xs i 0 + v)) ≡ sum xs + v
sum-put [] i v h = absurd (omega arith)
sum-put (x ∷ xs) zero v h = omega arith
sum-put (x ∷ xs) (suc i) v h = let ih = sum-put xs i v (omega arith) in omega arith

pub get_d_sum : (xs : List ℕ) (p : ℕ) → get_or xs p 0 ≤ sum xs
get_d_sum [] p = omega arith
get_d_sum (x ∷ xs) zero = omega arith
get_d_sum (x ∷ xs) (suc p) = let h = get_d_sum xs p in omega arith

making-locked : (k : Contract) (paid : List ℕ) (a : Action) → not (is_renewal a) ≡ true
    → ((p : ℕ) → a ≡ withdraw p → p < length paid) → ((qs : List Part) → a ≡ split qs → 0 < sum (map (λ q. q.weight) qs))
    → locked (making k a) + sum (paying paid k.balance a) ≡ k.balance + sum paid
making-locked k paid (withdraw p) na f g = omega (arith, sum-put paid p k.balance (f p refl))
making-locked k paid (split []) na f g = absurd (let h = g [] refl in omega arith)
making-locked k paid (split (q ∷ qs)) na f g =
    omega (arith, split-locked k.balance (sum (map (λ q. q.weight) (q ∷ qs))) k.balance k.set q qs (g (q ∷ qs) refl) (omega arith))
making-locked k paid (reveal js c n) na f g = omega arith
making-locked k paid (renew_as d) na f g = absurd (false≢true na)

pub dead-locked : (l : Ledger) (c : ℕ) → (contract_at l c).alive ≡ true
    → locked (set l.contracts c (dead (contract_at l c))) + (contract_at l c).balance ≡ locked l.contracts
dead-locked l c e =
    let f : Contract → ℕ = λ k. cond k.alive k.balance 0 in
    let hc : c < length l.contracts = in_range (λ k. k.alive) l.contracts c no_contract refl e in
    let h₂ = sum-set f l.contracts c (dead (contract_at l c)) no_contract hc in
    let h₃ : f (contract_at l c) ≡ (contract_at l c).balance = rw e in
    omega arith

-- no satoshi is astray
module _ (s : Sheet) (pay : Payable s) (l : Ledger) where
  pub kept_after : (e : Event) → length l.paid ≡ s.participants → refusal s l e ≡ 0
      → locked (after s l e).contracts + sum (after s l e).paid ≡ locked l.contracts + sum l.paid + bringing s l e
  unfolding after refusal
  kept_after (wait d) h z = omega arith
  kept_after (sign q c b) h z =
      let e = ap sum (map-set_same (λ k. cond k.alive k.balance 0) l.contracts c (signing (contract_at l c) b q) no_contract refl) in
      omega arith
  kept_after (tell i j) h z = omega arith
  kept_after (fire c b) h z =
      let t = ask_test _ _ _ z in
      let t₁ = and_l _ _ t in
      let k = contract_at l c in
      let a = (the_branch s l c b).action in
      let hb = ltb-true _ _ (and_r _ _ t₁) in
      let m = making-locked k l.paid a (and_r _ _ t) (λ p e. let g = pay.payee k.node b p hb e in omega arith) (λ qs e. pay.weigh k.node b qs hb e) in
      let n = dead-locked l c (and_l _ _ t₁) in
      let u = sum-append (λ k. cond k.alive k.balance 0) (set l.contracts c (dead k)) (making k a) in
      omega arith
  kept_after (renew c b vs) h z =
      let k = contract_at l c in
      let d = def_at s (renewed_as (the_branch s l c b).action) in
      let n = dead-locked l c (and_l _ _ (and_l _ _ (ask_test _ _ _ z))) in
      let u = sum-append (λ k. cond k.alive k.balance 0) (set l.contracts c (dead k)) (new_contract d.root (k.balance + sum d.deposits) (length l.sets) ∷ []) in
      omega arith

-- the deposits taken grow by what an event brings
pub taken-after : (s : Sheet) (l : Ledger) (e : Event) → deposits_taken s (after s l e) ≡ deposits_taken s l + bringing s l e
unfolding after deposits_taken
taken-after s l (wait d) = omega arith
taken-after s l (sign q c b) = omega arith
taken-after s l (tell i j) =
    let new : CommitmentSet = record { definition = (set_at l i).definition; secrets = set (set_at l i).secrets j (telling (commitment_at l i j)) } in
    let e = ap sum (map-set_same (λ k. sum (def_at s k.definition).deposits) l.sets i new no_set refl) in
    omega arith
taken-after s l (fire c b) = omega arith
taken-after s l (renew c b vs) =
    let new : CommitmentSet = record { definition = renewed_as (the_branch s l c b).action; secrets = map commit vs } in
    let u = sum-append (λ k. sum (def_at s k.definition).deposits) l.sets (new ∷ []) in
    omega arith
