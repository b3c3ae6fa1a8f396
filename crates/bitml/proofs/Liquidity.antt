-- The first half of demand 3: P leaves one live contract after the other, and the ranks fall. Assumes nothing.
use mathlib.Core.Path.{◌≡◌, refl}
use mathlib.Core.Logic.{◌⊎◌, inl, inr}
use Prim.Native.Nat.{ℕ, zero, suc, ◌≤◌, ◌<◌}
use native.Mathlib.Omega.{arith}
use mathlib.Core.Bool.{true, cond}
use mathlib.Core.List.{List}
use lib.ListN.{length}
use Rattle.bitml.specs.Sheet.{Sheet}
use Rattle.bitml.specs.Rows.{Row, rank_of, InAnyOrder}
use Rattle.bitml.specs.Ledger.{Ledger, Contract, no_contract, dead, contract_at, play, stipulated}
use Rattle.bitml.specs.Promises.{WellFormed}
use Rattle.bitml.specs.Liquidity.{NoneLive, live_rank, Way, Liquidity}
use Rattle.bitml.proofs.Lists.{find, sum-set}
use Rattle.bitml.proofs.Ways.{stay, also, within}
use Rattle.bitml.proofs.Commitments.{NumbersHeld, held_start, held-play}
use Rattle.bitml.proofs.Invariant.{Inv, fit_at, served, inv_play}
use Rattle.bitml.proofs.Leaving.{live_made, leave-one}

module _ (s : Sheet) (wf : WellFormed s) (p : ℕ) (R : List Row) (ok : InAnyOrder s p R) where
  -- A live contract has a rank
  live-rank : (l : Ledger) (c : ℕ) → Inv s R l → (contract_at l c).alive ≡ true → 1 ≤ live_rank R l.contracts
  live-rank l c h e =
      let f : Contract → ℕ = λ k. cond k.alive (rank_of R k.node) 0 in
      let hc = live_made l c e in
      let h₂ = sum-set f l.contracts c (dead (contract_at l c)) no_contract hc in
      let h₃ : f (contract_at l c) ≡ rank_of R (contract_at l c).node = rw e in
      let w = served s wf p R ok (contract_at l c).node (fit_at s R l c h e).row in
      omega (arith, w.rank)

  abbrev SomeLive : Ledger → Type 0
  SomeLive l = (c : ℕ) × (c < length l.contracts) × ((contract_at l c).alive ≡ true)

  empty : (k : ℕ) (l : Ledger) → Inv s R l → NumbersHeld s p l → live_rank R l.contracts ≤ k → Way s p l NoneLive k
  empty zero l h u low = go (find (λ k. k.alive) no_contract l.contracts)
    where
      go : NoneLive l ⊎ SomeLive l → Way s p l NoneLive 0
      go (inl w) = stay w
      go (inr w) = absurd (omega (arith, live-rank l w.0 h w.2))
  empty (suc k) l h u low = go (find (λ k. k.alive) no_contract l.contracts) (empty k)
    where
      go : NoneLive l ⊎ SomeLive l → ((l : Ledger) → Inv s R l → NumbersHeld s p l → live_rank R l.contracts ≤ k → Way s p l NoneLive k) → Way s p l NoneLive (suc k)
      go (inl w) f = within (omega arith) (stay w)
      go (inr w) f =
          let c = w.0 in
          let r = served s wf p R ok (contract_at l c).node (fit_at s R l c h w.2).row in
          within (omega arith)
          (also (leave-one s wf p R ok c (contract_at l c).node (contract_at l c).set (live_rank R l.contracts) r l
          (record { alive = w.2; node = refl; set = refl; rank = refl; inv = h; nums = u }))
          λ l' q. f l' q.0 q.1 (omega (arith, q.2, low)))

pub liquidity : Liquidity
unfolding Liquidity
liquidity s wf p R ok vs u es us =
    empty s wf p R ok _ (play s (stipulated s vs) es) (inv_play s wf p R ok vs es)
    (held-play s p (stipulated s vs) es us (held_start s p vs u)) (omega arith)
