-- How P leaves one contract: tells, signs, waits and fires. Assumes nothing.
use mathlib.Core.Path.{◌≡◌, refl, sym, ap, ◌∙◌, subst, subst₂}
use Prim.Native.Nat.{ℕ, zero, suc, ◌+◌, ◌≤◌, ◌<◌}
use native.Mathlib.Omega.{arith}
use mathlib.Core.Bool.{Bool, true, false, not, false≢true, cond}
use mathlib.Core.List.{List, [], ◌∷◌, map}
use lib.ListN.{length, set, length-map, get_or-map}
use lib.Seq.{map-set_same, get_or-set_same}
use borrow.Author.Tests.{eqb-true, eq-eqb, lt-ltb, le-leb}
use Rattle.bitml.specs.Lists.{◌⇒◌, sum, every, below}
use Rattle.bitml.specs.Sheet.{Sheet, Action, withdraw, split, reveal, renew_as, node_at, branches_at, branch_at, parts, signs, owns}
use Rattle.bitml.specs.Runs.{only_signer, own_action}
use Rattle.bitml.specs.Rows.{Row, rank_of, InAnyOrder}
use Rattle.bitml.specs.Ledger.{Ledger, Contract, Commitment, ill, kept, told, is_kept, is_told, wait, sign, tell, fire, no_contract, no_set, dead, contract_at, set_at, commitment_at, the_branch, is_renewal, all_signed, revealed, signing, making, refusal, after}
use Rattle.bitml.specs.Promises.{WellFormed}
use Rattle.bitml.specs.Liquidity.{live_rank, Way}
use Rattle.bitml.proofs.Lists.{and_l, and_r, and_i, or_l, cover, imp_i, imp_no_l, imp_no_r, ask_i, every_imp, in_range, sum-append, sum-set}
use Rattle.bitml.proofs.Conditions.{counts-always}
use Rattle.bitml.proofs.Actions.{own-not-renewal, making-rank}
use Rattle.bitml.proofs.Ways.{stay, act, also}
use Rattle.bitml.proofs.Commitments.{well_formed, NumbersHeld, held-tell, told_stays, told-after}
use Rattle.bitml.proofs.Invariant.{Served, Fits, kinds, Inv, fit_at, inv_after}

-- A live contract is one that was made
pub live_made : (l : Ledger) (c : ℕ) → (contract_at l c).alive ≡ true → c < length l.contracts
live_made l c e = in_range (λ k. k.alive) l.contracts c no_contract refl e

module _ (s : Sheet) (wf : WellFormed s) (p : ℕ) (R : List Row) (ok : InAnyOrder s p R) where
  -- Contract c lives at node n with set i; the ranks add up to m
  pub record At (c n i m : ℕ) (l : Ledger) : Type 0 where
    pub alive : (contract_at l c).alive ≡ true
    pub node : (contract_at l c).node ≡ n
    pub set : (contract_at l c).set ≡ i
    pub rank : live_rank R l.contracts ≡ m
    pub inv : Inv s R l
    pub nums : NumbersHeld s p l

  module _ (c n i m : ℕ) where
    its_fit : (l : Ledger) → At c n i m l → Fits s R (kinds l) n i
    its_fit l a = subst₂ (λ n i. Fits s R (kinds l) n i) a.node a.set (fit_at s R l c a.inv a.alive)

    its_set : (l : Ledger) → At c n i m l → (set_at l i).definition ≡ (node_at s n).definition
    its_set l a = sym (get_or-map (λ k. k.definition) l.sets i no_set) ∙ (its_fit l a).same

    its_number : (j : ℕ) (l : Ledger) → At c n i m l → owns s p (node_at s n).definition j ≡ true → well_formed (commitment_at l i j) ≡ true
    its_number j l a o = a.nums i j (rw length-map at (its_fit l a).range) (rw (its_set l a) o)

    -- ---- telling: after p told the secrets js, which are p's

    abbrev Told : List ℕ → Ledger → Type 0
    Told js l = At c n i m l × (every (λ j. is_told (commitment_at l i j)) js ≡ true)

    tell-one : (js : List ℕ) (j : ℕ) (l : Ledger) → Told js l → owns s p (node_at s n).definition j ≡ true → Way s p l (Told (j ∷ js)) 0
    unfolding after refusal
    tell-one js j l (a, h) o = go (commitment_at l i j) refl
      where
        go : (k : Commitment) → commitment_at l i j ≡ k → Way s p l (Told (j ∷ js)) 0
        go ill e = absurd (false≢true (rw e at (its_number j l a o)))
        go (kept v) e =
            let k : is_kept (commitment_at l i j) ≡ true = rw e in
            act (tell i j) (rw (its_set l a) o) (ask_i _ _ _ k refl) (
              record {
                alive = a.alive;
                node = a.node;
                set = a.set;
                rank = a.rank;
                inv = inv_after s wf p R ok l (tell i j) a.inv (ask_i _ _ _ k refl);
                nums = held-tell s p l i j a.nums;
              },
              and_i _ _ (told-after s l i j k) (every_imp _ _ (λ j' h'. told_stays s l i j' i j h') js h),
            )
        go (told v) e = stay (a, and_i _ _ (rw e) h)

    tell-all : (js : List ℕ) (l : Ledger) → At c n i m l → every (owns s p (node_at s n).definition) js ≡ true → Way s p l (Told js) 0
    tell-all [] l a o = stay (a, refl)
    tell-all (j ∷ js) l a o = also (tell-all js l a (and_r _ _ o)) (λ l' q. tell-one js j l' q (and_l _ _ o))

    abbrev Revealed : Action → Ledger → Type 0
    Revealed a l = At c n i m l × (revealed (commitment_at l i) a ≡ true)

    reveal-all : (a : Action) → own_action s p (node_at s n).definition a ≡ true → (l : Ledger) → At c n i m l → Way s p l (Revealed a) 0
    reveal-all (withdraw r) o l q = stay (q, refl)
    reveal-all (split qs) o l q = stay (q, refl)
    reveal-all (reveal js d k) o l q = also (tell-all js l q (and_l _ _ o)) (λ l' q'. stay (q'.0, and_i _ _ q'.1 (((counts-always d).0 (and_r _ _ o)).1 _)))
    reveal-all (renew_as d) o l q = stay (q, refl)

    -- ---- by a branch that none but p signs, that is no renewal and asks for nothing that is not revealed
    module _ (b : ℕ) (hb : b < length (branches_at s n)) (only : only_signer s p (branch_at s n b) ≡ true)
        (na : not (is_renewal (branch_at s n b).action) ≡ true) (low : suc (sum (map (rank_of R) (parts (branch_at s n b).action))) ≤ rank_of R n) where
      abbrev Signed : Ledger → Type 0
      Signed l = Revealed (branch_at s n b).action l × (all_signed s (branch_at s n b) ((contract_at l c).signed b) ≡ true)

      abbrev Open : Ledger → Type 0
      Open l = Signed l × ((branch_at s n b).opens ≤ l.time)

      abbrev Left : Ledger → Type 0
      Left l = Inv s R l × NumbersHeld s p l × (suc (live_rank R l.contracts) ≤ m)

      sign_it : (l : Ledger) → Revealed (branch_at s n b).action l → Way s p l Signed 0
      unfolding after refusal
      sign_it l (a, r) = go (signs (branch_at s n b) p ⇒ (contract_at l c).signed b p) refl
        where
          same : contract_at (after s l (sign p c b)) c ≡ signing (contract_at l c) b p
          same = get_or-set_same l.contracts c (signing (contract_at l c) b p) no_contract (live_made l c a.alive)

          go : (t : Bool) → (signs (branch_at s n b) p ⇒ (contract_at l c).signed b p) ≡ t → Way s p l Signed 0
          go true e =
              stay ((a, r), every_imp _ _ (λ q h. cover _ _ _ h (λ d. subst (λ r. (signs (branch_at s n b) r ⇒ (contract_at l c).signed b r) ≡ true) (sym (eqb-true q p d)) e)) (below s.participants) only)
          go false e =
              let z : refusal s l (sign p c b) ≡ 0 =
              ask_i _ _ _ (and_i _ _ a.alive (rw a.node (lt-ltb b _ hb)))
              (ask_i _ _ _ (rw a.node (and_i _ _ (imp_no_l _ _ e) (imp_no_r _ _ e))) refl) in
              act (sign p c b) (eq-eqb p p refl) z (
                (
                  record {
                    alive = rw same a.alive;
                    node = rw same a.node;
                    set = rw same a.set;
                    rank = ap sum (map-set_same _ l.contracts c _ no_contract refl) ∙ a.rank;
                    inv = inv_after s wf p R ok l (sign p c b) a.inv z;
                    nums = a.nums;
                  },
                  r,
                ),
                rw same (every_imp _ _ (λ q h. cover _ _ _ h (λ d. imp_i _ _ (or_l _ _ (and_i _ _ (eq-eqb b b refl) d)))) (below s.participants) only),
              )

      -- "Time never blocks, since P may wait": by one at a time, so that no range is asked of opening times
      wait_for : (k : ℕ) (l : Ledger) → Signed l → (branch_at s n b).opens ≤ l.time + k → Way s p l Open 0
      unfolding after refusal
      wait_for zero l q h = stay (q, omega arith)
      wait_for (suc k) l q h =
          let a = q.0.0 in
          also {Q = λ l'. Signed l' × ((branch_at s n b).opens ≤ l'.time + k)}
          (act (wait 1) refl (ask_i _ _ _ (and_i _ _ refl refl) refl)
          (((record { alive = a.alive; node = a.node; set = a.set; rank = a.rank; inv = a.inv; nums = a.nums }, q.0.1), q.1), omega arith))
          (λ l' q'. wait_for k l' q'.0 q'.1)

      fire_it : (l : Ledger) → Open l → Way s p l Left 1
      unfolding after refusal
      fire_it l q = act (fire c b) refl z (inv_after s wf p R ok l (fire c b) a.inv z, a.nums, lower)
        where
          a : At c n i m l
          a = q.0.0.0

          z : refusal s l (fire c b) ≡ 0
          z = ask_i _ _ _ (and_i _ _ (and_i _ _ a.alive (rw a.node (lt-ltb b _ hb))) (rw a.node na))
              (ask_i _ _ _ (rw a.node (le-leb _ _ q.1))
              (ask_i _ _ _ (rw a.node q.0.1)
              (ask_i _ _ _ (rw (a.node, a.set) q.0.0.1) refl)))

          lower : suc (live_rank R (after s l (fire c b)).contracts) ≤ m
          lower =
              let f : Contract → ℕ = λ k. cond k.alive (rank_of R k.node) 0 in
              let hc = live_made l c a.alive in
              let h₁ = sum-append f (set l.contracts c (dead (contract_at l c))) (making (contract_at l c) (the_branch s l c b).action) in
              let h₂ = sum-set f l.contracts c (dead (contract_at l c)) no_contract hc in
              let h₃ : f (contract_at l c) ≡ rank_of R n = rw (a.alive, a.node) in
              let h₄ : live_rank R (making (contract_at l c) (the_branch s l c b).action) ≡ sum (map (rank_of R) (parts (branch_at s n b).action)) =
              making-rank R (contract_at l c) (the_branch s l c b).action ∙ rw a.node in
              omega (arith, a.rank, low)

      leave_by : (l : Ledger) → Revealed (branch_at s n b).action l → Way s p l Left 1
      leave_by l q = also (sign_it l q) λ l₁ q₁. also (wait_for (branch_at s n b).opens l₁ q₁ (omega arith)) fire_it

    pub leave-one : Served s p R n (rank_of R n) → (l : Ledger) → At c n i m l → Way s p l (λ l. Inv s R l × NumbersHeld s p l × (suc (live_rank R l.contracts) ≤ m)) 1
    leave-one w l a =
        let action = (branch_at s n w.branch).action in
        also (reveal-all action (and_r _ _ w.mine) l a)
        (leave_by w.branch w.there (and_l _ _ w.mine) (own-not-renewal s p (node_at s n).definition action (and_r _ _ w.mine)) w.rank)
