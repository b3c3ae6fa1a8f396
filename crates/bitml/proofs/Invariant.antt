-- What holds of every ledger that a play can reach, where rows are accepted: each live contract has a row, and a set of its own definition. Assumes nothing.
use mathlib.Core.Path.{◌≡◌, refl, sym, ◌∙◌, subst, subst₂}
use Prim.Native.Nat.{ℕ, zero, suc, ◌≤◌, ◌<◌}
use native.Mathlib.Omega.{arith}
use mathlib.Core.Bool.{Bool, true, false, not, false≢true}
use mathlib.Core.Option.{Option}
use mathlib.Core.List.{List, [], ◌∷◌, ◌++◌, map, map-append, Memᴰ}
use lib.ListN.{length, get_or, length-append, length-map, get_or-append}
use lib.Seq.{map-set_same, get_or_at}
use lib.Dec.{eqb}
use borrow.Author.Tests.{eqb-true, ltb-true}
use Rattle.bitml.specs.Lists.{◌or◌, sum, All, nil, cons}
use Rattle.bitml.specs.Sheet.{Sheet, node_at, def_at, branches_at, branch_at, parts}
use Rattle.bitml.specs.Runs.{next, own}
use Rattle.bitml.specs.Rows.{Row, has, rank_of, Holds, InAnyOrder}
use Rattle.bitml.specs.Ledger.{Ledger, Contract, Event, wait, sign, tell, fire, renew, no_contract, no_set, dead, contract_at, the_branch, is_renewal, renewed_as, when_taken, refusal, after, step, play, stipulated}
use Rattle.bitml.specs.Promises.{WellFormed}
use Rattle.bitml.proofs.Lists.{and_l, and_r, ask_test, all_head, all_tail, all-at, all_set, all_append, all_imp, all-mem}
use Rattle.bitml.proofs.Actions.{renewal-is, renewal-next, parts_next, making-all}

-- A node that has a row is served by it
pub record Served (s : Sheet) (p : ℕ) (R : List Row) (n k : ℕ) : Type 0 where
  pub branch : ℕ
  pub closed : (b m : ℕ) → b < length (branches_at s n) → Memᴰ m (next s (branch_at s n b).action) → has R m ≡ true
  pub there : branch < length (branches_at s n)
  pub mine : own s p n (branch_at s n branch) ≡ true
  pub rank : suc (sum (map (rank_of R) (parts (branch_at s n branch).action))) ≤ k

pub row_find : (Q : Row → Type 0) (R : List Row) (n : ℕ) → All Q R → has R n ≡ true → (r : Row) × Q r × (r.node ≡ n) × (rank_of R n ≡ r.rank)
unfolding ◌or◌
row_find Q [] n a h = absurd (false≢true h)
row_find Q (r ∷ R) n a h = go (eqb r.node n) refl (row_find Q R n (all_tail a))
  where
    go : (t : Bool) → eqb r.node n ≡ t → (has R n ≡ true → (r : Row) × Q r × (r.node ≡ n) × (rank_of R n ≡ r.rank))
        → (q : Row) × Q q × (q.node ≡ n) × (rank_of (r ∷ R) n ≡ q.rank)
    go true e f = (r, all_head a, eqb-true r.node n e, rw e)
    go false e f = let w = f (rw e at h) in (w.0, w.1, w.2, rw e w.3)

-- The definitions of a ledger's sets
abbrev pub kinds : Ledger → List ℕ
kinds l = map (λ c. c.definition) l.sets

-- A contract at node n with set i, where the sets are of the definitions ds
pub record Fits (s : Sheet) (R : List Row) (ds : List ℕ) (n i : ℕ) : Type 0 where
  pub row : has R n ≡ true
  pub range : i < length ds
  pub same : get_or ds i 0 ≡ (node_at s n).definition

fits_more : (s : Sheet) (R : List Row) (ds : List ℕ) (d n i : ℕ) → Fits s R ds n i → Fits s R (ds ++ (d ∷ [])) n i
fits_more s R ds d n i f =
    record {
      row = f.row;
      range = omega (arith, length-append ds (d ∷ []), f.range);
      same = get_or-append ds (d ∷ []) 0 i f.range ∙ f.same;
    }

abbrev pub FitsAlive : Sheet → List Row → List ℕ → Contract → Type 0
FitsAlive s R ds k = k.alive ≡ true → Fits s R ds k.node k.set

abbrev pub Inv : Sheet → List Row → Ledger → Type 0
Inv s R l = All (FitsAlive s R (kinds l)) l.contracts

-- Telling keeps the definitions of the sets
kinds-tell : (s : Sheet) (l : Ledger) (i j : ℕ) → kinds (after s l (tell i j)) ≡ kinds l
unfolding after
kinds-tell s l i j = map-set_same (λ c. c.definition) l.sets i _ no_set refl

dead-fits : (s : Sheet) (R : List Row) {ds : List ℕ} (k : Contract) → FitsAlive s R ds (dead k)
dead-fits s R k e = absurd (false≢true e)

pub fit_at : (s : Sheet) (R : List Row) (l : Ledger) (c : ℕ) → Inv s R l → FitsAlive s R (kinds l) (contract_at l c)
fit_at s R l c h = all-at (FitsAlive s R (kinds l)) c no_contract (dead-fits s R no_contract) h

module _ (s : Sheet) (wf : WellFormed s) (p : ℕ) (R : List Row) (ok : InAnyOrder s p R) where
  pub served : (n : ℕ) → has R n ≡ true → Served s p R n (rank_of R n)
  served n h =
      let w = row_find (Holds s p R) R n ok.each h in
      let r = w.0 in
      let v : Served s p R r.node r.rank = record { branch = r.branch; closed = w.1.closed; there = w.1.mine.0; mine = w.1.mine.1; rank = w.1.enough } in
      subst₂ (λ m k. Served s p R m k) w.2 (sym w.3) v

  inv_start : (vs : List (Option ℕ)) → Inv s R (stipulated s vs)
  unfolding stipulated
  inv_start vs =
      let f : Fits s R (0 ∷ []) (def_at s 0).root 0 = record { row = ok.root; range = omega arith; same = sym (wf.root_of 0 wf.some-def) } in
      cons (λ _. f) nil

  parts-fit : (ds : List ℕ) (n i b : ℕ) → Fits s R ds n i → b < length (branches_at s n) → not (is_renewal (branch_at s n b).action) ≡ true
      → All (λ m. Fits s R ds m i) (parts (branch_at s n b).action)
  parts-fit ds n i b f hb na = all-mem (λ m. Fits s R ds m i) _ λ m hm.
      record {
        row = (served n f.row).closed b m hb (subst (Memᴰ m) (sym (parts_next s (branch_at s n b).action na)) hm);
        range = f.range;
        same = f.same ∙ sym (wf.part_of n b m hb hm);
      }

  -- What a renewal of branch b makes fits the sets with its own behind them
  renewal-fits : (ds : List ℕ) (n i b : ℕ) → Fits s R ds n i → b < length (branches_at s n) → is_renewal (branch_at s n b).action ≡ true
      → Fits s R (ds ++ (renewed_as (branch_at s n b).action ∷ [])) (def_at s (renewed_as (branch_at s n b).action)).root (length ds)
  renewal-fits ds n i b f hb re =
      let a = (branch_at s n b).action in
      let d = renewed_as a in
      record {
        row = (served n f.row).closed b (def_at s d).root hb (subst (Memᴰ (def_at s d).root) (sym (renewal-next s a re)) (Memᴰ.head refl));
        range = omega (arith, length-append ds (d ∷ []));
        same = get_or_at ds d [] 0 (length ds) refl ∙ sym (wf.root_of d (wf.renewal_in n b d hb (renewal-is a re)));
      }

  pub inv_after : (l : Ledger) (e : Event) → Inv s R l → refusal s l e ≡ 0 → Inv s R (after s l e)
  unfolding after refusal
  inv_after l (wait d) h z = h
  inv_after l (sign q c b) h z = all_set c _ (fit_at s R l c h) h
  inv_after l (tell i j) h z = subst (λ ds. All (FitsAlive s R ds) l.contracts) (sym (kinds-tell s l i j)) h
  inv_after l (fire c b) h z =
      let t = ask_test _ _ _ z in
      let t₁ = and_l _ _ t in
      let f = fit_at s R l c h (and_l _ _ t₁) in
      all_append (all_set c _ (dead-fits s R (contract_at l c)) h)
      (making-all _ (contract_at l c) (the_branch s l c b).action
      (all_imp (λ m g v e. g) (parts-fit (kinds l) _ _ b f (ltb-true _ _ (and_r _ _ t₁)) (and_r _ _ t))))
  inv_after l (renew c b vs) h z =
      let t = ask_test _ _ _ z in
      let t₁ = and_l _ _ t in
      let d = renewed_as (the_branch s l c b).action in
      let g = renewal-fits (kinds l) _ _ b (fit_at s R l c h (and_l _ _ t₁)) (ltb-true _ _ (and_r _ _ t₁)) (and_r _ _ t) in
      let g' : Fits s R (kinds l ++ (d ∷ [])) (def_at s d).root (length l.sets) = subst (λ i. Fits s R (kinds l ++ (d ∷ [])) (def_at s d).root i) (length-map l.sets (λ k. k.definition)) g in
      subst (λ ds. All (FitsAlive s R ds) (after s l (renew c b vs)).contracts) (sym (map-append (λ k. k.definition) l.sets _))
      (all_append (all_imp (λ k q e. fits_more s R (kinds l) d k.node k.set (q e)) (all_set c _ (dead-fits s R (contract_at l c)) h)) (cons (λ e. g') nil))

  inv_step : (l : Ledger) (e : Event) → Inv s R l → Inv s R (step s l e)
  unfolding step
  inv_step l e h = go (refusal s l e) refl
    where
      go : (r : ℕ) → refusal s l e ≡ r → Inv s R (when_taken r l (after s l e))
      go zero z = inv_after l e h z
      go (suc k) z = h

  inv_from : (l : Ledger) (es : List Event) → Inv s R l → Inv s R (play s l es)
  unfolding play
  inv_from l [] h = h
  inv_from l (e ∷ es) h = inv_from (step s l e) es (inv_step l e h)

  pub inv_play : (vs : List (Option ℕ)) (es : List Event) → Inv s R (play s (stipulated s vs) es)
  inv_play vs es = inv_from (stipulated s vs) es (inv_start vs)
