-- The published rows are accepted, and `make` says `liquid` for liquid sheets alone. Assumes nothing.
use mathlib.Core.Path.{◌≡◌, refl, sym, ap, ◌∙◌, subst}
use mathlib.Core.Logic.{◌⊎◌, inl, inr, ⊎_elim, by_cases}
use Prim.Native.Nat.{ℕ, zero, suc, ◌≤◌, ◌<◌}
use native.Mathlib.Omega.{arith}
use native.Mathlib.Decide.{dec_le}
use mathlib.Core.Bool.{Bool, true, false, false≢true, cond}
use mathlib.Core.List.Memᴰ
use mathlib.Core.List.{List, [], ◌∷◌, map, Memᴰ}
use lib.ListN.{length}
use lib.Dec.{eqb}
use borrow.Author.Tests.{eqb-true, eqb-false, eq-eqb}
use Rattle.bitml.specs.Lists.{◌&◌, keep, below, up_from, All}
use Rattle.bitml.specs.Sheet.{Sheet, branches_at, branch_at, parts}
use Rattle.bitml.specs.Runs.{own, Reached, Liquid}
use Rattle.bitml.specs.Rows.{has, rank_of, empty, apart, Holds, end, rise, Accepted, check}
use Rattle.bitml.specs.Rule.{choice_at, rank_at, reached, row_for, rows, stuck, liquid, frozen, verdict, make}
use Rattle.bitml.specs.Promises.{WellFormed}
use Rattle.bitml.specs.Demands.{Frozen, Best, Published}
use Rattle.bitml.proofs.Lists.{and_l, and_r, and_i, all_imp, all_map, all_of, map_cong, any-mem, mem-any, keep_all, mem-keep, mem_up, keep-first}
use Rattle.bitml.proofs.Actions.{own-parts}
use Rattle.bitml.proofs.Exits.{chosen, ranked_exit, exit_ranked}
use Rattle.bitml.proofs.Reach.{reached-sound, reached_complete, branch-reached, reached_in, root-reached}
use Rattle.bitml.proofs.Best.{rank-is_best}
use Rattle.bitml.proofs.Order.{rising_from, rising-all, Ordered}
use Rattle.bitml.proofs.Checked.{check-is-accepted}

module _ (s : Sheet) (p : ℕ) where
  -- ---- rows of numbered nodes

  has-row : (ns : List ℕ) (n : ℕ) → Memᴰ n ns → has (map (row_for s p) ns) n ≡ true
  unfolding row_for
  has-row ns n m = mem-any (λ r. eqb r.node n) (map (row_for s p) ns) (Memᴰ.map (row_for s p) m) (eq-eqb n n refl)

  rank-row : (ns : List ℕ) (n : ℕ) → Memᴰ n ns → rank_of (map (row_for s p) ns) n ≡ rank_at s p n
  unfolding row_for
  rank-row [] n m = absurd (Memᴰ.not-nil m)
  rank-row (k ∷ ns) n m = go (eqb k n) refl (rank-row ns n)
    where
      go : (b : Bool) → eqb k n ≡ b → (Memᴰ n ns → rank_of (map (row_for s p) ns) n ≡ rank_at s p n)
          → cond b (rank_at s p k) (rank_of (map (row_for s p) ns) n) ≡ rank_at s p n
      go true e f = ap (rank_at s p) (eqb-true k n e)
      go false e f = f (⊎_elim (λ q. absurd (eqb-false k n e (sym q))) (λ q. q) (Memᴰ.cases_cons m))

  rows-ordered : (t : ℕ → Bool) (k n : ℕ) → Ordered k (map (row_for s p) (keep t (up_from k n)))
  unfolding row_for
  rows-ordered t k zero = record { distinct = empty; rising = end }
  rows-ordered t k (suc n) = go (t k) (rows-ordered t (suc k) n)
    where
      go : (b : Bool) → Ordered (suc k) (map (row_for s p) (keep t (up_from (suc k) n)))
          → Ordered k (map (row_for s p) (cond b (k ∷ keep t (up_from (suc k) n)) (keep t (up_from (suc k) n))))
      go true u =
          record {
            distinct = apart {r = row_for s p k} (all_imp (λ q h e. let h' : suc k ≤ q.node = h in let e' : k ≡ q.node = e in omega arith) (rising-all u.rising)) u.distinct;
            rising = rise {n = k} {r = row_for s p k} (omega arith) (rising_from {j = k} {k = suc k} (omega arith) u.rising);
          }
      go false u = record { distinct = u.distinct; rising = rising_from {j = k} {k = suc k} (omega arith) u.rising }

  rows_in_order : Ordered 0 (rows s p)
  unfolding rows
  rows_in_order = rows-ordered (reached s) 0 (length s.nodes)

  -- ---- the published rows

  module _ (wf : WellFormed s) where
    abbrev ns : List ℕ
    ns = keep (reached s) (below (length s.nodes))

    listed : (n : ℕ) → reached s n ≡ true → Memᴰ n ns
    listed n e = mem-keep (reached s) (below (length s.nodes)) (mem_up 0 (length s.nodes) n (omega arith) (omega (arith, reached_in s n e))) e

    -- an own branch of a reached node costs by the rows what it costs by the ranks
    parts_ranked : (n b : ℕ) → reached s n ≡ true → b < length (branches_at s n) → own s p n (branch_at s n b) ≡ true
        → map (rank_of (rows s p)) (parts (branch_at s n b).action) ≡ map (rank_at s p) (parts (branch_at s n b).action)
    unfolding rows
    parts_ranked n b e hb mine =
        map_cong _ _ (parts (branch_at s n b).action) λ m hm.
        rank-row ns m (listed m (branch-reached s wf n b m hb (subst (Memᴰ m) (sym (own-parts s p n (branch_at s n b) mine)) hm) e))

    row-holds : (n : ℕ) → reached s n ≡ true → 0 < rank_at s p n → Holds s p (rows s p) (row_for s p n)
    unfolding rows row_for
    row-holds n e h =
        let c = chosen s wf p n h in
        let b = (choice_at s p n).branch in
        let a = (branch_at s n b).action in
        let q : map (rank_of (rows s p)) (parts a) ≡ map (rank_at s p) (parts a) = parts_ranked n b e c.there c.mine in
        record {
          closed = λ b m hb hm. has-row ns m (listed m (branch-reached s wf n b m hb hm e));
          mine = (c.there, c.mine);
          enough = rw q (omega (arith, c.rank));
        }

    rows-accepted : Liquid s p → Accepted s p (rows s p)
    unfolding Liquid rows
    rows-accepted f =
        record {
          asked =
              record {
                distinct = rows_in_order.distinct;
                root = has-row ns _ (listed _ (root-reached s wf));
                each = all_map (row_for s p) (all_imp (λ n e. row-holds n e (exit_ranked s wf p n (f n (reached-sound s n e)))) (keep_all (reached s) (below (length s.nodes))));
              };
          rising = rows_in_order.rising;
        }

    row_best : (n : ℕ) → reached s n ≡ true → Liquid s p → Best s p (rank_of (rows s p)) (row_for s p n)
    unfolding row_for Liquid
    row_best n e f =
        let k = rank-is_best s wf p n (f n (reached-sound s n e)) in
        record {
          serves = k.serves;
          rank = rw (parts_ranked n (choice_at s p n).branch e k.serves.there k.serves.mine) k.rank;
          least = λ b v. rw (parts_ranked n b e v.there v.mine) (k.least b v);
          lowest = λ b v h. rw (parts_ranked n b e v.there v.mine) (k.lowest b v h);
        }

    rows-reached : (n : ℕ) → has (rows s p) n ≡ true → Reached s n
    unfolding rows row_for
    rows-reached n h =
        let w = any-mem (λ r. eqb r.node n) (rows s p) h in
        let a : All (λ r. reached s r.node ≡ true) (rows s p) = all_map (row_for s p) (keep_all (reached s) (below (length s.nodes))) in
        reached-sound s n (subst (λ m. reached s m ≡ true) (eqb-true w.0.node n w.2) (all_of a w.1))

    -- "The published rule"
    pub rows-published : Liquid s p → Published s p (rows s p)
    unfolding rows
    rows-published f =
        record {
          ruled =
              record {
                reach = λ n. (rows-reached n, λ r. has-row ns n (listed n (reached_complete s wf n r)));
                once = rows_in_order.distinct;
                each = all_map (row_for s p) (all_imp (λ n e. row_best n e f) (keep_all (reached s) (below (length s.nodes))));
              };
          rising = rows_in_order.rising;
        }

    -- ---- what the list of stuck nodes says

    unstuck : stuck s p ≡ [] → Liquid s p
    unfolding stuck Liquid
    unstuck e n r = ranked_exit s wf p n (by_cases (dec_le 1 (rank_at s p n)) (λ h. h) (λ h.
        let z : rank_at s p n ≡ 0 = omega arith in
        let k = reached_complete s wf n r in
        absurd (Memᴰ.not-nil (subst (Memᴰ n) e
        (mem-keep (λ n. reached s n & eqb (rank_at s p n) 0) (below (length s.nodes))
        (mem_up 0 (length s.nodes) n (omega arith) (omega (arith, reached_in s n k))) (and_i _ _ k (eq-eqb _ 0 z)))))))

    stuck_at : (n : ℕ) (ms : List ℕ) → stuck s p ≡ n ∷ ms → Frozen s p n
    unfolding stuck
    stuck_at n ms e =
        let w = keep-first (λ n. reached s n & eqb (rank_at s p n) 0) 0 (length s.nodes) n ms e in
        record {
          reach = reached-sound s n (and_l _ _ w.0);
          no_exit = λ x. let h = exit_ranked s wf p n x in let z = eqb-true (rank_at s p n) 0 (and_r _ _ w.0) in omega arith;
          lowest = λ m hm r. ranked_exit s wf p m (by_cases (dec_le 1 (rank_at s p m)) (λ h. h) (λ h.
              let z : rank_at s p m ≡ 0 = omega arith in
              absurd (false≢true (sym (w.1 m (omega arith) hm) ∙ and_i _ _ (reached_complete s wf m r) (eq-eqb _ 0 z)))));
        }

    pub make-is : ((make s p ≡ liquid (rows s p)) × Liquid s p) ⊎ ((n : ℕ) × (make s p ≡ frozen n) × Frozen s p n)
    unfolding make
    make-is = go (stuck s p) refl
      where
        go : (ms : List ℕ) → stuck s p ≡ ms → ((make s p ≡ liquid (rows s p)) × Liquid s p) ⊎ ((n : ℕ) × (make s p ≡ frozen n) × Frozen s p n)
        go [] e = inl (ap (λ ms. verdict ms (rows s p)) e, unstuck e)
        go (n ∷ ms) e = inr (n, ap (λ ms. verdict ms (rows s p)) e, stuck_at n ms e)

    -- The second half of demand 3
    pub published : Liquid s p → (make s p ≡ liquid (rows s p)) × ((check s p (rows s p)).number ≡ 0)
    unfolding Liquid
    published f =
        (⊎_elim (λ w. w.0) (λ w. absurd (w.2.no_exit (f w.0 w.2.reach))) make-is, (check-is-accepted s p (rows s p)).1 (rows-accepted f))
