-- The published rule asks for one list of rows by rising node, and `make` gives it. Assumes nothing.
use mathlib.Core.Path.{◌≡◌, refl, sym, ap, ap₂, ◌∙◌, subst}
use mathlib.Core.Logic.{◌↔◌, ⊎_elim, by_cases}
use Prim.Native.Nat.{ℕ, zero, suc, ◌+◌, ◌≤◌, ◌<◌}
use native.Mathlib.Omega.{arith}
use native.Mathlib.Decide.{dec_le}
use mathlib.Core.Bool.{Bool, true, false, false≢true}
use mathlib.Core.List.{List, [], Memᴰ, Permᴰ}
use lib.ListN.{length}
use lib.Dec.{eqb}
use borrow.Author.Tests.{eq-eqb}
use Rattle.bitml.specs.Lists.{sum}
use Rattle.bitml.specs.Sheet.{Sheet, branch_at, parts}
use Rattle.bitml.specs.Runs.{Reached, Exit, leave, Liquid}
use Rattle.bitml.specs.Rows.{Row, rank_of, Distinct, Rising, Accepted}
use Rattle.bitml.specs.Sorting.{sorted}
use Rattle.bitml.specs.Rule.{rows, Verdict, liquid, frozen, make}
use Rattle.bitml.specs.Promises.{WellFormed}
use Rattle.bitml.specs.Demands.{Serves, cost_by, Best, Ruled, Published}
use Rattle.bitml.proofs.Lists.{all_of, all_imp, mem-any, map_cong}
use Rattle.bitml.proofs.Actions.{own-parts}
use Rattle.bitml.proofs.Trees.{exit_is_tree}
use Rattle.bitml.proofs.Reach.{reached-sound, reached_complete, branch-reached, reached_in}
use Rattle.bitml.proofs.Invariant.{row_find}
use Rattle.bitml.proofs.Order.{same_lists}
use Rattle.bitml.proofs.Sorting.{perm-all, perm-distinct, perm-has, perm_ranks, sorted_keeps, sorted_rises}
use Rattle.bitml.proofs.Checked.{check-is-accepted}
use Rattle.bitml.proofs.Published.{make-is, published, rows-published}

abbrev row : ℕ → ℕ → ℕ → Row
row n b k = record { node = n; branch = b; rank = k }

-- ---- one rank and one branch by the rule

module _ (s : Sheet) (wf : WellFormed s) (p : ℕ) where
  -- the contracts of a branch that serves are reached where its node is
  part_reached : (n b m : ℕ) → Serves s p n b → Memᴰ m (parts (branch_at s n b).action) → Reached s n → Reached s m
  part_reached n b m v hm r =
      reached-sound s m (branch-reached s wf n b m v.there (subst (Memᴰ m) (sym (own-parts s p n (branch_at s n b) v.mine)) hm) (reached_complete s wf n r))

  serves_exit : (n b : ℕ) → Serves s p n b → Exit s p n
  serves_exit n b v =
      (exit_is_tree s p n).1 (leave b v.there v.mine λ m hm. (exit_is_tree s p m).0 (all_of v.exits (subst (Memᴰ m) (own-parts s p n (branch_at s n b) v.mine) hm)))

  module _ (R Q : List Row) where
    -- by R and by Q, the branches that serve node n have the same numbers
    abbrev Same : ℕ → Type 0
    Same n = (b : ℕ) → Serves s p n b → cost_by (rank_of R) s n b ≡ cost_by (rank_of Q) s n b

    same_choice : (n b c k l : ℕ) → Best s p (rank_of R) (row n b k) → Best s p (rank_of Q) (row n c l) → Same n → (b ≡ c) × (k ≡ l)
    same_choice n b c k l x y e =
        let kb : k ≡ cost_by (rank_of R) s n b = x.rank in
        let lc : l ≡ cost_by (rank_of Q) s n c = y.rank in
        let eb = e b x.serves in
        let ec = e c y.serves in
        let kc : k ≤ cost_by (rank_of R) s n c = x.least c y.serves in
        let lb : l ≤ cost_by (rank_of Q) s n b = y.least b x.serves in
        let same : k ≡ l = omega (arith, kb, lc, eb, ec, kc, lb) in
        let not-below : b < c → ⊥ = λ h. let w : l < cost_by (rank_of Q) s n b = y.lowest b x.serves h in omega (arith, kb, eb, w, same) in
        let not-above : c < b → ⊥ = λ h. let w : k < cost_by (rank_of R) s n c = x.lowest c y.serves h in omega (arith, lc, ec, w, same) in
        (by_cases (dec_le b c) (λ h. by_cases (dec_le c b) (λ i. omega arith) (λ i. absurd (not-below (omega arith)))) (λ h. absurd (not-above (omega arith))), same)

    -- rows of one node
    same_row : (r q : Row) → r.node ≡ q.node → Best s p (rank_of R) r → Best s p (rank_of Q) q → Same r.node → r ≡ q
    same_row r q e x y h =
        let y' : Best s p (rank_of Q) (row r.node q.branch q.rank) = subst (λ n. Best s p (rank_of Q) (row n q.branch q.rank)) (sym e) y in
        let w = same_choice r.node r.branch q.branch r.rank q.rank x y' h in
        ap₂ (λ n b. row n b r.rank) e w.0 ∙ ap (row q.node q.branch) w.1

    module _ (f : Ruled s p R) (g : Ruled s p Q) where
      -- by the nodes behind, which have their ranks first
      same_numbers : (n : ℕ) → Reached s n → ((m : ℕ) → n < m → Reached s m → rank_of R m ≡ rank_of Q m) → Same n
      same_numbers n r h b v =
          ap (λ ks. suc (sum ks)) (map_cong _ _ (parts (branch_at s n b).action) λ m hm. h m (wf.part_after n b m v.there hm).0 (part_reached n b m v hm r))

      same_rank : (k n : ℕ) → length s.nodes ≤ n + k → Reached s n → rank_of R n ≡ rank_of Q n
      same_rank zero n h r = absurd (omega (arith, h, reached_in s n (reached_complete s wf n r)))
      same_rank (suc k) n h r =
          let x = row_find (Best s p (rank_of R)) R n f.each ((f.reach n).1 r) in
          let y = row_find (Best s p (rank_of Q)) Q n g.each ((g.reach n).1 r) in
          let e = same_numbers n r λ m hm hr. same_rank k m (omega (arith, h, hm)) hr in
          let z = same_row x.0 y.0 (x.2 ∙ sym y.2) x.1 y.1 (subst (λ m. Same m) (sym x.2) e) in
          x.3 ∙ ap (λ (q : Row). q.rank) z ∙ sym y.3

      ruled-one : Rising 0 R → Rising 0 Q → R ≡ Q
      ruled-one u v =
          same_lists 0 0 R Q (record { distinct = f.once; rising = u }) (record { distinct = g.once; rising = v })
          (λ n h. (g.reach n).1 ((f.reach n).0 h)) (λ n h. (f.reach n).1 ((g.reach n).0 h))
          λ r q hr hq e.
          let k : Reached s r.node = (f.reach r.node).0 (mem-any (λ x. eqb x.node r.node) R hr (eq-eqb r.node r.node refl)) in
          same_row r q e (all_of f.each hr) (all_of g.each hq) (same_numbers r.node k λ m hm hr. same_rank (length s.nodes) m (omega arith) hr)

  ruled-liquid : (R : List Row) → Ruled s p R → Liquid s p
  unfolding Liquid
  ruled-liquid R f n r =
      let x = row_find (Best s p (rank_of R)) R n f.each ((f.reach n).1 r) in
      subst (Exit s p) x.2 (serves_exit x.0.node x.0.branch x.1.serves)

  -- ---- and `make` gives it

  pub make-is-published : (R : List Row) → (make s p ≡ liquid R) ↔ Published s p R
  make-is-published R = (there, back)
    where
      rows_in : Verdict → List Row
      rows_in (liquid Q) = Q
      rows_in (frozen n) = []

      is_liquid : Verdict → Bool
      is_liquid (liquid Q) = true
      is_liquid (frozen n) = false

      there : make s p ≡ liquid R → Published s p R
      there e = ⊎_elim
          (λ w. subst (Published s p) (ap rows_in (sym w.0 ∙ e)) (rows-published s p wf w.1))
          (λ w. absurd (false≢true (ap is_liquid (sym w.1 ∙ e))))
          (make-is s p wf)

      back : Published s p R → make s p ≡ liquid R
      back f =
          let l = ruled-liquid R f.ruled in
          let g = rows-published s p wf l in
          (published s p wf l).0 ∙ ap liquid (ruled-one (rows s p) R g.ruled f.ruled g.rising f.rising)

  -- ---- in any order, once sorted

  perm_best : {R S : List Row} → Permᴰ R S → Distinct R → (r : Row) → Best s p (rank_of R) r → Best s p (rank_of S) r
  perm_best {R} {S} d h r x =
      let e : (b : ℕ) → cost_by (rank_of R) s r.node b ≡ cost_by (rank_of S) s r.node b =
      λ b. ap (λ ks. suc (sum ks)) (perm_ranks d h (parts (branch_at s r.node b).action)) in
      record {
        serves = x.serves;
        rank = x.rank ∙ e r.branch;
        least = λ b v. subst (λ k. r.rank ≤ k) (e b) (x.least b v);
        lowest = λ b v l. subst (λ k. r.rank < k) (e b) (x.lowest b v l);
      }

  pub sorted-made : (R : List Row) → Ruled s p R → make s p ≡ liquid (sorted R)
  sorted-made R f =
      let d = sorted_keeps R in
      (make-is-published (sorted R)).1 (record {
        ruled =
            record {
              reach = λ n. (λ h. (f.reach n).0 (perm-has d n ∙ h), λ r. sym (perm-has d n) ∙ (f.reach n).1 r);
              once = perm-distinct d f.once;
              each = perm-all d (all_imp (perm_best d f.once) f.each);
            };
        rising = sorted_rises R;
      })

  -- those are the rows that `make` gives, and `check` takes them
  pub sorted-ruled : (R : List Row) → Ruled s p R → Accepted s p (sorted R)
  sorted-ruled R f =
      let w = published s p wf (ruled-liquid R f) in
      let e : liquid (rows s p) ≡ liquid (sorted R) = sym w.0 ∙ sorted-made R f in
      let r : rows s p ≡ sorted R = cc in
      subst (Accepted s p) r ((check-is-accepted s p (rows s p)).0 w.1)
