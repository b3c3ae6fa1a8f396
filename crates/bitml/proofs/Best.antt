-- Where a node has an exit, its rank and branch are those that the published rule asks for. Assumes nothing.
use mathlib.Core.Path.{◌≡◌, sym, ap, ◌∙◌, subst}
use Prim.Native.Nat.{ℕ, ◌≤◌, ◌<◌}
use native.Mathlib.Omega.{arith}
use mathlib.Core.List.{map}
use lib.ListN.{length}
use lib.Dec.{ltb}
use borrow.Author.Tests.{lt-ltb}
use Rattle.bitml.specs.Sheet.{Sheet, node_at, branches_at, branch_at, parts}
use Rattle.bitml.specs.Runs.{Exit, own}
use Rattle.bitml.specs.Rule.{cost, candidates, rank_at, row_for}
use Rattle.bitml.specs.Promises.{WellFormed}
use Rattle.bitml.specs.Demands.{Serves, cost_by, Best}
use Rattle.bitml.proofs.Lists.{all_of, all-mem, map-every}
use Rattle.bitml.proofs.Exits.{mine-cost, choose-least, choose-first, choice_is, chosen, ranked_in, in_candidates, exit_ranked, ranked_exit}

module _ (s : Sheet) (wf : WellFormed s) (p n : ℕ) where
  -- A branch that serves costs 1 + the sum
  serves-cost : (b : ℕ) → Serves s p n b → cost s p n (rank_at s p) b ≡ cost_by (rank_at s p) s n b
  unfolding cost
  serves-cost b v =
      mine-cost (own s p n (branch_at s n b)) (map (rank_at s p) (parts (branch_at s n b).action)) v.mine
      (map-every (ltb 0) (rank_at s p) (parts (branch_at s n b).action) (all-mem _ _ λ m hm. lt-ltb _ _ (exit_ranked s wf p m (all_of v.exits hm))))

  pub rank-is_best : Exit s p n → Best s p (rank_at s p) (row_for s p n)
  unfolding row_for
  rank-is_best x =
      let h = exit_ranked s wf p n x in
      let c = chosen s wf p n h in
      let F = cost s p n (rank_at s p) in
      let e = choice_is s wf p n (ranked_in s wf p n h) in
      let least : (b : ℕ) → Serves s p n b → rank_at s p n ≤ cost_by (rank_at s p) s n b = λ b v.
      let k = serves-cost b v in
      let w = choose-least F (candidates (node_at s n)) (in_candidates s wf p n b v.there) (omega (arith, k)) in
      omega (arith, w.1, k, ap (λ q. q.rank) e) in
      record {
        serves = record { there = c.there; mine = c.mine; exits = all-mem _ _ λ m hm. ranked_exit s wf p m (all_of c.served hm) };
        rank = c.rank;
        least = least;
        lowest = λ b v hb.
            let ne = choose-first F 0 (length (branches_at s n)) b (subst (λ q. 0 < q.rank) e h) (omega arith) (subst (λ q. b < q.branch) e hb) in
            let k = serves-cost b v in
            let d : rank_at s p n ≡ cost_by (rank_at s p) s n b → ⊥ = λ z. ne (k ∙ sym z ∙ ap (λ q. q.rank) e) in
            let le = least b v in omega arith;
      }
