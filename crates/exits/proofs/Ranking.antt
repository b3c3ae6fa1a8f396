-- Ranks from the last node to the first. Assumes nothing.
use mathlib.Core.Path.{◌≡◌, sym, ap, ◌∙◌, subst}
use Prim.Native.Nat.{ℕ, suc, ◌-◌, ◌≤◌, ◌<◌}
use native.Mathlib.Omega.{arith}
use mathlib.Core.List.{List, map, Memᴰ}
use lib.ListN.{length, set, length-set}
use Rattle.bitml.specs.Lists.{below}
use Rattle.bitml.specs.Sheet.{parts}
use Rattle.bitml.specs.Runs.{own}
use Rattle.bitml.specs.Rule as rule
use Rattle.bitml.specs.Rule.{cost, cost_of, choose, rank_at, choice_at}
use Rattle.bitml.proofs.Exits.{choice_is, choose_cong}
use Rattle.bitml.proofs.Lists.{all-mem, all_of, map_cong, up_mem}
use Rattle.bitml.proofs.Counting.{at_store}
use Rattle.tables.specs.Entries.{Entries, most_nodes}
use Rattle.tables.specs.SheetOf.{sheet_of, branch_of, branch_count, branch_number}
use Rattle.tables.proofs.SheetOf.{count_of, branch_of_lem, nodes-are}
use Rattle.reading.specs.Promises.{Promises}
use Rattle.reading.proofs.Formed.{contract_in, well_formed_lem, ranks_small}
use Rattle.exits.specs.Costs.{ranks_at, branch_cost, Ranked, chosen_from, Ranks}

module _ (K : ℕ) (E : Entries) (p : ℕ) (ok : Promises K E) (R B : List ℕ) where
  pub ranks_parts : (k : ℕ) → 0 < k → k ≤ length E.nodes → Ranks K E p R B k → (i : ℕ) → i < branch_count E (k - 1) → Ranked R (parts (branch_of E (branch_number E (k - 1) i)).action)
  unfolding Ranked
  ranks_parts k h l r i hi = all-mem _ _ λ m hm.
      let w = contract_in K E ok (k - 1) i m hi hm in
      (omega (arith, ok.limits.nodes, w.1), omega (arith, r.rank m (omega (arith, w.0)) w.1, ranks_small K E ok p m, ok.limits.nodes))

  same-cost : (n : ℕ) → n < length E.nodes → Ranks K E p R B (suc n) → (b : ℕ) → Memᴰ b (below (branch_count E n)) → cost (sheet_of K E) p n (rank_at (sheet_of K E) p) b ≡ branch_cost K E p n (branch_number E n b) R
  unfolding cost branch_cost ranks_at
  same-cost n hn r b hb =
      let l : b < branch_count E n = omega (arith, all_of (up_mem 0 (branch_count E n)) hb) in
      ap (λ br. cost_of (own (sheet_of K E) p n br) (map (rank_at (sheet_of K E) p) (parts br.action))) (branch_of_lem K E n b hn l)
      ∙ ap (cost_of (own (sheet_of K E) p n (branch_of E (branch_number E n b)))) (map_cong _ _ _ λ m hm.
      let w = contract_in K E ok n b m l hm in sym (r.rank m (omega (arith, w.0)) w.1))

  pub ranks_choice : (n : ℕ) → n < length E.nodes → Ranks K E p R B (suc n) → chosen_from K E p n R 0 (branch_count E n) ≡ choice_at (sheet_of K E) p n
  unfolding chosen_from
  ranks_choice n hn r = sym (
      choice_is (sheet_of K E) (well_formed_lem K E ok) p n (omega (arith, nodes-are K E))
      ∙ ap (λ k. choose (cost (sheet_of K E) p n (rank_at (sheet_of K E) p)) (below k)) (count_of K E n hn)
      ∙ choose_cong _ _ (below (branch_count E n)) (same-cost n hn r))

  pub ranks_set : (k : ℕ) (c : rule.Choice) → 0 < k → k ≤ length E.nodes → Ranks K E p R B k → c ≡ chosen_from K E p (k - 1) R 0 (branch_count E (k - 1))
      → Ranks K E p (set R (k - 1) c.rank) (set B (k - 1) c.branch) (k - 1)
  ranks_set k c h l r e =
      let n = k - 1 in
      let s : suc n ≡ k = omega arith in
      let q = e ∙ ranks_choice n (omega arith) (subst (Ranks K E p R B) (sym s) r) in
      record {
        long = length-set R n c.rank ∙ r.long;
        wide = length-set B n c.branch ∙ r.wide;
        rank = λ m a b. at_store (λ x. x ≡ rank_at (sheet_of K E) p m) R n m c.rank 0 (omega (arith, r.long, ok.limits.nodes))
            (λ ne. r.rank m (let f : m ≡ n → ⊥ = ne in omega arith) b) (λ z. ap (λ o. o.rank) q ∙ ap (rank_at (sheet_of K E) p) (sym z));
        branch = λ m a b. at_store (λ x. x ≡ (choice_at (sheet_of K E) p m).branch) B n m c.branch 0 (omega (arith, r.wide, ok.limits.nodes))
            (λ ne. r.branch m (let f : m ≡ n → ⊥ = ne in omega arith) b) (λ z. ap (λ o. o.branch) q ∙ ap (λ j. (choice_at (sheet_of K E) p j).branch) (sym z));
      }

  pub ranks_none : length R ≡ most_nodes → length B ≡ most_nodes → Ranks K E p R B (length E.nodes)
  ranks_none e f = record { long = e; wide = f; rank = λ m a b. absurd (omega arith); branch = λ m a b. absurd (omega arith) }
