-- What a branch costs, and which is chosen: a turn of each loop. Assumes nothing.
use mathlib.Core.Path.{◌≡◌, refl, sym, ap, ap₂, ◌∙◌, subst}
use Prim.Native.Nat.{ℕ, suc, ◌+◌, ◌-◌, ◌≤◌, ◌<◌}
use native.Mathlib.Omega.{arith}
use mathlib.Core.Bool.{Bool, true, false, cond}
use mathlib.Core.List.{List, [], ◌∷◌}
use lib.ListN.{length, get_or, drop, drop_of_length-le}
use lib.Dec.{eqb, ltb, leb}
use Rattle.std.specs.Prelude.{None, Some}
use Rattle.std.proofs.lemmas.List.{drop_more}
use borrow.Author.Tests.{eqb-true, eqb-false, lt-ltb, ne_eqb, le-leb, lt-leb}
use Rattle.bitml.specs.Lists.{◌&◌, ◌or◌, sum, every}
use Rattle.bitml.specs.Sheet.{parts}
use Rattle.bitml.specs.Runs.{own}
use Rattle.bitml.specs.Rule as rule
use Rattle.bitml.specs.Rule.{cost_of, better, choose}
use Rattle.bitml.proofs.Lists.{all_head}
use Rattle.tables.specs.Entries.{Entries, most_nodes}
use Rattle.tables.specs.SheetOf.{sheet_of, branch_of, branch_entry_at, branch_numbers, branch_number, branch_count, part_numbers}
use Rattle.tables.proofs.SheetOf.{all_in, parts_none, parts-split, parts-reveal}
use Rattle.owning.proofs.Owning.{own_below}
use Rattle.exits.specs.Costs.{some_rank, ranks_at, served, branch_cost, Ranked, chosen_from}

-- ---- a rank, or none

pub some-is : (k : ℕ) → 0 < k → Some k ≡ some_rank k
some-is k h = rw (ne_eqb k 0 (λ z. omega arith))

pub is-some : (k r : ℕ) → Some r ≡ some_rank k → (k ≡ r) × (0 < r)
is-some k r = go (eqb k 0) refl
  where
    go : (b : Bool) → eqb k 0 ≡ b → Some r ≡ cond b None (Some k) → (k ≡ r) × (0 < r)
    go true q e = absurd (cc)
    go false q e = let z : k ≡ r = cc in (z, omega (arith, eqb-false k 0 q))

pub is-none : (k : ℕ) → None ≡ some_rank k → k ≡ 0
is-none k = go (eqb k 0) refl
  where
    go : (b : Bool) → eqb k 0 ≡ b → None ≡ cond b None (Some k) → k ≡ 0
    go true q e = eqb-true k 0 q
    go false q e = absurd (cc)

-- ---- the ranks of the contracts xs from number i on

module _ (R xs : List ℕ) (i : ℕ) where
  pub ranked_at : Ranked R xs → i < length xs → (get_or xs i 0 < most_nodes) × (get_or R (get_or xs i 0) 0 ≤ most_nodes)
  unfolding Ranked
  ranked_at h l = all_in xs i h l

  module _ (acc : ℕ) where
    pub served-none : i < length xs → get_or R (get_or xs i 0) 0 ≡ 0 → served acc (ranks_at R (drop i xs)) ≡ 0
    unfolding served ranks_at
    served-none h e = ap (λ ms. served acc (ranks_at R ms)) (drop_more xs i 0 h) ∙ rw e

    pub served-some : (k : ℕ) → i < length xs → get_or R (get_or xs i 0) 0 ≡ k → 0 < k → served acc (ranks_at R (drop i xs)) ≡ served (acc + k) (ranks_at R (drop (i + 1) xs))
    unfolding served ranks_at
    served-some k h e z = ap (λ ms. served acc (ranks_at R ms)) (drop_more xs i 0 h) ∙ rw (e, lt-ltb 0 k z)

    pub served-end : length xs ≤ i → served acc (ranks_at R (drop i xs)) ≡ acc
    unfolding served ranks_at
    served-end h = ap (λ ms. served acc (ranks_at R ms)) (drop_of_length-le xs h)

served-is : (acc : ℕ) (ks : List ℕ) → served acc ks ≡ cond (every (ltb 0) ks) (acc + sum ks) 0
unfolding served ◌&◌
served-is acc [] = let z : acc ≡ acc + 0 = omega arith in z
served-is acc (k ∷ ks) = go (ltb 0 k) (served-is (acc + k) ks)
  where
    go : (b : Bool) → served (acc + k) ks ≡ cond (every (ltb 0) ks) (acc + k + sum ks) 0
        → cond b (served (acc + k) ks) 0 ≡ cond (b & every (ltb 0) ks) (acc + (k + sum ks)) 0
    go true e = e ∙ ap (λ x. cond (every (ltb 0) ks) x 0) (let z : acc + k + sum ks ≡ acc + (k + sum ks) = omega arith in z)
    go false e = refl

cost-served : (ks : List ℕ) → cost_of true ks ≡ served 1 ks
unfolding cost_of ◌&◌
cost-served ks = sym (served-is 1 ks ∙ ap (λ x. cond (every (ltb 0) ks) x 0) (let z : 1 + sum ks ≡ suc (sum ks) = omega arith in z))

module _ (K : ℕ) (E : Entries) (p n b : ℕ) (R : List ℕ) where
  pub cost-other : own (sheet_of K E) p n (branch_of E b) ≡ false → branch_cost K E p n b R ≡ 0
  unfolding branch_cost cost_of ◌&◌
  cost-other e = rw e

  module _ (e : true ≡ own (sheet_of K E) p n (branch_of E b)) where
    cost-own : (ms : List ℕ) → parts (branch_of E b).action ≡ ms → branch_cost K E p n b R ≡ served 1 (ranks_at R ms)
    unfolding branch_cost
    cost-own ms q = ap₂ (λ o ms. cost_of o (ranks_at R ms)) (sym e) q ∙ cost-served (ranks_at R ms)

    pub cost-none : 0 ≡ (branch_entry_at E b).kind → branch_cost K E p n b R ≡ 1
    unfolding served ranks_at
    cost-none k = cost-own [] (parts_none E b (sym k))

    pub cost-split : 1 ≡ (branch_entry_at E b).kind → branch_cost K E p n b R ≡ served 1 (ranks_at R (part_numbers E b))
    cost-split k = cost-own _ (parts-split E b (sym k))

    module _ (k : 2 ≡ (branch_entry_at E b).kind) (r : ℕ) (q : get_or R (branch_entry_at E b).arg 0 ≡ r) where
      cost-reveal : branch_cost K E p n b R ≡ served 1 (r ∷ [])
      unfolding ranks_at
      cost-reveal = cost-own ((branch_entry_at E b).arg ∷ []) (parts-reveal E b (sym k)) ∙ ap (λ r. served 1 (r ∷ [])) q

      pub cost-stuck : r ≡ 0 → branch_cost K E p n b R ≡ 0
      unfolding served
      cost-stuck z = cost-reveal ∙ rw z

      pub cost-step : 0 < r → branch_cost K E p n b R ≡ r + 1
      unfolding served
      cost-step h = cost-reveal ∙ rw (lt-ltb 0 r h) (omega arith)

    -- no renewal is own
    pub cost-renewal : 3 ≡ (branch_entry_at E b).kind → branch_cost K E p n b R ≡ 0
    cost-renewal k = absurd (omega (arith, own_below K E p n b (sym e)))

  pub ranked-reveal : 2 ≡ (branch_entry_at E b).kind → Ranked R (parts (branch_of E b).action) → ((branch_entry_at E b).arg < most_nodes) × (get_or R (branch_entry_at E b).arg 0 ≤ most_nodes)
  unfolding Ranked
  ranked-reveal k h = all_head (rw (parts-reveal E b (sym k)) at h)

  pub ranked-split : 1 ≡ (branch_entry_at E b).kind → Ranked R (parts (branch_of E b).action) → Ranked R (part_numbers E b)
  ranked-split k h = subst (Ranked R) (parts-split E b (sym k)) h

-- ---- choices

module _ (k b : ℕ) (c : rule.Choice) where
  pub better-none : k ≡ 0 → better k b c ≡ c
  unfolding better ◌&◌
  better-none e = rw e

  pub better-first : (k ≡ 0 → ⊥) → c.rank ≡ 0 → better k b c ≡ record { branch = b; rank = k }
  unfolding better ◌&◌ ◌or◌
  better-first f e = rw (lt-ltb 0 k (omega arith), e)

  pub better-less : (k ≡ 0 → ⊥) → (c.rank ≡ 0 → ⊥) → k ≤ c.rank → better k b c ≡ record { branch = b; rank = k }
  unfolding better ◌&◌ ◌or◌
  better-less f e h = rw (lt-ltb 0 k (omega arith), ne_eqb c.rank 0 e, le-leb _ _ h)

  pub better-more : (c.rank ≡ 0 → ⊥) → c.rank < k → better k b c ≡ c
  unfolding better ◌&◌ ◌or◌
  better-more e h = rw (lt-ltb 0 k (omega arith), ne_eqb c.rank 0 e, lt-leb _ _ h)

pub better-some : (k b : ℕ) (c : rule.Choice) → 0 < k → 0 < (better k b c).rank
unfolding better ◌&◌ ◌or◌
better-some k b c h = rw (lt-ltb 0 k h) (go (eqb c.rank 0) refl (leb k c.rank))
  where
    go : (x : Bool) → eqb c.rank 0 ≡ x → (y : Bool) → 0 < (cond (x or y) (record { branch = b; rank = k }) c).rank
    go true e y = h
    go false e true = h
    go false e false = omega (arith, eqb-false c.rank 0 e)

module _ (E : Entries) (n : ℕ) (bs : List ℕ) (e : bs ≡ branch_numbers E n) where
  pub number-count : length bs ≡ branch_count E n
  unfolding branch_count
  number-count = ap (λ xs. length xs) e

  pub number-at : (i : ℕ) → get_or bs i 0 ≡ branch_number E n i
  unfolding branch_number
  number-at i = ap (λ xs. get_or xs i 0) e

module _ (K : ℕ) (E : Entries) (p n : ℕ) (R : List ℕ) where
  pub chosen_none : (k : ℕ) → chosen_from K E p n R k (k - k) ≡ record { branch = 0; rank = 0 }
  unfolding chosen_from choose
  chosen_none k = let z : k - k ≡ 0 = omega arith in rw z

  pub chosen_more : (i k : ℕ) → 0 < i → i ≤ k → chosen_from K E p n R (i - 1) (k - (i - 1)) ≡ better (branch_cost K E p n (branch_number E n (i - 1)) R) (i - 1) (chosen_from K E p n R i (k - i))
  unfolding chosen_from choose
  chosen_more i k h l =
      let z : k - (i - 1) ≡ suc (k - i) = omega arith in
      let w : suc (i - 1) ≡ i = omega arith in
      rw (z, w)
