-- What the reader promises of branches is what the balance of a ledger asks of a sheet. Assumes nothing.
use Prim.Native.Nat.{ℕ, zero, suc, ◌<◌}
use mathlib.Core.Path.{◌≡◌, refl, sym, ap, ◌∙◌, subst}
use mathlib.Core.List.{List, map}
use native.Mathlib.Omega.{arith}
use lib.ListN.{length}
use Rattle.bitml.specs.Lists.{sum}
use Rattle.bitml.specs.Sheet.{Part, withdraw, split}
use Rattle.bitml.proofs.Balance.{Payable}
use Rattle.tables.specs.Entries.{Entries}
use Rattle.tables.specs.SheetOf.{branch_entry_at, branch_number, part_numbers, part_of, branch_of, action_of, sheet_of}
use Rattle.tables.proofs.SheetOf.{map-map, branch_of_lem, branch-small}
use Rattle.reading.specs.Promises.{Promises}
use Rattle.reading.proofs.Formed.{in_nodes, in_branches}

module _ (K : ℕ) (E : Entries) (ok : Promises K E) where
  pays : (b p k : ℕ) → b < length E.branches → (branch_entry_at E b).kind ≡ k → action_of E b k ≡ withdraw p → p < K
  unfolding action_of
  pays b p zero h e a = let z : (branch_entry_at E b).arg ≡ p = cc in omega (arith, ((ok.branch b h).withdraw e).payee)
  pays b p (suc zero) h e a = absurd (let z : ◌≡◌ {A = ℕ} 0 1 = cc in omega arith)
  pays b p (suc (suc zero)) h e a = absurd (let z : ◌≡◌ {A = ℕ} 0 1 = cc in omega arith)
  pays b p (suc (suc (suc k))) h e a = absurd (let z : ◌≡◌ {A = ℕ} 0 1 = cc in omega arith)

  weighs : (b : ℕ) (qs : List Part) (k : ℕ) → b < length E.branches → (branch_entry_at E b).kind ≡ k → action_of E b k ≡ split qs → 0 < sum (map (λ q. q.weight) qs)
  unfolding action_of
  weighs b qs zero h e a = absurd (let z : ◌≡◌ {A = ℕ} 0 1 = cc in omega arith)
  weighs b qs (suc zero) h e a =
      let z : map (part_of E) (part_numbers E b) ≡ qs = cc in
      subst (λ qs. 0 < sum (map (λ q. q.weight) qs)) z
      (subst (λ xs. 0 < sum xs) (sym (map-map (λ q. q.weight) (part_of E) (part_numbers E b))) ((ok.branch b h).split e).weigh)
  weighs b qs (suc (suc zero)) h e a = absurd (let z : ◌≡◌ {A = ℕ} 0 1 = cc in omega arith)
  weighs b qs (suc (suc (suc k))) h e a = absurd (let z : ◌≡◌ {A = ℕ} 0 1 = cc in omega arith)

  pub payable : Payable (sheet_of K E)
  unfolding sheet_of branch_of
  payable =
      record {
        payee = λ n b p h e.
            let q = branch_number E n b in let hb = in_branches K E ok n b h in
            pays q p (branch_entry_at E q).kind (branch-small E n b hb) refl (ap (λ br. br.action) (sym (branch_of_lem K E n b (in_nodes K E ok n b h) hb)) ∙ e);
        weigh = λ n b qs h e.
            let q = branch_number E n b in let hb = in_branches K E ok n b h in
            weighs q qs (branch_entry_at E q).kind (branch-small E n b hb) refl (ap (λ br. br.action) (sym (branch_of_lem K E n b (in_nodes K E ok n b h) hb)) ∙ e);
      }
