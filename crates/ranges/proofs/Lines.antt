-- Reading the `def` lines keeps the state good: each definition has its deposits and owners listed, each within its range. Assumes nothing.
use Prim.Native.Nat.{ℕ, zero, suc, ◌+◌, ◌≤◌, ◌<◌}
use mathlib.Core.Path.{◌≡◌, refl, ap, ◌∙◌, subst}
use mathlib.Core.List.{List, [], ◌∷◌, ◌++◌}
use native.Mathlib.Omega.{arith}
use lib.ListN.{length}
use lib.Seq.{get_or_at}
use borrow.Author.Tests.{ltb-true, ltb-false}
use Rattle.tables.specs.Entries.{DefEntry}
use Rattle.tables.specs.State.{State, with_listed, def_entry}
use Rattle.steps.specs.Steps.{to_place}
use Rattle.lines.specs.Definition.{deposits_at, owner_at, root_at, owned_at, define_at}
use Rattle.lines.specs.Sheet.{sizes}
use Rattle.ranges.specs.Ranged.{DefRange}
use Rattle.steps.proofs.Ends.{Ends, good, refused, ends_test, ends_then, ends-times}
use Rattle.ranges.proofs.Lists.{begins_more, length_more, below_none, below_more, total, total-more, def_grown}
use Rattle.ranges.proofs.Good.{Good, number_goes, first_goes, line-end_goes, good_def, good_listed}
use Rattle.ranges.proofs.Contracts.{contract_good}

-- between the lines: i definitions were read
pub record Defines (s : List ℕ) (K F i : ℕ) (a : State) : Type 0 where
  pub state : Good s K F a.defs [] 0 0 a
  pub count : length a.defs ≡ i

-- within a line: i deposits and j owners are listed from `first` on
record Listing (s : List ℕ) (K F : ℕ) (ds : List DefEntry) (first i j : ℕ) (a : State) : Type 0 where
  new : ℕ
  few : new ≤ i + j
  state : Good s K F ds [] 0 new a
  count : length a.listed ≡ first + i + j
  range : DefRange i a.listed first j

-- the line of definition d, whose numbers are listed from `first` on
module _ (s : List ℕ) (K F : ℕ) (few-people : K ≤ 16) (d : ℕ) (ds : List DefEntry) (before : length ds ≡ d) (first : ℕ) where
  -- the n deposits that are left, after i
  deposits_good : (n i sum : ℕ) (a : State) → i + n ≡ K → total a.listed first i ≡ sum → Listing s K F ds first i 0 a
      → Ends (Listing s K F ds first K 0) (deposits_at s sum n a)
  unfolding deposits_at
  deposits_good zero i sum a h t c = let e : i ≡ K = omega arith in good (subst (λ x. Listing s K F ds first x 0 a) e c)
  deposits_good (suc n) i sum a h t c =
      number_goes c.state _ _ λ v e l m g.
      ends_test _ _ _ (λ z. refused) λ z.
      let sum-now : total (a.listed ++ (v ∷ [])) first (suc i) ≡ sum + v = total-more a.listed first i v (omega (arith, c.count)) ∙ ap (λ x. x + v) t in
      let range-now : DefRange (suc i) (a.listed ++ (v ∷ [])) first 0 =
      record { few = omega arith; owners = below_none (rw length_more (omega (arith, c.count))); deposits = rw sum-now (ltb-false _ _ z) } in
      deposits_good n (suc i) (sum + v) (with_listed v (to_place a e)) (omega arith) sum-now
      (record { new = suc c.new; few = omega (arith, c.few); state = good_listed g v; count = rw length_more (omega (arith, c.count)); range = range-now })

  -- one owner more
  owner_good : (j : ℕ) → j < 8 → (a : State) → Listing s K F ds first K j a → Ends (Listing s K F ds first K (suc j)) (owner_at s K a)
  unfolding owner_at
  owner_good j l a c =
      number_goes c.state _ _ λ v e i m g.
      ends_test _ _ _
      (λ z.
      let range-now : DefRange K (a.listed ++ (v ∷ [])) first (suc j) =
      record { few = l; owners = below_more v c.range.owners c.count (ltb-true _ _ z); deposits = (def_grown (begins_more _ v) c.range).deposits } in
      good (record { new = suc c.new; few = omega (arith, c.few); state = good_listed g v; count = rw length_more (omega (arith, c.count)); range = range-now }))
      (λ z. refused)

  -- its entry, its contract and its end
  root_good : (n : ℕ) (a : State) → Listing s K F ds first K n a → Ends (Defines s K F (suc d)) (root_at s (sizes K F) first n a)
  unfolding root_at
  root_good n a c =
      let x = def_entry (length a.nodes) first n in
      let own = ap (λ (y : DefEntry). y.secrets) (get_or_at a.defs x [] _ _ refl) in
      ends_then _ _
      (contract_good s K F (length a.defs) n (a.defs ++ (x ∷ [])) c.range.few (length_more a.defs x) own 32 [] 1024 0 _ (omega arith)
      (good_def c.state x (omega (arith, c.few, c.range.few)) c.range))
      λ b g. line-end_goes g _ λ v e g₁.
      good (record {
        state = record { sound = g₁.sound; few-branches = g₁.few-branches; few-listed = g₁.few-listed; paid = g₁.paid; inside = g₁.inside; same-defs = refl; kept = g₁.kept };
        count = ap (λ y. length y) g₁.same-defs ∙ length_more a.defs x ∙ ap (λ y. suc (length y)) c.state.same-defs ∙ ap suc before;
      })

  -- after the deposits
  owned_good : (a : State) → Listing s K F ds first K 0 a → Ends (Defines s K F (suc d)) (owned_at s (sizes K F) first a)
  unfolding owned_at
  owned_good a c =
      number_goes c.state _ _ λ n e l m g.
      ends_then _ _
      (ends-times (Listing s K F ds first K) n _ (to_place a e) (record { new = c.new; few = c.few; state = g; count = c.count; range = c.range })
      (λ j i. owner_good j (omega arith)))
      (root_good n)

pub define_good : (s : List ℕ) (K F : ℕ) → K ≤ 16 → (i : ℕ) (a : State) → Defines s K F i a → Ends (Defines s K F (suc i)) (define_at s (sizes K F) a)
unfolding define_at
define_good s K F h i a c =
    first_goes c.state _ λ w e g.
    ends_test _ _ _
    (λ z.
    let start : Listing s K F a.defs (length a.listed) 0 0 (to_place a e) =
    record { new = 0; few = omega arith; state = g; count = omega arith; range = record { few = omega arith; owners = below_none (omega arith); deposits = omega arith } } in
    ends_then _ _ (deposits_good s K F h i a.defs c.count (length a.listed) K 0 0 (to_place a e) (omega arith) refl start)
    (owned_good s K F h i a.defs c.count (length a.listed)))
    (λ z. refused)
