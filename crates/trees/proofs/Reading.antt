-- Every contract that is read is the listing of a tree. Assumes nothing.
use Prim.Native.Nat.{ℕ, zero, suc, ◌+◌, ◌≤◌, ◌<◌}
use mathlib.Core.Path.{◌≡◌, refl, ap, sym, ◌∙◌, subst}
use mathlib.Core.List.{List, [], ◌∷◌, ◌++◌}
use lib.ListN.{length, length-append}
use native.Mathlib.Omega.{arith}
use borrow.Author.Tests.{leb-false, eqb-false}
use Rattle.tables.specs.Entries.{BranchEntry, most_branches}
use Rattle.tables.specs.State.{State, entries, with_node, with_branch, node_entry}
use Rattle.steps.specs.Steps.{Outcome, to_place, twice, times}
use Rattle.conditions.specs.Condition.{store_at, constant_at, clauses_at, secret_at, operands_at, expression_with, expression_in, expression_at, condition_with, condition_in, condition_at}
use Rattle.contracts.specs.declared.Limits.{Limits}
use Rattle.contracts.specs.Contract.{ContractReader, hold_at, leaf_at, weighed_at, split_at, list_at, open_at, reveal_at, contract_with, action_at, read_branch, inside_at, read_contract}
use Rattle.trees.specs.Tree.{Kind, one, many, parts, Tree, pay, renew, split, reveal, end, also, last, weigh, Contract, size, weights, Weighed}
use Rattle.trees.specs.Listing.{Listing, listing_of, add_node, add_branch, head_of, split_entry, reveal_entry, write, write_contract}
use Rattle.steps.proofs.Ends.{Ends, good, refused, ends-map, ends_go, ends-either, ends_test, ends_then}

abbrev pub listing : State → Listing
listing a = listing_of (entries a)

-- ---- conditions and secrets leave the listing as it is

abbrev pub Like : Listing → State → Type 0
Like l a = listing a ≡ l

module _ (s : List ℕ) (l : Listing) where
  module _ (limit from : ℕ) where
    store_same : (p v : ℕ) (a : State) → Like l a → Ends (Like l) (store_at limit p v a)
    unfolding store_at
    store_same p v a h = ends-either _ _ _ refused (good h)

    twice_same : (f : State → Outcome) → ((a : State) → Like l a → Ends (Like l) (f a)) → (a : State) → Like l a → Ends (Like l) (twice f a)
    twice_same f t a h = ends_then _ _ (t a h) t

    operands_same : (f : State → Outcome) → ((a : State) → Like l a → Ends (Like l) (f a)) → (c : ℕ) (a : State) → Like l a
        → Ends (Like l) (operands_at s limit from f c a)
    unfolding operands_at constant_at secret_at
    operands_same f t c a h =
        ends-either _ _ _ (ends_go _ _ _ λ v e. store_same _ v (to_place a e) h)
        (ends-either _ _ _ (ends_go _ _ _ λ v e. ends-either _ _ _ (store_same _ v (to_place a e) h) refused) (twice_same f t a h))

    expression_same : (d : ℕ) (a : State) → Like l a → Ends (Like l) (expression_at s limit from d a)
    unfolding expression_at expression_with expression_in
    expression_same zero a h = ends_go _ _ _ λ w e. ends-either _ _ _ refused refused
    expression_same (suc d) a h =
        ends_go _ _ _ λ w e. ends-either _ _ _ refused
        (ends_then _ _ (store_same _ _ (to_place a e) h) (operands_same (expression_at s limit from d) (expression_same d) _))

    clauses_same : (f g : State → Outcome) → ((a : State) → Like l a → Ends (Like l) (f a)) → ((a : State) → Like l a → Ends (Like l) (g a)) → (c : ℕ) (a : State) → Like l a
        → Ends (Like l) (clauses_at f g c a)
    unfolding clauses_at
    clauses_same f g t u c a h = ends-either _ _ _ (good h) (ends-either _ _ _ (twice_same f t a h) (ends-either _ _ _ (t a h) (twice_same g u a h)))

    condition-same : (d : ℕ) (a : State) → Like l a → Ends (Like l) (condition_at s limit from d a)
    unfolding condition_at condition_with condition_in
    condition-same zero a h = ends_go _ _ _ λ w e. ends-either _ _ _ refused refused
    condition-same (suc d) a h =
        ends_go _ _ _ λ w e. ends-either _ _ _ refused
        (ends_then _ _ (store_same _ _ (to_place a e) h) (clauses_same (condition_at s limit from d) (expression_at s limit from d) (condition-same d) (expression_same d) _))

  secrets-same : (secrets from n : ℕ) (a : State) → Like l a → Ends (Like l) (times n (list_at s secrets from) a)
  unfolding times list_at
  secrets-same secrets from zero a h = good h
  secrets-same secrets from (suc n) a h =
      ends_then _ _ (ends_go _ _ _ λ v e. ends-either _ _ _ refused (ends-either _ _ _ refused (good h))) (secrets-same secrets from n)

-- ---- the branches of a node

-- "1,024 branches"
abbrev pub Few : State → Type 0
Few a = length a.branches ≤ most_branches

few-more : (e : BranchEntry) (xs : List BranchEntry) → length xs < most_branches → length (xs ++ (e ∷ [])) ≤ most_branches
few-more e xs h = rw length-append (omega (arith, h))

-- where no part is left, there is no weight more
no_weights : (ps : Tree parts) → size ps ≡ 0 → weights ps ≡ 0
unfolding size weights
no_weights last e = refl
no_weights (weigh w x ps) e = absurd (omega (arith, e))

-- the weights don't add to 0: at the last one the sum was tested
positive : (n sum w more : ℕ) → (n + (sum + w) ≡ 0 → ⊥) → (n ≡ 0 → more ≡ 0) → (0 < n → 0 < sum + w + more) → 0 < sum + (w + more)
positive zero sum w more h i r = omega (arith, h)
positive (suc n) sum w more h i r = let q = r (omega arith) in omega (arith, q)

-- what a' lists is l and then a tree of kind k, of which Q holds
pub record Lists (k : Kind) (Q : Tree k → Type 0) (d m : ℕ) (l : Listing) (a' : State) : Type 0 where
  pub few : Few a'
  pub tree : Tree k
  pub known : Q tree
  pub weighed : Weighed tree
  pub same : listing a' ≡ write d m tree l

-- what a' lists is l and then a contract, of branch b with weight w
pub record Holds (d b w : ℕ) (l : Listing) (a' : State) : Type 0 where
  pub few : Few a'
  pub tree : Contract
  pub weighed : Weighed tree
  pub same : listing a' ≡ write_contract d b w tree l

abbrev pub Reads : ℕ → ContractReader → Type 0
Reads d contract = (b w : ℕ) (a : State) → Few a → Ends (Holds d b w (listing a)) (contract b w a)

module _ (s : List ℕ) (lim : Limits) (contract : ContractReader) (reads : Reads lim.def contract) where
  -- n parts, after weights of a sum
  abbrev Parts : ℕ → ℕ → Tree parts → Type 0
  Parts sum n ps = (size ps ≡ n) × (0 < n → 0 < sum + weights ps)

  weighed_reads : (b sum n : ℕ) (a : State) → Few a → Ends (Lists parts (Parts sum n) lim.def b (listing a)) (weighed_at s contract b sum n a)
  unfolding weighed_at size write write_contract weights Weighed
  weighed_reads b sum zero a f = good (record { few = f; tree = last; known = (refl, λ h. absurd (omega (arith, h))); weighed = tt; same = refl })
  weighed_reads b sum (suc n) a f =
      ends_go _ _ _ λ w e. ends_test _ _ _ (λ _. refused) λ z.
      ends_then _ _ (reads b w (to_place a e) f) λ a₁ q.
      ends-map (weighed_reads b (sum + w) n a₁ q.few) λ a₂ r.
      let c : size r.tree ≡ n = r.known.0 in
      record {
        few = r.few;
        tree = weigh w q.tree r.tree;
        known = (ap suc c, λ h. positive n sum w (weights r.tree) (eqb-false _ _ z) (λ i. no_weights r.tree (c ∙ i)) r.known.1);
        weighed = (q.weighed, r.weighed);
        same = r.same ∙ ap (λ y. write lim.def b r.tree y) q.same;
      }

  -- any tree will do
  abbrev One : ℕ → Listing → State → Type 0
  One m = Lists one (λ x. Unit {0}) lim.def m

  module _ (m g t : ℕ) where
    pay_reads : (a : State) → length a.branches < most_branches → Ends (One m (listing a)) (leaf_at s (head_of m g t) 0 lim.people a)
    unfolding leaf_at write Weighed
    pay_reads a f = ends_go _ _ _ λ p e. ends-either _ _ _ (good (record { few = few-more _ a.branches f; tree = pay g t p; known = tt; weighed = tt; same = refl })) refused

    renew_reads : (a : State) → length a.branches < most_branches → Ends (One m (listing a)) (leaf_at s (head_of m g t) 3 lim.defs a)
    unfolding leaf_at write Weighed
    renew_reads a f = ends_go _ _ _ λ p e. ends-either _ _ _ (good (record { few = few-more _ a.branches f; tree = renew g t p; known = tt; weighed = tt; same = refl })) refused

    split_reads : (a : State) → length a.branches < most_branches → Ends (One m (listing a)) (split_at s contract (head_of m g t) a)
    unfolding split_at write Weighed
    split_reads a f =
        ends_go _ _ _ λ n e. ends_test _ _ _ (λ _. refused) λ z.
        ends-map (weighed_reads (length a.branches) 0 n (with_branch (split_entry m g t n) (to_place a e)) (few-more _ a.branches f)) λ a₁ r.
        let some : 0 < n = let ne = eqb-false n 0 z in omega (arith, ne) in
        let all : 0 < weights r.tree = let q = r.known.1 some in omega (arith, q) in
        record {
          few = r.few;
          tree = split g t r.tree;
          known = tt;
          weighed = (all, r.weighed);
          same = r.same ∙ ap (λ c. write lim.def (length a.branches) r.tree (add_branch (split_entry m g t c) (listing a))) (sym r.known.0);
        }

    open_reads : (n from : ℕ) (a₀ a : State) → length a₀.branches < most_branches → Like (listing a₀) a → Ends (One m (listing a₀)) (open_at s contract (head_of m g t) n from a)
    unfolding open_at hold_at write write_contract Weighed
    open_reads n from a₀ a f h =
        ends_then _ _ (condition-same s (listing a₀) _ _ 64 a h) λ a₁ i.
        let e : BranchEntry = reveal_entry m g t (length a₁.nodes) from n (length a.cells) in
        let f₁ : length a₁.branches < most_branches = subst (λ (y : Listing). length y.branches < most_branches) (sym i) f in
        ends-map (reads (length a₁.branches) 0 (with_branch e a₁) (few-more _ a₁.branches f₁)) λ a₂ r.
        record {
          few = r.few;
          tree = reveal g t from n (length a.cells) r.tree;
          known = tt;
          weighed = r.weighed;
          same = r.same ∙ ap (λ (y : Listing). write_contract lim.def (length y.branches) 0 r.tree (add_branch (reveal_entry m g t (length y.nodes) from n (length a.cells)) y)) i;
        }

    reveal_reads : (secrets : ℕ) (a : State) → length a.branches < most_branches → Ends (One m (listing a)) (reveal_at s secrets contract (head_of m g t) a)
    unfolding reveal_at
    reveal_reads secrets a f =
        ends_go _ _ _ λ n e. ends-either _ _ _ refused
        (ends_then _ _ (secrets-same s (listing a) secrets _ n (to_place a e) refl) λ a₁ h. open_reads n _ a a₁ f h)

    action_reads : (p : ℕ) (a : State) (w : ℕ) → length a.branches < most_branches → Ends (One m (listing a)) (action_at s lim contract (head_of m g t) p a w)
    unfolding action_at
    action_reads p a w f =
        ends-either _ _ _ (pay_reads a f)
        (ends-either _ _ _ (split_reads a f)
        (ends-either _ _ _ (reveal_reads _ a f)
        (ends-either _ _ _ (renew_reads a f) refused)))

  branch_reads : (m : ℕ) (a : State) → Ends (One m (listing a)) (read_branch s lim contract m a)
  unfolding read_branch
  branch_reads m a =
      ends_go _ _ _ λ g e. ends-either _ _ _ refused
      (ends_test _ _ _ (λ _. refused) λ z. ends_go _ _ _ λ t f. ends_go _ _ _ λ w h. action_reads m g t _ (to_place a h) w (leb-false _ _ z))

  branches-read : (m n : ℕ) (a : State) → Few a → Ends (Lists many (λ x. size x ≡ n) lim.def m (listing a)) (times n (read_branch s lim contract m) a)
  unfolding times size write Weighed
  branches-read m zero a f = good (record { few = f; tree = end; known = refl; weighed = tt; same = refl })
  branches-read m (suc n) a f =
      ends_then _ _ (branch_reads m a) λ a₁ q.
      ends-map (branches-read m n a₁ q.few) λ a₂ r.
      record {
        few = r.few;
        tree = also q.tree r.tree;
        known = ap suc r.known;
        weighed = (q.weighed, r.weighed);
        same = r.same ∙ ap (λ y. write lim.def m r.tree y) q.same;
      }

module _ (s : List ℕ) (lim : Limits) where
  with_reads : (inside : ℕ → ContractReader) → ((p : ℕ) → Reads lim.def (inside p)) → Reads lim.def (contract_with s inside)
  unfolding contract_with
  with_reads inside h b w a f = ends_go _ _ _ λ v e. ends-either _ _ _ (h _ b w (to_place a e) f) refused

  inside_reads : (d p : ℕ) → Reads lim.def (inside_at s lim d p)
  unfolding inside_at write_contract
  inside_reads zero p b w a f = refused
  inside_reads (suc d) p b w a f =
      ends-either _ _ _ refused
      (ends_go _ _ _ λ n e.
      ends-map (branches-read s lim _ (with_reads _ (inside_reads d)) (length a.nodes) n (with_node (node_entry lim.def b w n) (to_place a e)) f) λ a₁ r.
      record {
        few = r.few;
        tree = r.tree;
        weighed = r.weighed;
        same = r.same ∙ ap (λ c. write lim.def (length a.nodes) r.tree (add_node (node_entry lim.def b w c) (listing a))) (sym r.known);
      })

  -- a contract that is read is a tree: what is listed then is its listing after what was listed before
  pub reads_tree : (d : ℕ) → Reads lim.def (read_contract s lim d)
  unfolding read_contract
  reads_tree d = with_reads _ (inside_reads d)
