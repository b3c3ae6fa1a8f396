-- How the code's steps through a contract give what the definition says. Assumes nothing.
use Prim.Native.Nat.{ℕ, zero, suc, ◌+◌, ◌-◌, ◌≤◌, ◌<◌}
use mathlib.Core.Path.{◌≡◌, refl, sym, subst}
use mathlib.Core.List.{List}
use mathlib.Core.Bool.{true, false}
use native.Mathlib.Numerals.{sub-one}
use native.Mathlib.Omega.{arith}
use lib.ListN.{length}
use lib.Dec.{leb, eqb}
use borrow.Author.Tests.{le-leb, lt-leb, eq-eqb, ne_eqb}
use Rattle.fields.specs.Field.{any_number, number_at, word_at}
use Rattle.tables.specs.declared.St.{St}
use Rattle.tables.specs.declared.Head.{Head}
use Rattle.tables.specs.State.{State, state_of, nodes_of, branches_of, listed_of, more_nodes, more_branches, more_listed, with_node, with_branch, node_entry, branch_entry}
use Rattle.tables.proofs.Laws.{nodes-length, branches-length, listed-length}
use Rattle.tables.specs.Entries.{most_nodes, most_branches, most_listed}
use Rattle.steps.specs.Steps.{Read, Value, next, bad, moved, go_on, either, and_then, times, Met}
use Rattle.steps.proofs.Laws.{Took, Leads, took_number, took_letters, passed, yes', no', by}
use Rattle.conditions.specs.Condition.{condition_at, HasRoom, Kept}
use Rattle.contracts.specs.declared.Limits.{Limits}
use Rattle.contracts.specs.Contract.{c_word, w_word, s_word, r_word, g_word, ContractReader, action, leaf_at, weighed_at, split_at, list_at, hold_at, open_at, reveal_at, action_at, read_branch, contract_with, inside_at, read_contract}
use Rattle.contracts.specs.Counts.{Few, Added}

-- ---- counts

module _ {s : List ℕ} where
  pub added_branch : {st e q : St} → Took s 2 st e → q ≡ more_branches e → Added s 1 0 st q
  added_branch {st} k h =
      subst (Added s 1 0 st) (sym h)
      (record { nodes = k.nodes; branches = omega arith; defs = k.defs; listed = omega arith; cells = k.cells; further = omega arith; inside = k.inside })

  pub added_listed : {st e q : St} → Took s 2 st e → q ≡ more_listed e → Added s 0 1 st q
  added_listed {st} k h =
      subst (Added s 0 1 st) (sym h)
      (record { nodes = k.nodes; branches = omega arith; defs = k.defs; listed = omega arith; cells = k.cells; further = omega arith; inside = k.inside })

  -- the numbers of a list, one by one
  pub added_none : (st : St) → HasRoom s st → Added s 0 0 st st
  added_none st r =
      record { nodes = refl; branches = omega arith; defs = refl; listed = omega arith; cells = refl; further = omega arith; inside = r.inside }

  pub added_more : {l : ℕ} {st e q : St} → Added s 0 l st e → Added s 0 1 e q → Added s 0 (l + 1) st q
  added_more a b =
      record { nodes = omega arith; branches = omega arith; defs = omega arith; listed = omega arith; cells = omega arith; further = omega arith; inside = b.inside }

  pub ready_added : {b l : ℕ} {st e : St} → HasRoom s st → Added s b l st e → st.branches + b ≤ most_branches → st.listed + l ≤ most_listed → HasRoom s e
  ready_added r k h i =
      record {
        fits = record { nodes-fit = omega arith; branches-fit = omega arith; defs-fit = omega arith; listed-fit = omega arith; cells_fit = omega arith };
        paid = omega arith;
        inside = omega arith;
        short = omega arith;
      }

  module _ {lim : Limits} where
    pub ready : {st : St} → Few s lim st → HasRoom s st
    ready f =
        record {
          fits = record { nodes-fit = omega arith; branches-fit = omega arith; defs-fit = omega arith; listed-fit = omega arith; cells_fit = omega arith };
          paid = omega arith;
          inside = omega arith;
          short = omega arith;
        }

    pub few_took : {n : ℕ} {st e : St} → Few s lim st → Took s n st e → Few s lim e
    few_took f k =
        record { few-nodes = omega arith; few-branches = omega arith; few-defs = omega arith; this_def = omega arith; few-listed = omega arith; few-cells = omega arith; inside = omega arith; short = omega arith }

    pub few-node : {e q : St} → Few s lim e → e.nodes < most_nodes → q ≡ more_nodes e → Few s lim q
    few-node f h i =
        subst (Few s lim) (sym i)
        (record { few-nodes = omega arith; few-branches = omega arith; few-defs = omega arith; this_def = omega arith; few-listed = omega arith; few-cells = omega arith; inside = omega arith; short = omega arith })

    pub few-branch : {e q : St} → Few s lim e → e.branches < most_branches → q ≡ more_branches e → Few s lim q
    few-branch f h i =
        subst (Few s lim) (sym i)
        (record { few-nodes = omega arith; few-branches = omega arith; few-defs = omega arith; this_def = omega arith; few-listed = omega arith; few-cells = omega arith; inside = omega arith; short = omega arith })

    pub few_leaf : {st e : St} → Few s lim st → st.branches < most_branches → Added s 1 0 st e → Few s lim e
    few_leaf f h k =
        record { few-nodes = omega arith; few-branches = omega arith; few-defs = omega arith; this_def = omega arith; few-listed = omega arith; few-cells = omega arith; inside = omega arith; short = omega arith }

    -- after the secrets and the condition of an `r`, with its branch
    pub few-reveal : {n : ℕ} {st e f q : St} → Few s lim st → st.branches < most_branches → n ≤ 8 → Added s 0 n st e → Kept s e f → q ≡ more_branches f → Few s lim q
    few-reveal w h m k l i =
        subst (Few s lim) (sym i)
        (record { few-nodes = omega arith; few-branches = omega arith; few-defs = omega arith; this_def = omega arith; few-listed = omega arith; few-cells = omega arith; inside = omega arith; short = omega arith })

-- the limits on counts, as the code tests them
pub nodes-full : (k n : ℕ) (t : List ℕ) → k ≤ n → leb k (length (nodes_of n t)) ≡ true
nodes-full k n t h = rw nodes-length (le-leb k n h)

pub nodes-free : (k n : ℕ) (t : List ℕ) → n < k → leb k (length (nodes_of n t)) ≡ false
nodes-free k n t h = rw nodes-length (lt-leb k n h)

pub branches-full : (k n : ℕ) (t : List ℕ) → k ≤ n → leb k (length (branches_of n t)) ≡ true
branches-full k n t h = rw branches-length (le-leb k n h)

pub branches-free : (k n : ℕ) (t : List ℕ) → n < k → leb k (length (branches_of n t)) ≡ false
branches-free k n t h = rw branches-length (lt-leb k n h)

-- ---- steps

module _ {P : St → Type 0} (s : List ℕ) where
  -- the parts, one by one
  pub weighed_more : (k : ContractReader) (b sum n : ℕ) (a : State) → 0 < n
      → Leads P (go_on a (number_at s a.at 1000) λ w a₁. either (eqb ((n - 1) + (sum + w)) 0) (bad 8 a.at) (and_then (k b w a₁) (weighed_at s k b (sum + w) (n - 1)))) (weighed_at s k b sum n a)
  unfolding weighed_at
  weighed_more k b sum zero a h r t m = absurd (omega arith)
  weighed_more k b sum (suc n) a h r t m = simp (sub-one) at m

  pub weighed_none : (k : ContractReader) (b sum n : ℕ) (a : State) → n ≤ 0 → Leads P (next a) (weighed_at s k b sum n a)
  unfolding weighed_at
  weighed_none k b sum zero a h r t m = m
  weighed_none k b sum (suc n) a h r t m = absurd (omega arith)

  module _ (lim : Limits) where
    -- the levels left
    pub inside-none : (d p b w : ℕ) (a : State) → d ≡ 0 → Leads P (bad 7 p) (inside_at s lim d p b w a)
    unfolding inside_at
    inside-none d p b w a h r t m = rw h m

    pub inside-more : (d p b w : ℕ) (a : State) → (d ≡ 0 → ⊥)
        → Leads P (either (leb most_nodes (length a.nodes)) (bad 7 p) (go_on a (number_at s a.at 16) λ n a₁. times n (read_branch s lim (read_contract s lim (d - 1)) (length a.nodes)) (with_node (node_entry lim.def b w n) a₁))) (inside_at s lim d p b w a)
    unfolding inside_at read_contract
    inside-more zero p b w a h r t m = absurd (h refl)
    inside-more (suc d) p b w a h r t m = simp (sub-one) at m

    -- the action, by its word
    module _ (k : ContractReader) (h : Head) (p : ℕ) (a : State) (w : ℕ) where
      pub action_w : w ≡ w_word → Leads P (leaf_at s h 0 lim.people a) (action_at s lim k h p a w)
      unfolding action_at either
      action_w e r t m = rw e m

      pub action_s : w ≡ s_word → Leads P (split_at s k h a) (action_at s lim k h p a w)
      unfolding action_at either
      action_s e r t m = rw e m

      pub action_r : w ≡ r_word → Leads P (reveal_at s lim.secrets k h a) (action_at s lim k h p a w)
      unfolding action_at either
      action_r e r t m = rw e m

      pub action_g : w ≡ g_word → Leads P (leaf_at s h 3 lim.defs a) (action_at s lim k h p a w)
      unfolding action_at either
      action_g e r t m = rw e m

      pub action-other : (w ≡ w_word → ⊥) → (w ≡ s_word → ⊥) → (w ≡ r_word → ⊥) → (w ≡ g_word → ⊥) → Leads P (bad 3 p) (action_at s lim k h p a w)
      unfolding action_at either
      action-other e f g i r t m = rw (ne_eqb w w_word e, ne_eqb w s_word f, ne_eqb w r_word g, ne_eqb w g_word i) m

  -- the secrets are listed from m on
  pub list_from : (k : ContractReader) (h : Head) (secrets n m : ℕ) (t₀ : List ℕ) (a : State)
      → Leads P (and_then (times n (list_at s secrets m) a) (open_at s k h n m)) (and_then (times n (list_at s secrets (length (listed_of m t₀))) a) (open_at s k h n (length (listed_of m t₀))))
  list_from k h secrets n m t₀ a r t i = rw (listed-length m t₀) i

  -- the condition starts at m
  pub open_from : (k : ContractReader) (h : Head) (n from m : ℕ) (a : State) → length a.cells ≡ m
      → Leads P (and_then (condition_at s (m + 64) from 64 a) λ a₁. hold_at k h (action 2 (length a₁.nodes) from n m) (length a₁.branches) a₁) (open_at s k h n from a)
  unfolding open_at
  open_from k h n from m a e r t i = rw e i

-- the branches begin, with the node stored
pub begin : (s : List ℕ) (lim : Limits) (k : ContractReader) (n m i : ℕ) (t : List ℕ) (x a : State) → i ≡ m → x ≡ a
    → times n (read_branch s lim k i) x ≡ times n (read_branch s lim k (length (nodes_of m t))) a
begin s lim k n m i t x a h e = rw (nodes-length m t, h, e)

-- a branch is read as far as the word of its action
module _ {P : St → Type 0} {e f g : St} {signers opens w : ℕ} (s : List ℕ) (lim : Limits) (st : St) (k : ContractReader) (node : ℕ) (t : List ℕ) where
  pub branch_word : {r : Read} {u : List ℕ} → Value signers e ≡ moved st (number_at s st.at any_number) → signers < lim.all → st.branches < most_branches
      → Value opens f ≡ moved e (number_at s e.at 4294967295) → Value w g ≡ moved f (word_at s f.at)
      → Met P (action_at s lim k (record { node = node; signers = signers; opens = opens }) f.at (state_of g t) w) r u
      → Met P (read_branch s lim k node (state_of st t)) r u
  unfolding read_branch
  branch_word h i j l x m =
      passed _ _ _ _ h (no' _ (lt-leb _ _ i) (no' _ (branches-free _ _ _ j) (passed _ _ _ _ l (passed _ _ _ _ x m))))

module _ {s : List ℕ} {lim : Limits} {st e f g : St} {signers opens w : ℕ} where
  pub few_word : Few s lim st → st.branches < most_branches → Value signers e ≡ moved st (number_at s st.at any_number)
      → Value opens f ≡ moved e (number_at s e.at 4294967295) → Value w g ≡ moved f (word_at s f.at) → Few s lim g × (g.branches < most_branches)
  few_word r h i j k =
      let x = took_number _ i in
      let y = took_number _ j in
      let z = took_letters k in
      (few_took (few_took (few_took r x) y) z, omega (arith, h, x.branches, y.branches, z.branches))

-- a contract is read as far as its branches
module _ {P : St → Type 0} {e : St} {w : ℕ} (s : List ℕ) (lim : Limits) (st : St) (d parent weight : ℕ) (t : List ℕ) where
  pub contract_word : {r : Read} {u : List ℕ} → Value w e ≡ moved st (word_at s st.at) → w ≡ c_word
      → Met P (inside_at s lim d st.at parent weight (state_of e t)) r u → Met P (read_contract s lim d parent weight (state_of st t)) r u
  unfolding read_contract contract_with
  contract_word h i m = passed _ _ _ _ h (yes' _ (eq-eqb _ _ i) m)

  pub contract_begun : {f : St} {n : ℕ} (q : St) (v : List ℕ) {r : Read} {u : List ℕ} → Value w e ≡ moved st (word_at s st.at) → w ≡ c_word → (d ≡ 0 → ⊥)
      → e.nodes < most_nodes → Value n f ≡ moved e (number_at s e.at 16) → state_of q v ≡ with_node (node_entry lim.def parent weight n) (state_of f t)
      → Met P (times n (read_branch s lim (read_contract s lim (d - 1)) f.nodes) (state_of q v)) r u → Met P (read_contract s lim d parent weight (state_of st t)) r u
  contract_begun q v h i j k l x m =
      contract_word h i (inside-more _ _ _ _ _ _ _ j _ _ (no' _ (nodes-free _ _ _ k) (passed _ _ _ _ l (by (begin _ _ _ _ _ _ _ _ _ (took_number _ l).nodes x) m))))

-- the parts begin, with the branch stored
pub begin_parts : (s : List ℕ) (k : ContractReader) (n m i : ℕ) (t : List ℕ) (x a : State) → i ≡ m → x ≡ a
    → weighed_at s k i 0 n x ≡ weighed_at s k (length (branches_of m t)) 0 n a
begin_parts s k n m i t x a h e = rw (branches-length m t, h, e)

-- the contract of an `r` begins, with the branch stored
pub begin_reveal : {P : St → Type 0} (k : ContractReader) (h : Head) (from n start m i : ℕ) (t : List ℕ) (x a : State) → x ≡ with_branch (branch_entry h (action 2 i from n start)) a
    → Leads P (k m 0 x) (hold_at k h (action 2 (length (nodes_of i t)) from n start) (length (branches_of m t)) a)
unfolding hold_at
begin_reveal k h from n start m i t x a e r u q = rw (branches-length m t, nodes-length i t, ← e) q
