-- A sheet that is read is shaped: its nodes, branches and definitions hang together as its text says. Assumes nothing.
use Prim.Native.Nat.{ℕ, suc, ◌+◌, ◌≤◌, ◌<◌}
use mathlib.Core.Path.{◌≡◌, ap, sym, ◌∙◌}
use mathlib.Core.Logic.{◌⊎◌, inl, inr, by_cases}
use mathlib.Core.List.{List, [], ◌∷◌}
use lib.ListN.{length, get_or-eq_default}
use native.Mathlib.Decide.{dec_lt}
use native.Mathlib.Omega.{arith}
use borrow.Author.Tests.{lt-ltb, le-ltb}
use Rattle.tables.specs.Entries.{DefEntry, Entries, most_branches}
use Rattle.tables.specs.SheetOf.{node_entry_at, branch_entry_at, def_entry_at, part_count}
use Rattle.lines.specs.Sheet.{accepted, read_sheet}
use Rattle.reading.specs.Promises.{no_parent, Inside, Nesting, over}
use Rattle.trees.specs.Tree.{Contract, size, nodes_in, branches_in}
use Rattle.trees.specs.Listing.{DefTree}
use Rattle.trees.specs.Shaped.{BranchShape, DefShape, Shaped}
use Rattle.trees.proofs.Sheet.{sheet_trees}
use Rattle.trees.proofs.Stands.{HasNode, Stands, Planted, forest_planted}
use Rattle.trees.proofs.Ranges.{Each, each_none, each_first, each-join, each_map, Pairs, pairs_none, pairs_join}
use Rattle.trees.proofs.Sums.{all-nodes, all-branches, arity_of, count-is, parts_are, weights-add}
use Rattle.trees.proofs.Order.{holder, Names, contract_lies, names_to, contract_nested, contract-branches}

-- ---- one tree

-- definition d's tree, its root at n and its branches from b on
record Rooted (E : Entries) (d n b : ℕ) (x : Contract) : Type 0 where
  root : (def_entry_at E d).root ≡ n
  node : HasNode E n d no_parent 0 (size x)
  stands : Stands E d n (suc n) b x
  nodes-fit : suc n + nodes_in x ≤ length E.nodes
  branches-fit : b + branches_in x ≤ length E.branches

-- where a node is: a root, or inside a branch
data Spot (E : Entries) (i : ℕ) : Type 0 where
  top : (node_entry_at E i).parent ≡ no_parent → i ≡ (def_entry_at E (node_entry_at E i).definition).root → Spot E i
  inner : Inside E i → Spot E i

module _ (E : Entries) (d n b : ℕ) (x : Contract) (h : Rooted E d n b x) where
  tree_home : Each (λ i. (node_entry_at E i).definition ≡ d) n (suc n + nodes_in x)
  tree_home = each_first h.node.definition (each_map (contract_lies E d n b x h.stands) λ i p q s. s.home)

  tree_spots : Each (Spot E) n (suc n + nodes_in x)
  unfolding holder
  tree_spots =
      each_first (top h.node.parent (sym (ap (λ c. (def_entry_at E c).root) h.node.definition ∙ h.root)))
      (each_map (contract_lies E d n b x h.stands) λ i p q s.
      inner
      (record {
        there = omega (arith, s.to_here, h.branches-fit);
        later = s.before;
        same = s.home ∙ sym (tree_home.at (holder E i) s.under (omega (arith, s.before, q)));
      }))

module _ (E : Entries) (few : length E.branches ≤ most_branches) where
  over-top : (i : ℕ) → (node_entry_at E i).parent ≡ no_parent → over E i ≡ 0
  unfolding over
  over-top i e = rw (le-ltb (node_entry_at E i).parent (length E.branches) (omega (arith, e, few)))

  over_inner : (i : ℕ) → (node_entry_at E i).parent < length E.branches → over E i ≡ suc (holder E i)
  unfolding over holder
  over_inner i l = rw (lt-ltb (node_entry_at E i).parent (length E.branches) l)

  spot_over : (i : ℕ) → Spot E i → over E i ≤ i
  unfolding holder
  spot_over i (top e r) = let z = over-top i e in omega (arith, z)
  spot_over i (inner h) = let z = over_inner i h.there in omega (arith, z, h.later)

  module _ (d n b : ℕ) (x : Contract) (h : Rooted E d n b x) where
    -- a node below the root
    tree_over : (i : ℕ) → suc n ≤ i → i < suc n + nodes_in x → over E i ≡ suc (holder E i)
    tree_over i p q = let s = (contract_lies E d n b x h.stands).at i p q in over_inner i (omega (arith, s.to_here, h.branches-fit))

    tree_between : Each (λ m. (v k : ℕ) → over E m ≡ suc v → v < k → k < m → v < over E k) n (suc n + nodes_in x)
    tree_between =
        each_first (λ v k e p q. let z = over-top n h.node.parent in absurd (omega (arith, e, z)))
        (each_map (contract_lies E d n b x h.stands) λ m p q s v k e l u.
        let o = tree_over m p q in
        let under = s.under in
        let c = tree_over k (omega (arith, o, under, e, l)) (omega (arith, q, u)) in
        let r = ((contract_nested E d n b x h.stands).at k m (omega (arith, o, under, e, l)) u q).between (omega (arith, o, e, l)) in
        omega (arith, r, c, o, e))

    tree_ordered : ((i : ℕ) → i < length E.nodes → Spot E i)
        → Each (λ l. (m v : ℕ) → m < l → over E m ≡ suc v → over E l ≡ suc v → (node_entry_at E m).parent ≤ (node_entry_at E l).parent) n (suc n + nodes_in x)
    tree_ordered spots =
        each_first (λ m v u e g. let z = over-top n h.node.parent in absurd (omega (arith, g, z)))
        (each_map (contract_lies E d n b x h.stands) λ l p q s m v u e g.
        let o = tree_over l p q in
        let under = s.under in
        let low = spot_over m (spots m (omega (arith, u, q, h.nodes-fit))) in
        let a : suc n ≤ m = omega (arith, low, e, g, o, under) in
        let c = tree_over m a (omega (arith, u, q)) in
        ((contract_nested E d n b x h.stands).at m l a u q).ordered (omega (arith, c, o, e, g)))

-- ---- all trees

module _ (E : Entries) where
  first_tree : (d n b : ℕ) (t : DefTree) (ts : List DefTree) → Planted E d n b (t ∷ ts) → Rooted E d n b t.contract
  unfolding Planted
  first_tree d n b t ts h =
      let a = all-nodes E _ _ _ ts h.4 in
      let c = all-branches E _ _ _ ts h.4 in
      record { root = h.0; node = h.1; stands = h.2; nodes-fit = omega (arith, a); branches-fit = omega (arith, c) }

  -- what holds of the nodes of each tree holds of all nodes; and of the branches likewise
  each-node : (P : ℕ → Type 0) → ((d n b : ℕ) (x : Contract) → Rooted E d n b x → Each P n (suc n + nodes_in x)) → (d n b : ℕ) (ts : List DefTree) → Planted E d n b ts
      → Each P n (length E.nodes)
  unfolding Planted
  each-node P f d n b [] h = let e = h.1 in each_none (omega (arith, e))
  each-node P f d n b (t ∷ ts) h = each-join (f d n b t.contract (first_tree d n b t ts h)) (each-node P f (suc d) (suc n + nodes_in t.contract) (b + branches_in t.contract) ts h.4)

  each-branch : (P : ℕ → Type 0) → ((d n b : ℕ) (x : Contract) → Rooted E d n b x → Each P b (b + branches_in x)) → (d n b : ℕ) (ts : List DefTree) → Planted E d n b ts
      → Each P b (length E.branches)
  unfolding Planted
  each-branch P f d n b [] h = let e = h.2 in each_none (omega (arith, e))
  each-branch P f d n b (t ∷ ts) h = each-join (f d n b t.contract (first_tree d n b t ts h)) (each-branch P f (suc d) (suc n + nodes_in t.contract) (b + branches_in t.contract) ts h.4)

  all-branches-named : (ts : List DefTree) → Planted E 0 0 0 ts → Each (Names E (length E.nodes)) 0 (length E.branches)
  all-branches-named ts h =
      each-branch _ (λ d n b x r. each_map (contract-branches E d n b x r.stands) λ j p q s. names_to _ s r.nodes-fit) 0 0 0 ts h

  all-defs : (d n b : ℕ) (ts : List DefTree) → Planted E d n b ts → Each (DefShape E) d (length E.defs)
  unfolding Planted
  all-defs d n b [] h = let e = h.0 in each_none (omega (arith, e))
  all-defs d n b (t ∷ ts) h =
      let r = first_tree d n b t ts h in
      let e : (def_entry_at E d).root ≡ n = h.0 in
      each_first
      (record { root = omega (arith, e, r.nodes-fit); own = ap (λ i. (node_entry_at E i).definition) e ∙ h.1.definition; top = ap (λ i. (node_entry_at E i).parent) e ∙ h.1.parent })
      (all-defs (suc d) (suc n + nodes_in t.contract) (b + branches_in t.contract) ts h.4)

  first_def : (ts : List DefTree) → Planted E 0 0 0 ts → (def_entry_at E 0).root ≡ 0
  unfolding Planted
  first_def [] h = ap (λ (y : DefEntry). y.root) (get_or-eq_default E.defs _ (let e = h.0 in omega (arith, e)))
  first_def (t ∷ ts) h = h.0

  -- the definitions one after the other
  all-later : (d n b : ℕ) (ts : List DefTree) → Planted E d n b ts → Each (λ i. d ≤ (node_entry_at E i).definition) n (length E.nodes)
  unfolding Planted
  all-later d n b [] h = let e = h.1 in each_none (omega (arith, e))
  all-later d n b (t ∷ ts) h =
      each-join (each_map (tree_home E d n b t.contract (first_tree d n b t ts h)) λ i p q e. omega (arith, e))
      (each_map (all-later (suc d) (suc n + nodes_in t.contract) (b + branches_in t.contract) ts h.4) λ i p q l. omega (arith, l))

  all-rising : (d n b : ℕ) (ts : List DefTree) → Planted E d n b ts → Pairs (λ k l. (node_entry_at E k).definition ≤ (node_entry_at E l).definition) n (length E.nodes)
  unfolding Planted
  all-rising d n b [] h = let e = h.1 in pairs_none (omega (arith, e))
  all-rising d n b (t ∷ ts) h =
      let s = tree_home E d n b t.contract (first_tree d n b t ts h) in
      let r = all-later (suc d) (suc n + nodes_in t.contract) (b + branches_in t.contract) ts h.4 in
      pairs_join (record { at = λ k l p q u. let a = s.at k p (omega (arith, q, u)) in let c = s.at l (omega (arith, p, q)) u in omega (arith, a, c) })
      (all-rising (suc d) (suc n + nodes_in t.contract) (b + branches_in t.contract) ts h.4)
      λ k l p q u v. let a = s.at k p q in let c = r.at l u v in omega (arith, a, c)

module _ (E : Entries) (few : length E.branches ≤ most_branches) (ts : List DefTree) (h : Planted E 0 0 0 ts) where
  spots : (i : ℕ) → i < length E.nodes → Spot E i
  spots i l = (each-node E _ (tree_spots E) 0 0 0 ts h).at i (omega arith) l

  nesting : Nesting E
  nesting =
      record {
        between = λ m n k l. (each-node E _ (tree_between E few) 0 0 0 ts h).at m (omega arith) l n k;
        ordered = λ m l n p q. (each-node E _ (λ d n b x r. tree_ordered E few d n b x r spots) 0 0 0 ts h).at l (omega arith) q m n p;
        rising = λ m n p q.
            by_cases (dec_lt m n) (λ l. (all-rising E 0 0 0 ts h).at m n (omega arith) l q)
            (λ l. let e : m ≡ n = omega (arith, p, l) in let z = ap (λ i. (node_entry_at E i).definition) e in omega (arith, z));
        start = first_def E ts h;
      }

  node-place : (n : ℕ) → Spot E n → (n ≡ (def_entry_at E (node_entry_at E n).definition).root) ⊎ Inside E n
  node-place n (top e r) = inl r
  node-place n (inner i) = inr i

  branch_shape : (b : ℕ) → b < length E.branches → BranchShape E b
  unfolding arity_of
  branch_shape b l =
      let s = (all-branches-named E ts h).at b (omega arith) l in
      let parts = parts_are E ts h b l (λ e. omega (arith, e, l, few)) in
      let by : (k : ℕ) → (branch_entry_at E b).kind ≡ k → part_count E b ≡ arity_of k (branch_entry_at E b).arg = λ k e. parts ∙ ap (λ y. arity_of y (branch_entry_at E b).arg) e in
      record {
        node = s.node;
        withdraw = by 0;
        split = λ e. record { parts = by 1 e; weigh = weights-add E ts h b l e };
        reveal = λ e. record { parts = by 2 e; contract = s.contract e; parent = s.parent e };
        renew = by 3;
      }

  shaped : Shaped E
  shaped =
      record {
        few = few;
        node = λ n l. record { count = count-is E ts h n l; place = node-place n (spots n l) };
        branch = branch_shape;
        def = λ d l. (all-defs E 0 0 0 ts h).at d (omega arith) l;
        nesting = nesting;
      }

-- the theorem: what is read hangs together
pub reading_shaped : (s : List ℕ) (K at : ℕ) (E : Entries) → read_sheet s ≡ accepted K at E → Shaped E
reading_shaped s K at E e = let f = sheet_trees s K at E e in shaped E f.few f.trees (forest_planted E f)
