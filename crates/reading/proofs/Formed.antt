-- What follows of the promises: the sheet is well-formed, and its nodes are numbered in order of appearance. Assumes nothing.
use mathlib.Core.Path.{◌≡◌, refl, sym, ap, ap₂, ◌∙◌, subst}
use mathlib.Core.Logic.{by_cases, ⊎_elim}
use Prim.Native.Nat.{ℕ, zero, suc, ◌+◌, ◌-◌, ◌≤◌, ◌<◌}
use native.Mathlib.Omega.{arith}
use native.Mathlib.Decide.{dec_lt, dec_le}
use mathlib.Core.Bool.{Bool, true, false, cond}
use mathlib.Core.List.Memᴰ
use mathlib.Core.List.{List, [], ◌∷◌, ◌++◌, map, Memᴰ}
use lib.ListN.{length, get_or, get_or-eq_default}
use lib.Dec.{eqb, ltb}
use borrow.Author.Tests.{eqb-true, eqb-false, eq-eqb, ne_eqb, lt-ltb, ltb-true}
use Rattle.bitml.specs.Lists.{keep, up_from, below}
use Rattle.bitml.specs.Sheet.{renew_as, branches_at, branch_at, node_at, no_node, parts}
use Rattle.bitml.specs.Promises.{WellFormed}
use Rattle.bitml.specs.Rule.{rank_at}
use Rattle.bitml.proofs.Counting.{keep-none, keep-keep}
use Rattle.bitml.proofs.Lists.{all_of, all-mem, keep_all, keep_imp, up_mem, mem-keep, mem_up}
use Rattle.bitml.proofs.Bound.{inner, Chain, Preorder, rank_bound}
use Rattle.tables.specs.Entries.{Entries, most_nodes, most_branches}
use Rattle.tables.specs.SheetOf.{node_entry_at, branch_entry_at, def_entry_at, branch_numbers, branch_count, branch_number, part_numbers, part_count, action_of, branch_of, sheet_of}
use Rattle.tables.proofs.SheetOf.{defs-are, root_is, nodes-are, node-def, branches-are, count_of, branch_of_lem, branch-small, branch-node, parts_none, parts-split, parts-reveal}
use Rattle.reading.specs.Promises.{Promises, Inside, over}
use Rattle.reading.proofs.Groups.{joined, joined_cong, joined_keep, up-rising, group}
use Rattle.reading.proofs.Order.{end_of, end_after, end-le, kids_chain, kids_all}

-- ---- the parts of a branch are the nodes that name it

pub no_elements : (xs : List ℕ) → length xs ≡ 0 → xs ≡ []
no_elements [] e = refl
no_elements (x ∷ xs) e = absurd (omega arith)

one_element : (xs : List ℕ) (m : ℕ) → length xs ≡ 1 → Memᴰ m xs → xs ≡ m ∷ []
one_element [] m e h = absurd (omega arith)
one_element (x ∷ xs) m e h =
    let z : xs ≡ [] = no_elements xs (omega arith) in
    let y : m ≡ x = Memᴰ.eq_of_singleton (subst (λ ys. Memᴰ m (x ∷ ys)) z h) in
    rw (z, y)

module _ (E : Entries) (b m : ℕ) where
  pub part_in : m < length E.nodes → (node_entry_at E m).parent ≡ b → Memᴰ m (part_numbers E b)
  unfolding part_numbers
  part_in h e = mem-keep (λ n. eqb (node_entry_at E n).parent b) (below (length E.nodes)) (mem_up 0 (length E.nodes) m (omega arith) (omega arith)) (eq-eqb _ _ e)

  pub in_parts : Memᴰ m (part_numbers E b) → (m < length E.nodes) × ((node_entry_at E m).parent ≡ b)
  unfolding part_numbers
  in_parts h =
      let z = all_of (keep_imp (λ n. eqb (node_entry_at E n).parent b) (below (length E.nodes)) (up_mem 0 (length E.nodes))) h in
      (omega (arith, z), eqb-true _ _ (all_of (keep_all (λ n. eqb (node_entry_at E n).parent b) (below (length E.nodes))) h))

-- node m is a contract in branch `place` of an earlier node
pub record Contract (E : Entries) (m : ℕ) : Type 0 where
  pub node : ℕ
  pub place : ℕ
  pub before : node < m
  pub there : place < branch_count E node
  pub part : Memᴰ m (parts (branch_of E (branch_number E node place)).action)

pub place_of : {x : ℕ} (xs : List ℕ) → Memᴰ x xs → (i : ℕ) × (i < length xs) × (get_or xs i 0 ≡ x)
place_of xs (Memᴰ.head {x = y} {xs = ys} p) = (0, omega arith, sym p)
place_of xs (Memᴰ.tail {x = y} {xs = ys} m) = let w = place_of ys m in (suc w.0, omega (arith, w.1), w.2)

number_of : (E : Entries) (b : ℕ) → b < length E.branches → Memᴰ b (branch_numbers E (branch_entry_at E b).node)
unfolding branch_numbers
number_of E b h =
    let n = (branch_entry_at E b).node in
    mem-keep (λ c. eqb (branch_entry_at E c).node n) (below (length E.branches)) (mem_up 0 (length E.branches) b (omega arith) (omega arith)) (eq-eqb n n refl)

-- an entry is a branch of the node that it names
pub branch-place : (E : Entries) (b : ℕ) → b < length E.branches
    → (i : ℕ) × (i < branch_count E (branch_entry_at E b).node) × (branch_number E (branch_entry_at E b).node i ≡ b)
unfolding branch_count branch_number
branch-place E b h = place_of (branch_numbers E (branch_entry_at E b).node) (number_of E b h)

module _ (K : ℕ) (E : Entries) (ok : Promises K E) where
  pub parts-are-nodes : (b : ℕ) → b < length E.branches → parts (branch_of E b).action ≡ part_numbers E b
  unfolding branch_of action_of part_count
  parts-are-nodes b hb = go (branch_entry_at E b).kind refl
    where
      go : (k : ℕ) → (branch_entry_at E b).kind ≡ k → parts (branch_of E b).action ≡ part_numbers E b
      go zero e = parts_none E b e ∙ sym (no_elements _ ((ok.branch b hb).withdraw e).parts)
      go (suc zero) e = parts-split E b e
      go (suc (suc zero)) e =
          let w = (ok.branch b hb).reveal e in
          parts-reveal E b e ∙ sym (one_element (part_numbers E b) (branch_entry_at E b).arg w.parts (part_in E b (branch_entry_at E b).arg w.contract w.parent))
      go (suc (suc (suc k))) e =
          let z : (branch_entry_at E b).kind ≡ 3 = omega (arith, (ok.branch b hb).kind) in
          ap (λ a. parts (action_of E b a)) e ∙ sym (no_elements _ ((ok.branch b hb).renew z).parts)

  -- a node whose parent is a branch is inside it: a root's parent is none
  pub inside : (m : ℕ) → m < length E.nodes → (node_entry_at E m).parent < length E.branches → Inside E m
  inside m h l = ⊎_elim
      (λ e.
      let q = ap (λ n. (node_entry_at E n).parent) e ∙ (ok.def (node_entry_at E m).definition (ok.node m h).definition).top in
      absurd (omega (arith, q, ok.limits.branches)))
      (λ w. w) (ok.node m h).place

  pub parent-small : (n : ℕ) → n < length E.nodes → (node_entry_at E n).parent < most_branches + 1
  parent-small n h =
      ⊎_elim
      (λ e. let q = ap (λ m. (node_entry_at E m).parent) e ∙ (ok.def (node_entry_at E n).definition (ok.node n h).definition).top in omega (arith, q))
      (λ w. omega (arith, w.there, ok.limits.branches))
      (ok.node n h).place

  -- whom a branch pays, how many parts it has, its contract or its definition: a number below 512 in each case
  pub argument_small : (b : ℕ) → b < length E.branches → (branch_entry_at E b).arg < most_nodes
  argument_small b h = go (branch_entry_at E b).kind refl
    where
      go : (k : ℕ) → (branch_entry_at E b).kind ≡ k → (branch_entry_at E b).arg < most_nodes
      go zero e = omega (arith, ((ok.branch b h).withdraw e).payee, ok.limits.people.1)
      go (suc zero) e = let w = (ok.branch b h).split e in omega (arith, w.parts, w.few)
      go (suc (suc zero)) e = omega (arith, ((ok.branch b h).reveal e).contract, ok.limits.nodes)
      go (suc (suc (suc k))) e =
          let z : (branch_entry_at E b).kind ≡ 3 = omega (arith, (ok.branch b h).kind) in
          omega (arith, ((ok.branch b h).renew z).definition, ok.limits.defs.1)

  -- a contract m in branch i of node n: it is a later node, of the same definition
  pub contract_in : (n i m : ℕ) → i < branch_count E n → Memᴰ m (parts (branch_of E (branch_number E n i)).action)
      → (n < m) × (m < length E.nodes) × ((node_entry_at E m).definition ≡ (node_entry_at E n).definition)
  contract_in n i m h hm =
      let b = branch_number E n i in
      let hb = branch-small E n i h in
      let w = in_parts E b m (subst (λ ms. Memᴰ m ms) (parts-are-nodes b hb) hm) in
      let e : (branch_entry_at E (node_entry_at E m).parent).node ≡ n = ap (λ k. (branch_entry_at E k).node) w.1 ∙ branch-node E n i h in
      let u = inside m w.0 (subst (λ k. k < length E.branches) (sym w.1) hb) in
      (subst (λ k. k < m) e u.later, w.0, u.same ∙ ap (λ k. (node_entry_at E k).definition) e)

  -- and each node that is inside a branch is such a contract
  pub contract_of_lem : (m : ℕ) → m < length E.nodes → Inside E m → Contract E m
  contract_of_lem m h w =
      let b = (node_entry_at E m).parent in
      let n = (branch_entry_at E b).node in
      let i = branch-place E b w.there in
      record {
        node = n;
        place = i.0;
        before = w.later;
        there = i.1;
        part =
            subst (λ k. Memᴰ m (parts (branch_of E k).action)) (sym i.2) (subst (λ ms. Memᴰ m ms) (sym (parts-are-nodes b w.there)) (part_in E b m h refl));
      }

  -- ---- well-formed

  pub in_nodes : (n b : ℕ) → b < length (branches_at (sheet_of K E) n) → n < length E.nodes
  in_nodes n b h = by_cases (dec_lt n (length E.nodes)) (λ a. a) (λ a.
      let e = get_or-eq_default (sheet_of K E).nodes no_node {n = n} (omega (arith, nodes-are K E)) in
      let h' : b < 0 = subst (λ nd. b < length nd.branches) e h in absurd (omega arith))

  pub in_branches : (n b : ℕ) → b < length (branches_at (sheet_of K E) n) → b < branch_count E n
  in_branches n b h = subst (λ k. b < k) (count_of K E n (in_nodes n b h)) h

  contract : (n b m : ℕ) → b < length (branches_at (sheet_of K E) n) → Memᴰ m (parts (branch_at (sheet_of K E) n b).action)
      → (n < m) × (m < length E.nodes) × ((node_entry_at E m).definition ≡ (node_entry_at E n).definition)
  contract n b m h hm =
      let hb = in_branches n b h in
      contract_in n b m hb (subst (λ br. Memᴰ m (parts br.action)) (branch_of_lem K E n b (in_nodes n b h) hb) hm)

  renewal-is : (b d k : ℕ) → b < length E.branches → (branch_entry_at E b).kind ≡ k → action_of E b k ≡ renew_as d → d < length E.defs
  unfolding action_of
  renewal-is b d zero h e q = absurd (let z : ◌≡◌ {A = ℕ} 0 1 = cc in omega arith)
  renewal-is b d (suc zero) h e q = absurd (let z : ◌≡◌ {A = ℕ} 0 1 = cc in omega arith)
  renewal-is b d (suc (suc zero)) h e q = absurd (let z : ◌≡◌ {A = ℕ} 0 1 = cc in omega arith)
  renewal-is b d (suc (suc (suc k))) h e q =
      let z : (branch_entry_at E b).kind ≡ 3 = omega (arith, (ok.branch b h).kind) in
      let y : (branch_entry_at E b).arg ≡ d = cc in
      subst (λ k. k < length E.defs) y ((ok.branch b h).renew z).definition

  pub well_formed_lem : WellFormed (sheet_of K E)
  unfolding branch_of
  well_formed_lem = record {
    some-def = omega (arith, defs-are K E, ok.limits.defs.0);
    part_after = λ n b m h hm. let w = contract n b m h hm in (w.0, subst (λ k. m < k) (sym (nodes-are K E)) w.1);
    part_of = λ n b m h hm. let w = contract n b m h hm in node-def K E m w.1 ∙ w.2 ∙ sym (node-def K E n (in_nodes n b h));
    root_in = λ d h.
        let hd = subst (λ k. d < k) (defs-are K E) h in
        omega (arith, (ok.def d hd).root, nodes-are K E, root_is K E d hd);
    root_of = λ d h.
        let hd = subst (λ k. d < k) (defs-are K E) h in
        let w = ok.def d hd in
        ap (λ n. (node_at (sheet_of K E) n).definition) (root_is K E d hd) ∙ node-def K E (def_entry_at E d).root w.root ∙ w.own;
    renewal_in = λ n b d h e.
        let hb = in_branches n b h in
        let r = branch_number E n b in
        subst (λ k. d < k) (sym (defs-are K E))
        (renewal-is r d (branch_entry_at E r).kind (branch-small E n b hb) refl (ap (λ br. br.action) (sym (branch_of_lem K E n b (in_nodes n b h) hb)) ∙ e));
  }

  -- ---- in order of appearance

  over_of : (m b : ℕ) → (node_entry_at E m).parent ≡ b → b < length E.branches → over E m ≡ suc (branch_entry_at E b).node
  unfolding over
  over_of m b e h =
      let q : ltb (node_entry_at E m).parent (length E.branches) ≡ true = ap (λ k. ltb k (length E.branches)) e ∙ lt-ltb b (length E.branches) h in
      ap (λ c. cond c (suc (branch_entry_at E (node_entry_at E m).parent).node) 0) q ∙ ap (λ k. suc (branch_entry_at E k).node) e

  over_to : (m n : ℕ) → over E m ≡ suc n → ((node_entry_at E m).parent < length E.branches) × ((branch_entry_at E (node_entry_at E m).parent).node ≡ n)
  unfolding over
  over_to m n e = go (ltb (node_entry_at E m).parent (length E.branches)) refl e
    where
      go : (b : Bool) → ltb (node_entry_at E m).parent (length E.branches) ≡ b → cond b (suc (branch_entry_at E (node_entry_at E m).parent).node) 0 ≡ suc n
          → ((node_entry_at E m).parent < length E.branches) × ((branch_entry_at E (node_entry_at E m).parent).node ≡ n)
      go true q e = (ltb-true _ _ q, omega arith)
      go false q e = absurd (omega arith)

  over-up : (m : ℕ) → m < length E.nodes → over E m ≤ m
  over-up m h = by_cases (dec_le (over E m) 0) (λ a. omega arith) (λ a.
      let q : over E m ≡ suc (over E m - 1) = omega arith in
      let w = over_to m (over E m - 1) q in
      omega (arith, (inside m h w.0).later, w.1))

  inner_is : (bs : List ℕ) → ((b : ℕ) → Memᴰ b bs → b < length E.branches) → inner (map (branch_of E) bs) ≡ joined (part_numbers E) bs
  inner_is [] f = refl
  inner_is (b ∷ bs) f = ap₂ (λ xs ys. xs ++ ys) (parts-are-nodes b (f b (Memᴰ.head refl))) (inner_is bs (λ c m. f c (Memᴰ.tail m)))

  module _ (n : ℕ) where
    in_kids : (m : ℕ) → Memᴰ m (keep (λ m. eqb (over E m) (suc n)) (below (length E.nodes))) → (m < length E.nodes) × (over E m ≡ suc n)
    in_kids m h =
        let w = all_of (keep_imp (λ m. eqb (over E m) (suc n)) (below (length E.nodes)) (up_mem 0 (length E.nodes))) h in
        (omega (arith, w), eqb-true _ _ (all_of (keep_all (λ m. eqb (over E m) (suc n)) (below (length E.nodes))) h))

    number_in : (b : ℕ) → Memᴰ b (branch_numbers E n) → (b < length E.branches) × ((branch_entry_at E b).node ≡ n)
    unfolding branch_numbers
    number_in b h =
        let w = all_of (keep_imp (λ b. eqb (branch_entry_at E b).node n) (below (length E.branches)) (up_mem 0 (length E.branches))) h in
        (omega (arith, w), eqb-true _ _ (all_of (keep_all (λ b. eqb (branch_entry_at E b).node n) (below (length E.branches))) h))

    -- the contracts in the branches of n, in order
    kids_are : joined (part_numbers E) (branch_numbers E n) ≡ keep (λ m. eqb (over E m) (suc n)) (below (length E.nodes))
    unfolding part_numbers branch_numbers
    kids_are =
        let T : ℕ → Bool = λ m. eqb (over E m) (suc n) in
        let ks = keep T (below (length E.nodes)) in
        joined_cong (part_numbers E) (λ b. keep (λ m. eqb (node_entry_at E m).parent b) ks) (branch_numbers E n)
        (λ b hb. let r = number_in b hb in
        sym (keep-keep T (λ m. eqb (node_entry_at E m).parent b) (below (length E.nodes)) (λ m e hm. eq-eqb (over E m) (suc n) (over_of m b (eqb-true _ _ e) r.0 ∙ ap suc r.1))))
        ∙ joined_keep (λ b. eqb (branch_entry_at E b).node n) (λ b. keep (λ m. eqb (node_entry_at E m).parent b) ks) (below (length E.branches))
        (λ b e. keep-none (λ m. eqb (node_entry_at E m).parent b) ks (all-mem (λ m. eqb (node_entry_at E m).parent b ≡ false) ks λ m hm.
        ne_eqb (node_entry_at E m).parent b (λ q. eqb-false (branch_entry_at E b).node n e (ap (λ k. (branch_entry_at E k).node) (sym q) ∙ (over_to m n (in_kids m hm).1).1))))
        ∙ group (λ m. (node_entry_at E m).parent) (length E.branches) 0 ks
        (up-rising (λ m. (node_entry_at E m).parent) T 0 (length E.nodes) (λ m l a b u v. ok.nesting.ordered m l n a (omega arith) (eqb-true _ _ u) (eqb-true _ _ v)))
        (all-mem (λ m. (0 ≤ (node_entry_at E m).parent) × ((node_entry_at E m).parent < 0 + length E.branches)) ks λ m hm. let w = over_to m n (in_kids m hm).1 in (omega arith, omega (arith, w.0)))

  pub preorder : Preorder (sheet_of K E)
  preorder =
      let N = length E.nodes in
      record {
        end = end_of (over E) N;
        after = end_after (over E) N over-up ok.nesting.between;
        inside = λ n h'.
            let h : n < N = subst (λ k. n < k) (nodes-are K E) h' in
            let e : inner (branches_at (sheet_of K E) n) ≡ keep (λ j. eqb (over E j) (suc n)) (up_from (suc n) (end_of (over E) N n - suc n)) =
            ap inner (branches-are K E n h) ∙ inner_is (branch_numbers E n) (λ b m. (number_in n b m).0) ∙ kids_are n ∙ kids_all (over E) N over-up ok.nesting.between n h in (
              subst (λ ms. Chain (end_of (over E) N) (suc n) ms (end_of (over E) N n)) (sym e) (kids_chain (over E) N over-up ok.nesting.between n h),
              subst (λ k. end_of (over E) N n ≤ k) (sym (nodes-are K E)) (end-le (over E) N over-up ok.nesting.between n h),
            );
      }

  -- so that no rank is above the number of nodes
  pub ranks_small : (p n : ℕ) → rank_at (sheet_of K E) p n ≤ length E.nodes
  ranks_small p n = omega (arith, nodes-are K E, rank_bound (sheet_of K E) well_formed_lem preorder p n)
