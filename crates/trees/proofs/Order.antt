-- The order in which the nodes of a tree stand: each after the node in whose branch it is, and all that is in a branch together. Assumes nothing.
use Prim.Native.Nat.{ℕ, suc, ◌+◌, ◌≤◌, ◌<◌}
use mathlib.Core.Path.{◌≡◌, ap, sym, ◌∙◌}
use native.Mathlib.Omega.{arith}
use Rattle.tables.specs.Entries.{Entries}
use Rattle.tables.specs.SheetOf.{node_entry_at, branch_entry_at}
use Rattle.trees.specs.Tree.{Kind, one, many, parts, Tree, pay, renew, split, reveal, end, also, last, weigh, nodes_in, branches_in}
use Rattle.trees.proofs.Stands.{HasNode, HasBranch, Stands}
use Rattle.trees.proofs.Ranges.{Each, each_none, each_first, each-join, each_to, each_map, Pairs, pairs_none, pairs_first, pairs_join, pairs_to}

-- the node in whose branch node i is
unfoldable pub holder : Entries → ℕ → ℕ
holder E i = (branch_entry_at E (node_entry_at E i).parent).node

holder_is : (E : Entries) {n d p w c : ℕ} → HasNode E n d p w c → holder E n ≡ (branch_entry_at E p).node
unfolding holder
holder_is E h = ap (λ b. (branch_entry_at E b).node) h.parent

-- node i of a tree at node v, its nodes from n on and its branches up to `to`: it is a contract of definition d in a branch from `from`
-- on, of v or of an earlier node of the tree
pub record Lies (E : Entries) (v from n to d i : ℕ) : Type 0 where
  pub home : (node_entry_at E i).definition ≡ d
  pub from_here : from ≤ (node_entry_at E i).parent
  pub to_here : (node_entry_at E i).parent < to
  pub under : v ≤ holder E i
  pub before : holder E i < i
  pub only : holder E i < n → holder E i ≤ v

lies_in : {E : Entries} {v from n to d i : ℕ} (v' from' n' to' : ℕ) → Lies E v from n to d i → v' ≤ v → from' ≤ from → to ≤ to' → (holder E i < n' → holder E i ≤ v')
    → Lies E v' from' n' to' d i
lies_in v' from' n' to' h a b c f =
    record { home = h.home; from_here = omega (arith, h.from_here, b); to_here = omega (arith, h.to_here, c); under = omega (arith, h.under, a); before = h.before; only = f }

-- the node at hand, and the first branch that holds contracts; parts are of an earlier branch
unfoldable owner : Entries → Kind → ℕ → ℕ
owner E one m = m
owner E many m = m
owner E parts m = (branch_entry_at E m).node

unfoldable first_branch : Kind → ℕ → ℕ → ℕ
first_branch one m b = b
first_branch many m b = b
first_branch parts m b = m

unfoldable Earlier : Kind → ℕ → ℕ → Type 0
Earlier one m b = Unit {0}
Earlier many m b = Unit {0}
Earlier parts m b = m < b

module _ (E : Entries) (d : ℕ) where
  tree_lies : {k : Kind} (m n b : ℕ) (x : Tree k) → Stands E d m n b x → owner E k m < n → Earlier k m b
      → Each (Lies E (owner E k m) (first_branch k m b) n (b + branches_in x) d) n (n + nodes_in x)
  unfolding Stands nodes_in branches_in owner first_branch Earlier
  tree_lies m n b (pay g t p) h l q = each_none (omega arith)
  tree_lies m n b (renew g t p) h l q = each_none (omega arith)
  tree_lies m n b (split g t ps) h l q =
      let e : (branch_entry_at E b).node ≡ m = h.0.node in
      each_map (tree_lies b n (suc b) ps h.1 (omega (arith, e, l)) (omega arith)) λ i p r s.
      lies_in m b n _ s (omega (arith, e)) (omega arith) (omega arith) λ z. let y = s.only z in omega (arith, y, e)
  tree_lies m n b (reveal g t f c o x) h l q =
      let e : holder E n ≡ m = holder_is E h.1 ∙ h.0.node in
      let p : (node_entry_at E n).parent ≡ b = h.1.parent in
      let here : Lies E m b n (b + suc (branches_in x)) d n
      = record { home = h.1.definition; from_here = omega (arith, p); to_here = omega (arith, p); under = omega (arith, e); before = omega (arith, e, l); only = λ z. omega (arith, e) } in
      each_first here
      (each_to _
      (each_map (tree_lies n (suc n) (suc b) x h.2 (omega arith) tt) λ i p r s.
      lies_in m b n _ s (omega (arith, l)) (omega arith) (omega arith) λ z. let y = s.under in omega (arith, y, z))
      (omega arith))
  tree_lies m n b end h l q = each_none (omega arith)
  tree_lies m n b (also x xs) h l q =
      each_to _
      (each-join
      (each_map (tree_lies m n b x h.0 l tt) λ i p r s. lies_in m b n _ s (omega arith) (omega arith) (omega arith) s.only)
      (each_map (tree_lies m (n + nodes_in x) (b + branches_in x) xs h.1 (omega (arith, l)) tt) λ i p r s.
      lies_in m b n _ s (omega arith) (omega arith) (omega arith) λ z. s.only (omega (arith, z))))
      (omega arith)
  tree_lies m n b last h l q = each_none (omega arith)
  tree_lies m n b (weigh w x ps) h l q =
      let v : ℕ = (branch_entry_at E m).node in
      let e : holder E n ≡ v = holder_is E h.0 in
      let p : (node_entry_at E n).parent ≡ m = h.0.parent in
      let here : Lies E v m n (b + (branches_in x + branches_in ps)) d n
      = record { home = h.0.definition; from_here = omega (arith, p); to_here = omega (arith, p, q); under = omega (arith, e); before = omega (arith, e, l); only = λ z. omega (arith, e) } in
      each_first here
      (each_to _
      (each-join
      (each_map (tree_lies n (suc n) b x h.1 (omega arith) tt) λ i p r s.
      lies_in v m n _ s (omega (arith, l)) (omega (arith, q)) (omega arith) λ z. let y = s.under in omega (arith, y, z))
      (each_map (tree_lies m (suc n + nodes_in x) (b + branches_in x) ps h.2 (omega (arith, l)) (omega (arith, q))) λ i p r s.
      lies_in v m n _ s (omega arith) (omega arith) (omega arith) λ z. s.only (omega (arith, z))))
      (omega arith))

-- what is between a node and a contract in its branches is below it, and its contracts stand in the order of the branches
pub record Nested (E : Entries) (k l : ℕ) : Type 0 where
  pub between : holder E l < k → holder E l ≤ holder E k
  pub ordered : holder E k ≡ holder E l → (node_entry_at E k).parent ≤ (node_entry_at E l).parent

-- l is below n
nested_below : (E : Entries) {n from first to d l : ℕ} → holder E n < n → Lies E n from first to d l → Nested E n l
nested_below E h s =
    record { between = λ z. let y = s.under in absurd (omega (arith, y, z)); ordered = λ z. let y = s.under in absurd (omega (arith, y, z, h)) }

module _ (E : Entries) (d : ℕ) where
  tree_nested : {k : Kind} (m n b : ℕ) (x : Tree k) → Stands E d m n b x → owner E k m < n → Earlier k m b → Pairs (Nested E) n (n + nodes_in x)
  unfolding Stands nodes_in owner first_branch Earlier
  tree_nested m n b (pay g t p) h l q = pairs_none (omega arith)
  tree_nested m n b (renew g t p) h l q = pairs_none (omega arith)
  tree_nested m n b (split g t ps) h l q = let e : (branch_entry_at E b).node ≡ m = h.0.node in tree_nested b n (suc b) ps h.1 (omega (arith, e, l)) (omega arith)
  tree_nested m n b (reveal g t f c o x) h l q =
      let e : holder E n ≡ m = holder_is E h.1 ∙ h.0.node in
      pairs_first (each_to _ (each_map (tree_lies E d n (suc n) (suc b) x h.2 (omega arith) tt) λ i p r s. nested_below E (omega (arith, e, l)) s) (omega arith))
      (pairs_to _ (tree_nested n (suc n) (suc b) x h.2 (omega arith) tt) (omega arith))
  tree_nested m n b end h l q = pairs_none (omega arith)
  tree_nested m n b (also x xs) h l q =
      let a = tree_lies E d m n b x h.0 l tt in
      let c = tree_lies E d m (n + nodes_in x) (b + branches_in x) xs h.1 (omega (arith, l)) tt in
      pairs_to _
      (pairs_join (tree_nested m n b x h.0 l tt) (tree_nested m (n + nodes_in x) (b + branches_in x) xs h.1 (omega (arith, l)) tt) λ i j p r s u.
      let y = a.at i p r in
      let z = c.at j s u in
      record { between = λ v. let w = z.only (omega (arith, v, r)) in let o = y.under in omega (arith, w, o); ordered = λ v. let w = y.to_here in let o = z.from_here in omega (arith, w, o) })
      (omega arith)
  tree_nested m n b last h l q = pairs_none (omega arith)
  tree_nested m n b (weigh w x ps) h l q =
      let e : holder E n ≡ (branch_entry_at E m).node = holder_is E h.0 in
      let f : (node_entry_at E n).parent ≡ m = h.0.parent in
      let a = tree_lies E d n (suc n) b x h.1 (omega arith) tt in
      let c = tree_lies E d m (suc n + nodes_in x) (b + branches_in x) ps h.2 (omega (arith, l)) (omega (arith, q)) in
      pairs_first
      (each_to _
      (each-join (each_map a λ i p r s. nested_below E (omega (arith, e, l)) s)
      (each_map c λ j p r z.
      record { between = λ v. let w = z.only (omega (arith, v)) in omega (arith, w, e); ordered = λ v. let w = z.from_here in omega (arith, w, f) }))
      (omega arith))
      (pairs_to _
      (pairs_join (tree_nested n (suc n) b x h.1 (omega arith) tt) (tree_nested m (suc n + nodes_in x) (b + branches_in x) ps h.2 (omega (arith, l)) (omega (arith, q))) λ i j p r s u.
      let y = a.at i p r in
      let z = c.at j s u in
      let under = y.under in
      let before = y.before in
      record { between = λ v. let w = z.only (omega (arith, v, r)) in omega (arith, w, under, l); ordered = λ v. let w = z.only (omega (arith, v, before, r)) in absurd (omega (arith, w, under, v, l)) })
      (omega arith))

-- branch j is of a node below `to`; and if it is an `r`, its argument is such a node, whose parent it is
pub record Names (E : Entries) (to j : ℕ) : Type 0 where
  pub node : (branch_entry_at E j).node < to
  pub contract : (branch_entry_at E j).kind ≡ 2 → (branch_entry_at E j).arg < to
  pub parent : (branch_entry_at E j).kind ≡ 2 → (node_entry_at E (branch_entry_at E j).arg).parent ≡ j

pub names_to : {E : Entries} {to j : ℕ} (to' : ℕ) → Names E to j → to ≤ to' → Names E to' j
names_to to' h l = record { node = omega (arith, h.node, l); contract = λ e. let c = h.contract e in omega (arith, c, l); parent = h.parent }

names_other : (E : Entries) (to : ℕ) {b m k a : ℕ} → HasBranch E b m k a → m < to → (k ≡ 2 → ⊥) → Names E to b
names_other E to h l ne =
    record { node = omega (arith, h.node, l); contract = λ e. absurd (ne (sym h.kind ∙ e)); parent = λ e. absurd (ne (sym h.kind ∙ e)) }

module _ (E : Entries) (d : ℕ) where
  tree_branches : {k : Kind} (m n b : ℕ) (x : Tree k) → Stands E d m n b x → owner E k m < n → Each (Names E (n + nodes_in x)) b (b + branches_in x)
  unfolding Stands nodes_in branches_in owner
  tree_branches m n b (pay g t p) h l = each_first (names_other E _ h (omega (arith, l)) (λ e. omega (arith, e))) (each_none (omega arith))
  tree_branches m n b (renew g t p) h l = each_first (names_other E _ h (omega (arith, l)) (λ e. omega (arith, e))) (each_none (omega arith))
  tree_branches m n b (split g t ps) h l =
      let e : (branch_entry_at E b).node ≡ m = h.0.node in
      each_first (names_other E _ h.0 (omega (arith, l)) (λ e. omega (arith, e))) (each_to _ (tree_branches b n (suc b) ps h.1 (omega (arith, e, l))) (omega arith))
  tree_branches m n b (reveal g t f c o x) h l =
      let e : (branch_entry_at E b).node ≡ m = h.0.node in
      let a : (branch_entry_at E b).arg ≡ n = h.0.arg in
      let here : Names E (n + suc (nodes_in x)) b
      = record { node = omega (arith, e, l); contract = λ z. omega (arith, a); parent = λ z. ap (λ i. (node_entry_at E i).parent) a ∙ h.1.parent } in
      each_first here (each_to _ (each_map (tree_branches n (suc n) (suc b) x h.2 (omega arith)) λ j p r s. names_to _ s (omega arith)) (omega arith))
  tree_branches m n b end h l = each_none (omega arith)
  tree_branches m n b (also x xs) h l =
      each_to _
      (each-join (each_map (tree_branches m n b x h.0 l) λ j p r s. names_to _ s (omega arith))
      (each_map (tree_branches m (n + nodes_in x) (b + branches_in x) xs h.1 (omega (arith, l))) λ j p r s. names_to _ s (omega arith)))
      (omega arith)
  tree_branches m n b last h l = each_none (omega arith)
  tree_branches m n b (weigh w x ps) h l =
      each_to _
      (each-join (each_map (tree_branches n (suc n) b x h.1 (omega arith)) λ j p r s. names_to _ s (omega arith))
      (each_map (tree_branches m (suc n + nodes_in x) (b + branches_in x) ps h.2 (omega (arith, l))) λ j p r s. names_to _ s (omega arith)))
      (omega arith)

-- of a whole contract, whose root is n
module _ (E : Entries) (d n b : ℕ) (x : Tree many) (h : Stands E d n (suc n) b x) where
  pub contract_lies : Each (Lies E n b (suc n) (b + branches_in x) d) (suc n) (suc n + nodes_in x)
  unfolding owner first_branch Earlier
  contract_lies = tree_lies E d n (suc n) b x h (omega arith) tt

  pub contract_nested : Pairs (Nested E) (suc n) (suc n + nodes_in x)
  unfolding owner Earlier
  contract_nested = tree_nested E d n (suc n) b x h (omega arith) tt

  pub contract-branches : Each (Names E (suc n + nodes_in x)) b (b + branches_in x)
  unfolding owner
  contract-branches = tree_branches E d n (suc n) b x h (omega arith)
