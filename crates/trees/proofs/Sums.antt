-- Counts of branches and of parts, and sums of weights, in entries where trees stand. Assumes nothing.
use Prim.Native.Nat.{ℕ, zero, suc, ◌+◌, ◌≤◌, ◌<◌}
use mathlib.Core.Path.{◌≡◌, refl, sym, ◌∙◌}
use mathlib.Core.List.{List, [], ◌∷◌, map}
use lib.ListN.{length}
use lib.Dec.{eqb}
use native.Mathlib.Omega.{arith}
use Rattle.bitml.specs.Lists.{sum}
use Rattle.tables.specs.Entries.{Entries}
use Rattle.tables.specs.SheetOf.{node_entry_at, branch_entry_at, branch_numbers, branch_count, part_numbers, part_count}
use Rattle.reading.specs.Promises.{no_parent}
use Rattle.trees.specs.Tree.{Kind, one, many, parts, Tree, pay, renew, split, reveal, end, also, last, weigh, size, weights, Weighed, nodes_in, branches_in}
use Rattle.trees.specs.Listing.{DefTree}
use Rattle.trees.proofs.Stands.{HasNode, HasBranch, Stands, Planted}
use Rattle.trees.proofs.Ranges.{Each, each_none, each_first, each-join, each_to, each_map, only, only_none, only-add, only_same, only-other, total, total-add, total-only, length-keep, sum-keep}

-- how many nodes the trees list, and how many branches
unfoldable pub all_nodes : List DefTree → ℕ
all_nodes [] = 0
all_nodes (t ∷ ts) = suc (nodes_in t.contract + all_nodes ts)

unfoldable pub all_branches : List DefTree → ℕ
all_branches [] = 0
all_branches (t ∷ ts) = branches_in t.contract + all_branches ts

-- the branches of the node at hand that a tree lists, and the parts of the branch at hand
unfoldable own : (k : Kind) → Tree k → ℕ
own one x = 1
own many x = size x
own parts x = 0

unfoldable shares : (k : Kind) → Tree k → ℕ
shares one x = 0
shares many x = 0
shares parts x = size x

-- how many parts: of a split its number, of an `r` one
unfoldable pub arity_of : ℕ → ℕ → ℕ
arity_of zero n = 0
arity_of (suc zero) n = n
arity_of (suc (suc zero)) n = 1
arity_of (suc (suc (suc k))) n = 0

module _ (E : Entries) (i : ℕ) where
  -- does branch j name node i, and the count of node i; is node j a part of branch i, with which weight, and the arity of branch i
  unfoldable names : ℕ → ℕ
  names j = only (eqb (branch_entry_at E j).node i) 1

  unfoldable counts : ℕ → ℕ
  counts j = only (eqb j i) (node_entry_at E j).count

  unfoldable share : ℕ → ℕ
  share j = only (eqb (node_entry_at E j).parent i) 1

  unfoldable weight : ℕ → ℕ
  weight j = only (eqb (node_entry_at E j).parent i) (node_entry_at E j).weight

  unfoldable arity : ℕ → ℕ
  arity j = only (eqb j i) (arity_of (branch_entry_at E j).kind (branch_entry_at E j).arg)

  names_is : {b m k a : ℕ} → HasBranch E b m k a → names b ≡ only (eqb m i) 1
  unfolding names
  names_is h = rw h.node

  counts-is : {n d p w c : ℕ} → HasNode E n d p w c → counts n ≡ only (eqb n i) c
  unfolding counts
  counts-is h = rw h.count

  share_is : {n d p w c : ℕ} → HasNode E n d p w c → share n ≡ only (eqb p i) 1
  unfolding share
  share_is h = rw h.parent

  weight_is : {n d p w c : ℕ} → HasNode E n d p w c → weight n ≡ only (eqb p i) w
  unfolding weight
  weight_is h = rw (h.parent, h.weight)

  arity_is : {b m k a : ℕ} → HasBranch E b m k a → arity b ≡ only (eqb b i) (arity_of k a)
  unfolding arity
  arity_is h = rw (h.kind, h.arg)

-- ---- as many branches name a node as its count says

module _ (E : Entries) (i : ℕ) where
  tree_names : {k : Kind} (d m n b : ℕ) (x : Tree k) → Stands E d m n b x → total (names E i) b (branches_in x) ≡ only (eqb m i) (own k x) + total (counts E i) n (nodes_in x)
  unfolding Stands branches_in nodes_in own size total
  tree_names d m n b (pay g t p) h = let e = names_is E i h in omega (arith, e)
  tree_names d m n b (renew g t p) h = let e = names_is E i h in omega (arith, e)
  tree_names d m n b (split g t ps) h =
      let e = names_is E i h.0 in let r = tree_names d b n (suc b) ps h.1 in let z = only_none (eqb b i) in omega (arith, e, r, z)
  tree_names d m n b (reveal g t f c o x) h =
      let e = names_is E i h.0 in let c = counts-is E i h.1 in let r = tree_names d n (suc n) (suc b) x h.2 in omega (arith, e, c, r)
  tree_names d m n b end h = let z = only_none (eqb m i) in omega (arith, z)
  tree_names d m n b (also x xs) h =
      let r = tree_names d m n b x h.0 in
      let q = tree_names d m (n + nodes_in x) (b + branches_in x) xs h.1 in
      let s = total-add (names E i) b (branches_in x) (branches_in xs) in
      let u = total-add (counts E i) n (nodes_in x) (nodes_in xs) in
      let a = only-add (eqb m i) 1 (size xs) in
      let e : 1 + size xs ≡ suc (size xs) = omega arith in
      let v : only (eqb m i) (suc (size xs)) ≡ only (eqb m i) 1 + only (eqb m i) (size xs) = rw (← e) a in
      omega (arith, r, q, s, u, v)
  tree_names d m n b last h = let z = only_none (eqb m i) in omega (arith, z)
  tree_names d m n b (weigh w x ps) h =
      let c = counts-is E i h.0 in
      let r = tree_names d n (suc n) b x h.1 in
      let q = tree_names d m (suc n + nodes_in x) (b + branches_in x) ps h.2 in
      let s = total-add (names E i) b (branches_in x) (branches_in ps) in
      let u = total-add (counts E i) (suc n) (nodes_in x) (nodes_in ps) in
      omega (arith, c, r, q, s, u)

  all_names : (d n b : ℕ) (ts : List DefTree) → Planted E d n b ts → total (names E i) b (all_branches ts) ≡ total (counts E i) n (all_nodes ts)
  unfolding Planted all_branches all_nodes own total
  all_names d n b [] h = refl
  all_names d n b (t ∷ ts) h =
      let c = counts-is E i h.1 in
      let r = tree_names d n (suc n) b t.contract h.2 in
      let q = all_names (suc d) (suc n + nodes_in t.contract) (b + branches_in t.contract) ts h.4 in
      let s = total-add (names E i) b (branches_in t.contract) (all_branches ts) in
      let u = total-add (counts E i) (suc n) (nodes_in t.contract) (all_nodes ts) in
      omega (arith, c, r, q, s, u)

-- ---- a branch has as many parts as its action says

module _ (E : Entries) (i : ℕ) where
  tree_shares : {k : Kind} (d m n b : ℕ) (x : Tree k) → Stands E d m n b x → total (share E i) n (nodes_in x) ≡ only (eqb m i) (shares k x) + total (arity E i) b (branches_in x)
  unfolding Stands branches_in nodes_in shares size total arity_of
  tree_shares d m n b (pay g t p) h = let e = arity_is E i h in let z = only_none (eqb m i) in let y = only_none (eqb b i) in omega (arith, e, z, y)
  tree_shares d m n b (renew g t p) h = let e = arity_is E i h in let z = only_none (eqb m i) in let y = only_none (eqb b i) in omega (arith, e, z, y)
  tree_shares d m n b (split g t ps) h =
      let e = arity_is E i h.0 in let r = tree_shares d b n (suc b) ps h.1 in let z = only_none (eqb m i) in omega (arith, e, r, z)
  tree_shares d m n b (reveal g t f c o x) h =
      let e = arity_is E i h.0 in
      let s = share_is E i h.1 in
      let r = tree_shares d n (suc n) (suc b) x h.2 in
      let z = only_none (eqb m i) in
      let y = only_none (eqb n i) in
      omega (arith, e, s, r, z, y)
  tree_shares d m n b end h = let z = only_none (eqb m i) in omega (arith, z)
  tree_shares d m n b (also x xs) h =
      let r = tree_shares d m n b x h.0 in
      let q = tree_shares d m (n + nodes_in x) (b + branches_in x) xs h.1 in
      let s = total-add (arity E i) b (branches_in x) (branches_in xs) in
      let u = total-add (share E i) n (nodes_in x) (nodes_in xs) in
      let z = only_none (eqb m i) in
      omega (arith, r, q, s, u, z)
  tree_shares d m n b last h = let z = only_none (eqb m i) in omega (arith, z)
  tree_shares d m n b (weigh w x ps) h =
      let e = share_is E i h.0 in
      let r = tree_shares d n (suc n) b x h.1 in
      let q = tree_shares d m (suc n + nodes_in x) (b + branches_in x) ps h.2 in
      let s = total-add (arity E i) b (branches_in x) (branches_in ps) in
      let u = total-add (share E i) (suc n) (nodes_in x) (nodes_in ps) in
      let z = only_none (eqb n i) in
      let a = only-add (eqb m i) 1 (size ps) in
      let c : 1 + size ps ≡ suc (size ps) = omega arith in
      let v : only (eqb m i) (suc (size ps)) ≡ only (eqb m i) 1 + only (eqb m i) (size ps) = rw (← c) a in
      omega (arith, e, r, q, s, u, z, v)

  all-shares : (no_parent ≡ i → ⊥) → (d n b : ℕ) (ts : List DefTree) → Planted E d n b ts → total (share E i) n (all_nodes ts) ≡ total (arity E i) b (all_branches ts)
  unfolding Planted all_branches all_nodes shares total
  all-shares ne d n b [] h = refl
  all-shares ne d n b (t ∷ ts) h =
      let e = share_is E i h.1 in
      let o = only-other no_parent i 1 ne in
      let r = tree_shares d n (suc n) b t.contract h.2 in
      let q = all-shares ne (suc d) (suc n + nodes_in t.contract) (b + branches_in t.contract) ts h.4 in
      let s = total-add (arity E i) b (branches_in t.contract) (all_branches ts) in
      let u = total-add (share E i) (suc n) (nodes_in t.contract) (all_nodes ts) in
      let z = only_none (eqb n i) in
      omega (arith, e, o, r, q, s, u, z)

-- ---- the weights of a split's parts don't add to 0

-- the weights of the parts of branch i are among those of the nodes
tree_weights : (E : Entries) (i d n b : ℕ) (x : Tree parts) → Stands E d i n b x → weights x ≤ total (weight E i) n (nodes_in x)
unfolding Stands nodes_in weights total
tree_weights E i d n b last h = omega arith
tree_weights E i d n b (weigh w x ps) h =
    let e = weight_is E i h.0 in
    let o = only_same i w in
    let r = tree_weights E i d (suc n + nodes_in x) (b + branches_in x) ps h.2 in
    let u = total-add (weight E i) (suc n) (nodes_in x) (nodes_in ps) in
    omega (arith, e, o, r, u)

-- if branch j is a split, then its parts among some nodes have weights that don't add to 0
abbrev Positive : Entries → ℕ → ℕ → ℕ → Type 0
Positive E n c j = (branch_entry_at E j).kind ≡ 1 → 0 < total (weight E j) n c

not-split : (E : Entries) (n c b m k a : ℕ) → HasBranch E b m k a → (k ≡ 1 → ⊥) → Positive E n c b
not-split E n c b m k a h ne e = absurd (ne (sym h.kind ∙ e))

tree_weighs : {k : Kind} (E : Entries) (d m n b : ℕ) (x : Tree k) → Stands E d m n b x → Weighed x → Each (Positive E n (nodes_in x)) b (b + branches_in x)
unfolding Stands nodes_in branches_in Weighed total
tree_weighs E d m n b (pay g t p) h w = each_first (not-split E n 0 b m 0 p h (λ e. omega (arith, e))) (each_none (omega arith))
tree_weighs E d m n b (renew g t p) h w = each_first (not-split E n 0 b m 3 p h (λ e. omega (arith, e))) (each_none (omega arith))
tree_weighs E d m n b (split g t ps) h w =
    let q : Positive E n (nodes_in ps) b = λ e. let l = tree_weights E b d n (suc b) ps h.1 in omega (arith, l, w.0) in
    each_first q (each_to _ (tree_weighs E d b n (suc b) ps h.1 w.1) (omega arith))
tree_weighs E d m n b (reveal g t f c o x) h w =
    each_first (not-split E n (suc (nodes_in x)) b m 2 n h.0 (λ e. omega (arith, e)))
    (each_to _ (each_map (tree_weighs E d n (suc n) (suc b) x h.2 w) λ j p q r e. let l = r e in omega (arith, l)) (omega arith))
tree_weighs E d m n b end h w = each_none (omega arith)
tree_weighs E d m n b (also x xs) h w =
    let u : (j : ℕ) → total (weight E j) n (nodes_in x + nodes_in xs) ≡ total (weight E j) n (nodes_in x) + total (weight E j) (n + nodes_in x) (nodes_in xs)
    = λ j. total-add (weight E j) n (nodes_in x) (nodes_in xs) in
    each_to _
    (each-join (each_map (tree_weighs E d m n b x h.0 w.0) λ j p q r e. let l = r e in let v = u j in omega (arith, l, v))
    (each_map (tree_weighs E d m (n + nodes_in x) (b + branches_in x) xs h.1 w.1) λ j p q r e. let l = r e in let v = u j in omega (arith, l, v)))
    (omega arith)
tree_weighs E d m n b last h w = each_none (omega arith)
tree_weighs E d m n b (weigh v x ps) h w =
    let u : (j : ℕ) → total (weight E j) (suc n) (nodes_in x + nodes_in ps) ≡ total (weight E j) (suc n) (nodes_in x) + total (weight E j) (suc n + nodes_in x) (nodes_in ps)
    = λ j. total-add (weight E j) (suc n) (nodes_in x) (nodes_in ps) in
    each_to _
    (each-join (each_map (tree_weighs E d n (suc n) b x h.1 w.0) λ j p q r e. let l = r e in let v = u j in omega (arith, l, v))
    (each_map (tree_weighs E d m (suc n + nodes_in x) (b + branches_in x) ps h.2 w.1) λ j p q r e. let l = r e in let v = u j in omega (arith, l, v)))
    (omega arith)

all_weighs : (E : Entries) (d n b : ℕ) (ts : List DefTree) → Planted E d n b ts → Each (Positive E n (all_nodes ts)) b (b + all_branches ts)
unfolding Planted all_nodes all_branches total
all_weighs E d n b [] h = each_none (omega arith)
all_weighs E d n b (t ∷ ts) h =
    let x : Tree many = t.contract in
    let u : (j : ℕ) → total (weight E j) (suc n) (nodes_in x + all_nodes ts) ≡ total (weight E j) (suc n) (nodes_in x) + total (weight E j) (suc n + nodes_in x) (all_nodes ts)
    = λ j. total-add (weight E j) (suc n) (nodes_in x) (all_nodes ts) in
    each_to _
    (each-join (each_map (tree_weighs E d n (suc n) b x h.2 h.3) λ j p q r e. let l = r e in let v = u j in omega (arith, l, v))
    (each_map (all_weighs E (suc d) (suc n + nodes_in x) (b + branches_in x) ts h.4) λ j p q r e. let l = r e in let v = u j in omega (arith, l, v)))
    (omega arith)

-- ---- of all entries

-- the trees end where the entries end
pub all-nodes : (E : Entries) (d n b : ℕ) (ts : List DefTree) → Planted E d n b ts → n + all_nodes ts ≡ length E.nodes
unfolding Planted all_nodes
all-nodes E d n b [] h = let e = h.1 in omega (arith, e)
all-nodes E d n b (t ∷ ts) h = let r = all-nodes E (suc d) (suc n + nodes_in t.contract) (b + branches_in t.contract) ts h.4 in omega (arith, r)

pub all-branches : (E : Entries) (d n b : ℕ) (ts : List DefTree) → Planted E d n b ts → b + all_branches ts ≡ length E.branches
unfolding Planted all_branches
all-branches E d n b [] h = let e = h.2 in omega (arith, e)
all-branches E d n b (t ∷ ts) h = let r = all-branches E (suc d) (suc n + nodes_in t.contract) (b + branches_in t.contract) ts h.4 in omega (arith, r)

module _ (E : Entries) (ts : List DefTree) (h : Planted E 0 0 0 ts) where
  nodes-are : length E.nodes ≡ all_nodes ts
  nodes-are = let e = all-nodes E 0 0 0 ts h in omega (arith, e)

  branches-are : length E.branches ≡ all_branches ts
  branches-are = let e = all-branches E 0 0 0 ts h in omega (arith, e)

  pub count-is : (n : ℕ) → n < length E.nodes → (node_entry_at E n).count ≡ branch_count E n
  unfolding branch_count branch_numbers names counts
  count-is n l =
      let k = length-keep (λ b. eqb (branch_entry_at E b).node n) 0 (length E.branches) in
      let s : total (names E n) 0 (length E.branches) ≡ total (counts E n) 0 (length E.nodes) = rw (nodes-are, branches-are) (all_names E n 0 0 0 ts h) in
      let c = total-only (λ j. (node_entry_at E j).count) n 0 (length E.nodes) (omega arith) (omega (arith, l)) in
      sym c ∙ sym s ∙ sym k

  pub parts_are : (b : ℕ) → b < length E.branches → (no_parent ≡ b → ⊥) → part_count E b ≡ arity_of (branch_entry_at E b).kind (branch_entry_at E b).arg
  unfolding part_count part_numbers share arity
  parts_are b l ne =
      let k = length-keep (λ n. eqb (node_entry_at E n).parent b) 0 (length E.nodes) in
      let s : total (share E b) 0 (length E.nodes) ≡ total (arity E b) 0 (length E.branches) = rw (nodes-are, branches-are) (all-shares E b ne 0 0 0 ts h) in
      let c = total-only (λ j. arity_of (branch_entry_at E j).kind (branch_entry_at E j).arg) b 0 (length E.branches) (omega arith) (omega (arith, l)) in
      k ∙ s ∙ c

  pub weights-add : (b : ℕ) → b < length E.branches → (branch_entry_at E b).kind ≡ 1 → 0 < sum (map (λ n. (node_entry_at E n).weight) (part_numbers E b))
  unfolding part_numbers weight
  weights-add b l e =
      let k = sum-keep (λ n. eqb (node_entry_at E n).parent b) (λ n. (node_entry_at E n).weight) 0 (length E.nodes) in
      let s : 0 < total (weight E b) 0 (length E.nodes) = rw nodes-are ((all_weighs E 0 0 0 ts h).at b (omega arith) (let q = all-branches E 0 0 0 ts h in omega (arith, l, q)) e) in
      rw k s
