-- Where the entries of a listed tree stand: the same as its listing, by numbers. Assumes nothing.
use Prim.Native.Nat.{ℕ, suc, ◌+◌, ◌<◌}
use mathlib.Core.Path.{◌≡◌, refl, ap, ◌∙◌, subst}
use mathlib.Core.List.{List, [], ◌∷◌, ◌++◌}
use lib.ListN.{length, length-append, get_or, get_or-append}
use lib.Seq.{get_or-append_seam}
use native.Mathlib.Omega.{arith}
use Rattle.tables.specs.Entries.{NodeEntry, BranchEntry, DefEntry, Entries}
use Rattle.tables.specs.State.{node_entry, branch_entry, def_entry}
use Rattle.tables.specs.SheetOf.{node_entry_at, branch_entry_at, def_entry_at}
use Rattle.contracts.specs.Contract.{action}
use Rattle.reading.specs.Promises.{no_parent}
use Rattle.trees.specs.Tree.{Kind, Tree, pay, renew, split, reveal, end, also, last, weigh, Contract, size, Weighed, nodes_in, branches_in}
use Rattle.trees.specs.Listing.{Listing, listing_of, add_node, add_branch, add_def, head_of, pay_entry, split_entry, reveal_entry, renew_entry, write, write_contract, DefTree, define, define_all, nothing}
use Rattle.trees.proofs.Sheet.{Grown, none, more, Forest}

-- node n is of definition d, the contract of branch p with weight w, and has c branches
pub record HasNode (E : Entries) (n d p w c : ℕ) : Type 0 where
  pub definition : (node_entry_at E n).definition ≡ d
  pub parent : (node_entry_at E n).parent ≡ p
  pub weight : (node_entry_at E n).weight ≡ w
  pub count : (node_entry_at E n).count ≡ c

-- branch b is of node m, and what it does
pub record HasBranch (E : Entries) (b m k a : ℕ) : Type 0 where
  pub node : (branch_entry_at E b).node ≡ m
  pub kind : (branch_entry_at E b).kind ≡ k
  pub arg : (branch_entry_at E b).arg ≡ a

-- the tree of definition d stands in the entries, its nodes from n on and its branches from b on; m is the node of the branches, or the
-- branch of the parts
unfoldable pub Stands : {k : Kind} → Entries → ℕ → ℕ → ℕ → ℕ → Tree k → Type 0
Stands E d m n b (pay g t p) = HasBranch E b m 0 p
Stands E d m n b (renew g t e) = HasBranch E b m 3 e
Stands E d m n b (split g t ps) = HasBranch E b m 1 (size ps) × Stands E d b n (suc b) ps
Stands E d m n b (reveal g t f c o x) = HasBranch E b m 2 n × HasNode E n d b 0 (size x) × Stands E d n (suc n) (suc b) x
Stands E d m n b end = Unit {0}
Stands E d m n b (also x xs) = Stands E d m n b x × Stands E d m (n + nodes_in x) (b + branches_in x) xs
Stands E d m n b last = Unit {0}
Stands E d m n b (weigh w x ps) = HasNode E n d m w (size x) × Stands E d n (suc n) b x × Stands E d m (suc n + nodes_in x) (b + branches_in x) ps

-- the trees of the definitions from d on stand one after the other, up to the end of the entries
unfoldable pub Planted : Entries → ℕ → ℕ → ℕ → List DefTree → Type 0
Planted E d n b [] = (length E.defs ≡ d) × (length E.nodes ≡ n) × (length E.branches ≡ b)
Planted E d n b (t ∷ ts) =
    ((def_entry_at E d).root ≡ n)
    × HasNode E n d no_parent 0 (size t.contract)
    × Stands E d n (suc n) b t.contract
    × Weighed t.contract
    × Planted E (suc d) (suc n + nodes_in t.contract) (b + branches_in t.contract) ts

-- ---- how long a listing is

snoc-length : {A : Type 0} (xs : List A) (y : A) (n : ℕ) → length xs ≡ n → length (xs ++ (y ∷ [])) ≡ suc n
snoc-length xs y n h = length-append xs (y ∷ []) ∙ rw h (omega arith)

record Long (l : Listing) (d n b : ℕ) : Type 0 where
  defs : length l.defs ≡ d
  nodes : length l.nodes ≡ n
  branches : length l.branches ≡ b

long-node : {d n b : ℕ} (e : NodeEntry) (l : Listing) → Long l d n b → Long (add_node e l) d (suc n) b
long-node e l h = record { defs = h.defs; nodes = snoc-length l.nodes e _ h.nodes; branches = h.branches }

long-branch : {d n b : ℕ} (e : BranchEntry) (l : Listing) → Long l d n b → Long (add_branch e l) d n (suc b)
long-branch e l h = record { defs = h.defs; nodes = h.nodes; branches = snoc-length l.branches e _ h.branches }

long-def : {d n b : ℕ} (e : DefEntry) (l : Listing) → Long l d n b → Long (add_def e l) (suc d) n b
long-def e l h = record { defs = snoc-length l.defs e _ h.defs; nodes = h.nodes; branches = h.branches }

long_by : {l : Listing} {d n b : ℕ} (n' b' : ℕ) → Long l d n b → n ≡ n' → b ≡ b' → Long l d n' b'
long_by n' b' h p q = record { defs = h.defs; nodes = h.nodes ∙ p; branches = h.branches ∙ q }

write-long : {k : Kind} {c n b : ℕ} (d m : ℕ) (x : Tree k) (l : Listing) → Long l c n b → Long (write d m x l) c (n + nodes_in x) (b + branches_in x)
unfolding write nodes_in branches_in
write-long d m (pay g t p) l h = long_by _ _ (long-branch _ l h) (omega arith) (omega arith)
write-long d m (renew g t e) l h = long_by _ _ (long-branch _ l h) (omega arith) (omega arith)
write-long d m (split g t ps) l h = long_by _ _ (write-long d _ ps _ (long-branch _ l h)) (omega arith) (omega arith)
write-long d m (reveal g t f c o x) l h = long_by _ _ (write-long d _ x _ (long-node _ _ (long-branch _ l h))) (omega arith) (omega arith)
write-long d m end l h = long_by _ _ h (omega arith) (omega arith)
write-long d m (also x xs) l h = long_by _ _ (write-long d m xs _ (write-long d m x l h)) (omega arith) (omega arith)
write-long d m last l h = long_by _ _ h (omega arith) (omega arith)
write-long d m (weigh w x ps) l h = long_by _ _ (write-long d m ps _ (write-long d _ x _ (long-node _ l h))) (omega arith) (omega arith)

-- ---- a listing that the entries start with

record Starts (E : Entries) (l : Listing) : Type 0 where
  nodes : (i : ℕ) → i < length l.nodes → node_entry_at E i ≡ get_or l.nodes i (node_entry 0 0 0 0)
  branches : (i : ℕ) → i < length l.branches → branch_entry_at E i ≡ get_or l.branches i (branch_entry (head_of 0 0 0) (action 0 0 0 0 0))
  defs : (i : ℕ) → i < length l.defs → def_entry_at E i ≡ get_or l.defs i (def_entry 0 0 0)

-- the last entry, and those before
snoc-at : {A : Type 0} (f : ℕ → A) (xs : List A) (y z : A) (n : ℕ) → length xs ≡ n → ((i : ℕ) → i < length (xs ++ (y ∷ [])) → f i ≡ get_or (xs ++ (y ∷ [])) i z) → f n ≡ y
snoc-at f xs y z n e h =
    subst (λ i. f i ≡ y) e (h (length xs) (rw length-append (omega arith)) ∙ get_or-append_seam xs y [] z)

snoc-before : {A : Type 0} (f : ℕ → A) (xs : List A) (y z : A) → ((i : ℕ) → i < length (xs ++ (y ∷ [])) → f i ≡ get_or (xs ++ (y ∷ [])) i z) → (i : ℕ) → i < length xs → f i ≡ get_or xs i z
snoc-before f xs y z h i k = h i (rw length-append (omega (arith, k))) ∙ get_or-append xs (y ∷ []) z i k

module _ (E : Entries) where
  has-node : {c n b : ℕ} (e : NodeEntry) (l : Listing) → Long l c n b → Starts E (add_node e l) → HasNode E n e.definition e.parent e.weight e.count
  has-node {n = n} e l g h =
      let q = snoc-at (node_entry_at E) l.nodes e _ n g.nodes h.nodes in
      record { definition = ap (λ (y : NodeEntry). y.definition) q; parent = ap (λ (y : NodeEntry). y.parent) q; weight = ap (λ (y : NodeEntry). y.weight) q; count = ap (λ (y : NodeEntry). y.count) q }

  has-branch : {c n b : ℕ} (e : BranchEntry) (l : Listing) → Long l c n b → Starts E (add_branch e l) → HasBranch E b e.node e.kind e.arg
  has-branch {b = b} e l g h =
      let q = snoc-at (branch_entry_at E) l.branches e _ b g.branches h.branches in
      record { node = ap (λ (y : BranchEntry). y.node) q; kind = ap (λ (y : BranchEntry). y.kind) q; arg = ap (λ (y : BranchEntry). y.arg) q }

  has-def : {c n b : ℕ} (e : DefEntry) (l : Listing) → Long l c n b → Starts E (add_def e l) → (def_entry_at E c).root ≡ e.root
  has-def {c} e l g h = ap (λ (y : DefEntry). y.root) (snoc-at (def_entry_at E) l.defs e _ c g.defs h.defs)

  before-node : (e : NodeEntry) (l : Listing) → Starts E (add_node e l) → Starts E l
  before-node e l h = record { nodes = snoc-before (node_entry_at E) l.nodes e _ h.nodes; branches = h.branches; defs = h.defs }

  before-branch : (e : BranchEntry) (l : Listing) → Starts E (add_branch e l) → Starts E l
  before-branch e l h = record { nodes = h.nodes; branches = snoc-before (branch_entry_at E) l.branches e _ h.branches; defs = h.defs }

  before-def : (e : DefEntry) (l : Listing) → Starts E (add_def e l) → Starts E l
  before-def e l h = record { nodes = h.nodes; branches = h.branches; defs = snoc-before (def_entry_at E) l.defs e _ h.defs }

  before_tree : {k : Kind} (d m : ℕ) (x : Tree k) (l : Listing) → Starts E (write d m x l) → Starts E l
  unfolding write
  before_tree d m (pay g t p) l h = before-branch _ l h
  before_tree d m (renew g t e) l h = before-branch _ l h
  before_tree d m (split g t ps) l h = before-branch _ l (before_tree d _ ps _ h)
  before_tree d m (reveal g t f c o x) l h = before-branch _ l (before-node _ _ (before_tree d _ x _ h))
  before_tree d m end l h = h
  before_tree d m (also x xs) l h = before_tree d m x l (before_tree d m xs _ h)
  before_tree d m last l h = h
  before_tree d m (weigh w x ps) l h = before-node _ l (before_tree d _ x _ (before_tree d m ps _ h))

  write_stands : {k : Kind} {c n b : ℕ} (d m : ℕ) (x : Tree k) (l : Listing) → Long l c n b → Starts E (write d m x l) → Stands E d m n b x
  unfolding write Stands
  write_stands d m (pay g t p) l k h = has-branch (pay_entry m g t p) l k h
  write_stands d m (renew g t e) l k h = has-branch (renew_entry m g t e) l k h
  write_stands {b = b} d m (split g t ps) l k h = (
    has-branch (split_entry m g t (size ps)) l k (before_tree d _ ps _ h),
    write_stands d b ps (add_branch (split_entry m g t (size ps)) l) (long-branch _ l k) (subst (λ q. Starts E (write d q ps (add_branch (split_entry m g t (size ps)) l))) k.branches h),
  )
  write_stands {n = n} {b = b} d m (reveal g t f c o x) l k h =
      let h₁ = subst (λ i. Starts E (write d i x (add_node (node_entry d (length l.branches) 0 (size x)) (add_branch (reveal_entry m g t i f c o) l)))) k.nodes h in
      let h₂ = subst (λ i. Starts E (write d n x (add_node (node_entry d i 0 (size x)) (add_branch (reveal_entry m g t n f c o) l)))) k.branches h₁ in
      let k₁ = long-branch (reveal_entry m g t n f c o) l k in (
        has-branch (reveal_entry m g t n f c o) l k (before-node _ _ (before_tree d n x _ h₂)),
        has-node (node_entry d b 0 (size x)) _ k₁ (before_tree d n x _ h₂),
        write_stands d n x (add_node (node_entry d b 0 (size x)) (add_branch (reveal_entry m g t n f c o) l)) (long-node _ _ k₁) h₂,
      )
  write_stands d m end l k h = tt
  write_stands d m (also x xs) l k h = (write_stands d m x l k (before_tree d m xs _ h), write_stands d m xs (write d m x l) (write-long d m x l k) h)
  write_stands d m last l k h = tt
  write_stands {n = n} d m (weigh w x ps) l k h = (
    has-node (node_entry d m w (size x)) l k (before_tree d _ x _ (before_tree d m ps _ h)),
    write_stands d n x (add_node (node_entry d m w (size x)) l) (long-node _ l k) (subst (λ i. Starts E (write d i x (add_node (node_entry d m w (size x)) l))) k.nodes (before_tree d m ps _ h)),
    write_stands d m ps (write d (length l.nodes) x (add_node (node_entry d m w (size x)) l)) (write-long d _ x _ (long-node _ l k)) h,
  )

  -- all that is listed before the definitions
  before-defs : (ts : List DefTree) (l : Listing) → Starts E (define_all ts l) → Starts E l
  unfolding define_all define write_contract
  before-defs [] l h = h
  before-defs (t ∷ ts) l h = before-def _ l (before-node _ _ (before_tree _ _ t.contract _ (before-defs ts _ h)))

  define_planted : {d n b : ℕ} (t : DefTree) (ts : List DefTree) (l : Listing) → Long l d n b → Weighed t.contract → Starts E (define t l)
      → (Long (define t l) (suc d) (suc n + nodes_in t.contract) (b + branches_in t.contract) → Planted E (suc d) (suc n + nodes_in t.contract) (b + branches_in t.contract) ts)
      → Planted E d n b (t ∷ ts)
  unfolding define write_contract Planted
  define_planted {d} {n} {b} t ts l k w h f =
      let x : Contract = t.contract in
      let p : DefEntry = def_entry (length l.nodes) t.first t.secrets in
      let e : NodeEntry = node_entry (length l.defs) no_parent 0 (size x) in
      let k₁ = long-def p l k in
      let k₂ = long-node e (add_def p l) k₁ in
      let h₁ = before_tree (length l.defs) (length l.nodes) x (add_node e (add_def p l)) h in
      let i = write_stands (length l.defs) (length l.nodes) x (add_node e (add_def p l)) k₂ h in (
        has-def p l k (before-node e _ h₁) ∙ k.nodes,
        subst (λ c. HasNode E n c no_parent 0 (size x)) k.defs (has-node e (add_def p l) k₁ h₁),
        subst (λ c. Stands E c n (suc n) b x) k.defs (subst (λ c. Stands E (length l.defs) c (suc n) b x) k.nodes i),
        w,
        f (write-long (length l.defs) (length l.nodes) x (add_node e (add_def p l)) k₂),
      )

  all_planted : {d n b : ℕ} (ts : List DefTree) (l : Listing) → Long l d n b → Grown ts → listing_of E ≡ define_all ts l → Starts E (define_all ts l) → Planted E d n b ts
  unfolding define_all Planted
  all_planted [] l k none h i =
      (ap (λ (y : Listing). length y.defs) h ∙ k.defs, ap (λ (y : Listing). length y.nodes) h ∙ k.nodes, ap (λ (y : Listing). length y.branches) h ∙ k.branches)
  all_planted {d = d} {n = n} {b = b} (t ∷ ts) l k (more w g) h i = define_planted t ts l k w (before-defs ts (define t l) i) λ k₁. all_planted {d = suc d} {n = suc n + nodes_in t.contract} {b = b + branches_in t.contract} ts (define t l) k₁ g h i

  -- the trees of a sheet that was read stand in its entries
  pub forest_planted : (f : Forest nothing E) → Planted E 0 0 0 f.trees
  forest_planted f =
      all_planted f.trees nothing (record { defs = refl; nodes = refl; branches = refl }) f.grown f.same
      (subst (Starts E) f.same (record { nodes = λ i g. refl; branches = λ i g. refl; defs = λ i g. refl }))
