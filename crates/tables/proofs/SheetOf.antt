-- Looking up in a sheet is looking up in its entries. Assumes nothing.
use mathlib.Core.Path.{◌≡◌, refl, sym, ap, ◌∙◌}
use Prim.Native.Nat.{ℕ, zero, suc, ◌≤◌, ◌<◌}
use native.Mathlib.Omega.{arith}
use mathlib.Core.Bool.{Bool, true, false, cond}
use mathlib.Core.List.{List, [], ◌∷◌, map}
use lib.ListN.{length, get_or, length-map}
use lib.Seq.{ext_get_or}
use lib.Dec.{eqb}
use borrow.Author.Tests.{eqb-true}
use Rattle.bitml.specs.Lists.{below, keep, All}
use Rattle.bitml.specs.Sheet.{node_at, def_at, branches_at, branch_at, no_node, no_branch, parts}
use Rattle.bitml.specs.Runs.{next}
use Rattle.bitml.proofs.Lists.{at_map, get_d_up, length_up, all_head, all_tail, all_imp, keep_imp, keep_all, up_mem}
use Rattle.tables.specs.Entries.{Entries}
use Rattle.tables.specs.SheetOf.{node_entry_at, branch_entry_at, def_entry_at, branch_numbers, branch_count, branch_number, part_numbers, part_count, part_number, part_of, action_of, branch_of, node_of, deposit_of, owner_of, def_of, sheet_of}

-- ---- lists

-- a fact about every element holds at an index in range
pub all_in : {Q : ℕ → Type 0} (xs : List ℕ) (i : ℕ) → All Q xs → i < length xs → Q (get_or xs i 0)
all_in [] i a h = absurd (omega arith)
all_in (x ∷ xs) zero a h = all_head a
all_in (x ∷ xs) (suc i) a h = all_in xs i (all_tail a) (omega arith)

pub keep-le : (T : ℕ → Bool) (xs : List ℕ) → length (keep T xs) ≤ length xs
keep-le T [] = omega arith
keep-le T (x ∷ xs) = go (T x) (keep-le T xs)
  where
    go : (b : Bool) → length (keep T xs) ≤ length xs → length (cond b (x ∷ keep T xs) (keep T xs)) ≤ suc (length xs)
    go true h = omega arith
    go false h = omega arith

pub map-map : {A B C : Type 0} (g : B → C) (f : A → B) (xs : List A) → map g (map f xs) ≡ map (λ a. g (f a)) xs
map-map g f [] = refl
map-map g f (a ∷ xs) = ap (λ ys. g (f a) ∷ ys) (map-map g f xs)

map_same : (xs : List ℕ) → map (λ a. a) xs ≡ xs
map_same [] = refl
map_same (a ∷ xs) = ap (λ ys. a ∷ ys) (map_same xs)

-- ---- definitions

module _ (K : ℕ) (E : Entries) where
  pub participants-are : (sheet_of K E).participants ≡ K
  unfolding sheet_of
  participants-are = refl

  pub defs-are : length (sheet_of K E).defs ≡ length E.defs
  unfolding sheet_of
  defs-are = length-map (below (length E.defs)) (def_of K E) ∙ length_up 0 (length E.defs)

  pub def_of_lem : (d : ℕ) → d < length E.defs → def_at (sheet_of K E) d ≡ def_of K E d
  unfolding sheet_of
  def_of_lem d h = get_d_up (def_of K E) (record { deposits = []; owners = []; root = 0 }) 0 (length E.defs) d d (omega arith) h

  pub root_is : (d : ℕ) → d < length E.defs → (def_at (sheet_of K E) d).root ≡ (def_entry_at E d).root
  unfolding def_of
  root_is d h = ap (λ x. x.root) (def_of_lem d h)

  pub deposits-are : (d : ℕ) → d < length E.defs → (def_at (sheet_of K E) d).deposits ≡ map (deposit_of E d) (below K)
  unfolding def_of
  deposits-are d h = ap (λ x. x.deposits) (def_of_lem d h)

  pub owners-are : (d : ℕ) → d < length E.defs → (def_at (sheet_of K E) d).owners ≡ map (owner_of K E d) (below (def_entry_at E d).secrets)
  unfolding def_of
  owners-are d h = ap (λ x. x.owners) (def_of_lem d h)

  pub owner-count : (d : ℕ) → d < length E.defs → length (def_at (sheet_of K E) d).owners ≡ (def_entry_at E d).secrets
  owner-count d h = ap (λ x. length x) (owners-are d h) ∙ length-map (below (def_entry_at E d).secrets) (owner_of K E d) ∙ length_up 0 (def_entry_at E d).secrets

  pub owner_at_lem : (d j : ℕ) → d < length E.defs → j < (def_entry_at E d).secrets → get_or (def_at (sheet_of K E) d).owners j 0 ≡ owner_of K E d j
  owner_at_lem d j h k = ap (λ xs. get_or xs j 0) (owners-are d h) ∙ get_d_up (owner_of K E d) 0 0 (def_entry_at E d).secrets j j (omega arith) k

  -- ---- nodes and their branches

  pub nodes-are : length (sheet_of K E).nodes ≡ length E.nodes
  unfolding sheet_of
  nodes-are = length-map (below (length E.nodes)) (node_of E) ∙ length_up 0 (length E.nodes)

  node_of_lem : (n : ℕ) → n < length E.nodes → node_at (sheet_of K E) n ≡ node_of E n
  unfolding sheet_of
  node_of_lem n h = get_d_up (node_of E) no_node 0 (length E.nodes) n n (omega arith) h

  pub node-def : (n : ℕ) → n < length E.nodes → (node_at (sheet_of K E) n).definition ≡ (node_entry_at E n).definition
  unfolding node_of
  node-def n h = ap (λ nd. nd.definition) (node_of_lem n h)

  pub branches-are : (n : ℕ) → n < length E.nodes → branches_at (sheet_of K E) n ≡ map (branch_of E) (branch_numbers E n)
  unfolding node_of
  branches-are n h = ap (λ nd. nd.branches) (node_of_lem n h)

  pub count_of : (n : ℕ) → n < length E.nodes → length (branches_at (sheet_of K E) n) ≡ branch_count E n
  unfolding branch_count
  count_of n h = ap (λ bs. length bs) (branches-are n h) ∙ length-map (branch_numbers E n) (branch_of E)

  pub branch_of_lem : (n i : ℕ) → n < length E.nodes → i < branch_count E n → branch_at (sheet_of K E) n i ≡ branch_of E (branch_number E n i)
  unfolding branch_count branch_number
  branch_of_lem n i h l = ap (λ bs. get_or bs i no_branch) (branches-are n h) ∙ at_map (branch_of E) (branch_numbers E n) i 0 no_branch l

-- ---- entries that belong together

module _ (E : Entries) where
  pub branches-small : (n : ℕ) → All (λ b. b < length E.branches) (branch_numbers E n)
  unfolding branch_numbers
  branches-small n = all_imp (λ b h. omega (arith, h)) (keep_imp (λ b. eqb (branch_entry_at E b).node n) (below (length E.branches)) (up_mem 0 (length E.branches)))

  pub branch-small : (n i : ℕ) → i < branch_count E n → branch_number E n i < length E.branches
  unfolding branch_count branch_number
  branch-small n i h = all_in (branch_numbers E n) i (branches-small n) h

  pub branch-node : (n i : ℕ) → i < branch_count E n → (branch_entry_at E (branch_number E n i)).node ≡ n
  unfolding branch_count branch_number branch_numbers
  branch-node n i h = eqb-true _ _ (all_in (branch_numbers E n) i (keep_all (λ b. eqb (branch_entry_at E b).node n) (below (length E.branches))) h)

  pub parts-small : (b : ℕ) → All (λ n. n < length E.nodes) (part_numbers E b)
  unfolding part_numbers
  parts-small b = all_imp (λ n h. omega (arith, h)) (keep_imp (λ n. eqb (node_entry_at E n).parent b) (below (length E.nodes)) (up_mem 0 (length E.nodes)))

  pub part_small : (b i : ℕ) → i < part_count E b → part_number E b i < length E.nodes
  unfolding part_count part_number
  part_small b i h = all_in (part_numbers E b) i (parts-small b) h

  pub parts-few : (b : ℕ) → part_count E b ≤ length E.nodes
  unfolding part_count part_numbers
  parts-few b = omega (arith, keep-le (λ n. eqb (node_entry_at E n).parent b) (below (length E.nodes)), length_up 0 (length E.nodes))

  pub parts_are : (b : ℕ) → part_numbers E b ≡ map (part_number E b) (below (part_count E b))
  unfolding part_count part_number
  parts_are b =
      ext_get_or 0 (part_numbers E b) (map (λ i. get_or (part_numbers E b) i 0) (below (length (part_numbers E b))))
      (sym (length-map (below (length (part_numbers E b))) (λ i. get_or (part_numbers E b) i 0) ∙ length_up 0 (length (part_numbers E b))))
      (λ i h. sym (get_d_up (λ i. get_or (part_numbers E b) i 0) 0 0 (length (part_numbers E b)) i i (omega arith) h))

  -- ---- actions

  module _ (b : ℕ) where
    pub parts_none : (branch_entry_at E b).kind ≡ 0 → parts (branch_of E b).action ≡ []
    unfolding branch_of action_of
    parts_none e = rw e

    pub parts-split : (branch_entry_at E b).kind ≡ 1 → parts (branch_of E b).action ≡ part_numbers E b
    unfolding branch_of action_of
    parts-split e = rw e (map-map (λ q. q.node) (part_of E) (part_numbers E b) ∙ map_same (part_numbers E b))

    pub parts-reveal : (branch_entry_at E b).kind ≡ 2 → parts (branch_of E b).action ≡ (branch_entry_at E b).arg ∷ []
    unfolding branch_of action_of
    parts-reveal e = rw e

    -- and what a renewal leads to
    pub next-renewal : (K : ℕ) → (branch_entry_at E b).kind ≡ 3 → (branch_entry_at E b).arg < length E.defs → next (sheet_of K E) (branch_of E b).action ≡ (def_entry_at E (branch_entry_at E b).arg).root ∷ []
    unfolding branch_of action_of
    next-renewal K e h = rw e (ap (λ n. n ∷ []) (root_is K E (branch_entry_at E b).arg h))
