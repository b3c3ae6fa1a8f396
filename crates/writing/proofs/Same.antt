-- Entries that are the same number by number are equal, and what it means that a text was read to them. Assumes nothing.
use Prim.Native.Nat.{ℕ}
use mathlib.Core.Path.{◌≡◌, refl, sym, ap₂, subst}
use mathlib.Core.Bool.{Bool, true, false≢true}
use mathlib.Core.List.{List, [], ◌∷◌}
use lib.Dec.{eqb}
use borrow.Author.Tests.{eqb-true, eq-eqb}
use Rattle.bitml.proofs.Lists.{and_l, and_r, and_i}
use Rattle.tables.specs.Entries.{NodeEntry, BranchEntry, DefEntry, Entries}
use Rattle.lines.specs.Sheet.{SheetRead, accepted, refused}
use Rattle.writing.specs.Writable.{same_all, same_node, same_branch, same_def, same_entries, read_as}

-- ---- lists

all-is : {A : Type 0} (same : A → A → Bool) → ((x y : A) → same x y ≡ true → x ≡ y) → (xs ys : List A) → same_all same xs ys ≡ true → xs ≡ ys
unfolding same_all
all-is same h [] [] e = refl
all-is same h [] (y ∷ ys) e = absurd (false≢true e)
all-is same h (x ∷ xs) [] e = absurd (false≢true e)
all-is same h (x ∷ xs) (y ∷ ys) e = ap₂ (λ z zs. z ∷ zs) (h x y (and_l _ _ e)) (all-is same h xs ys (and_r _ _ e))

all_self : {A : Type 0} (same : A → A → Bool) → ((x : A) → same x x ≡ true) → (xs : List A) → same_all same xs xs ≡ true
unfolding same_all
all_self same h [] = refl
all_self same h (x ∷ xs) = and_i _ _ (h x) (all_self same h xs)

-- ---- entries

self : (n : ℕ) → eqb n n ≡ true
self n = eq-eqb n n refl

node-is : (a b : NodeEntry) → same_node a b ≡ true → a ≡ b
unfolding same_node
node-is a b e =
    let e₁ = and_r _ _ e in
    let e₂ = and_r _ _ e₁ in
    let q₀ : a.definition ≡ b.definition = eqb-true _ _ (and_l _ _ e) in
    let q₁ : a.parent ≡ b.parent = eqb-true _ _ (and_l _ _ e₁) in
    let q₂ : a.weight ≡ b.weight = eqb-true _ _ (and_l _ _ e₂) in
    let q₃ : a.count ≡ b.count = eqb-true _ _ (and_r _ _ e₂) in
    let g : ◌≡◌ {A = NodeEntry} (record { definition = a.definition; parent = a.parent; weight = a.weight; count = a.count })
    (record { definition = b.definition; parent = b.parent; weight = b.weight; count = b.count }) = cc in
    g

node_self : (a : NodeEntry) → same_node a a ≡ true
unfolding same_node
node_self a = and_i _ _ (self a.definition) (and_i _ _ (self a.parent) (and_i _ _ (self a.weight) (self a.count)))

branch-is : (a b : BranchEntry) → same_branch a b ≡ true → a ≡ b
unfolding same_branch
branch-is a b e =
    let e₁ = and_r _ _ e in
    let e₂ = and_r _ _ e₁ in
    let e₃ = and_r _ _ e₂ in
    let e₄ = and_r _ _ e₃ in
    let e₅ = and_r _ _ e₄ in
    let e₆ = and_r _ _ e₅ in
    let q₀ : a.node ≡ b.node = eqb-true _ _ (and_l _ _ e) in
    let q₁ : a.signers ≡ b.signers = eqb-true _ _ (and_l _ _ e₁) in
    let q₂ : a.opens ≡ b.opens = eqb-true _ _ (and_l _ _ e₂) in
    let q₃ : a.kind ≡ b.kind = eqb-true _ _ (and_l _ _ e₃) in
    let q₄ : a.arg ≡ b.arg = eqb-true _ _ (and_l _ _ e₄) in
    let q₅ : a.first ≡ b.first = eqb-true _ _ (and_l _ _ e₅) in
    let q₆ : a.count ≡ b.count = eqb-true _ _ (and_l _ _ e₆) in
    let q₇ : a.cond ≡ b.cond = eqb-true _ _ (and_r _ _ e₆) in
    let g : ◌≡◌ {A = BranchEntry}
    (record { node = a.node; signers = a.signers; opens = a.opens; kind = a.kind; arg = a.arg; first = a.first; count = a.count; cond = a.cond })
    (record { node = b.node; signers = b.signers; opens = b.opens; kind = b.kind; arg = b.arg; first = b.first; count = b.count; cond = b.cond }) = cc in
    g

branch_self : (a : BranchEntry) → same_branch a a ≡ true
unfolding same_branch
branch_self a =
    and_i _ _ (self a.node) (and_i _ _ (self a.signers) (and_i _ _ (self a.opens) (and_i _ _ (self a.kind)
    (and_i _ _ (self a.arg) (and_i _ _ (self a.first) (and_i _ _ (self a.count) (self a.cond)))))))

def_is : (a b : DefEntry) → same_def a b ≡ true → a ≡ b
unfolding same_def
def_is a b e =
    let e₁ = and_r _ _ e in
    let q₀ : a.root ≡ b.root = eqb-true _ _ (and_l _ _ e) in
    let q₁ : a.first ≡ b.first = eqb-true _ _ (and_l _ _ e₁) in
    let q₂ : a.secrets ≡ b.secrets = eqb-true _ _ (and_r _ _ e₁) in
    let g : ◌≡◌ {A = DefEntry} (record { root = a.root; first = a.first; secrets = a.secrets }) (record { root = b.root; first = b.first; secrets = b.secrets }) = cc in
    g

def_self : (a : DefEntry) → same_def a a ≡ true
unfolding same_def
def_self a = and_i _ _ (self a.root) (and_i _ _ (self a.first) (self a.secrets))

pub same-is : (E F : Entries) → same_entries E F ≡ true → E ≡ F
unfolding same_entries
same-is E F e =
    let e₁ = and_r _ _ e in
    let e₂ = and_r _ _ e₁ in
    let e₃ = and_r _ _ e₂ in
    let q₀ : E.nodes ≡ F.nodes = all-is same_node node-is _ _ (and_l _ _ e) in
    let q₁ : E.branches ≡ F.branches = all-is same_branch branch-is _ _ (and_l _ _ e₁) in
    let q₂ : E.defs ≡ F.defs = all-is same_def def_is _ _ (and_l _ _ e₂) in
    let q₃ : E.listed ≡ F.listed = all-is eqb eqb-true _ _ (and_l _ _ e₃) in
    let q₄ : E.cells ≡ F.cells = all-is eqb eqb-true _ _ (and_r _ _ e₃) in
    let g : ◌≡◌ {A = Entries} (record { nodes = E.nodes; branches = E.branches; defs = E.defs; listed = E.listed; cells = E.cells })
    (record { nodes = F.nodes; branches = F.branches; defs = F.defs; listed = F.listed; cells = F.cells }) = cc in
    g

pub is_same : (E F : Entries) → E ≡ F → same_entries E F ≡ true
unfolding same_entries
is_same E F e = subst (λ G. same_entries E G ≡ true) e
    (and_i _ _ (all_self same_node node_self _) (and_i _ _ (all_self same_branch branch_self _) (and_i _ _ (all_self same_def def_self _)
    (and_i _ _ (all_self eqb self _) (all_self eqb self _)))))

-- ---- a text that was read to a sheet

pub read_as_yes : (n K : ℕ) (E : Entries) (r : SheetRead) → read_as n K E r ≡ true → r ≡ accepted K n E
unfolding read_as
read_as_yes n K E (accepted k at F) e =
    let q₀ : k ≡ K = eqb-true _ _ (and_l _ _ e) in
    let q₁ : at ≡ n = eqb-true _ _ (and_l _ _ (and_r _ _ e)) in
    let q₂ : F ≡ E = same-is F E (and_r _ _ (and_r _ _ e)) in
    cc
read_as_yes n K E (refused m p) e = absurd (false≢true e)

pub yes_read_as : (n K : ℕ) (E : Entries) (r : SheetRead) → r ≡ accepted K n E → read_as n K E r ≡ true
unfolding read_as
yes_read_as n K E r e = subst (λ x. read_as n K E x ≡ true) (sym e) (and_i _ _ (self K) (and_i _ _ (self n) (is_same E E refl)))
