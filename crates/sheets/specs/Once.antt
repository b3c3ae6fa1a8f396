-- That a table is ready can be so in one way only, as a struct that carries the fact has to show. Assumes nothing.
use Rattle.std.specs.Prelude.{◌≡◌, ◌⊎◌, ℕ, ◌≤◌, ◌<◌, List, length}
use Rattle.std.specs.Coded.{Π_prop, →_prop}
use Rattle.std.proofs.Props.{props}
use mathlib.Core.Path.{ap, ◌∙◌}
use native.Mathlib.Omega.{arith}
use Rattle.std.proofs.Common.{inl, inr}
use Rattle.tables.specs.Entries.{Entries, held, people}
use Rattle.tables.specs.SheetOf.{node_entry_at, def_entry_at}
use Rattle.reading.specs.Promises.{Promises, NodePromise, Inside}
use Rattle.sheets.specs.Ready.{Ready}

-- two facts that exclude each other
one_of : {A B : Type 0} → IsProp A → IsProp B → (A → B → ⊥) → IsProp (A ⊎ B)
one_of p q d (inl a) (inl b) = ap inl (p a b)
one_of p q d (inl a) (inr b) = elim (d a b) [ ]
one_of p q d (inr a) (inl b) = elim (d b a) [ ]
one_of p q d (inr a) (inr b) = ap inr (q a b)

-- a root stands in no branch
place-once : {K : ℕ} {E : Entries} → Promises K E → (n : ℕ) → n < length E.nodes
    → IsProp ((n ≡ (def_entry_at E (node_entry_at E n).definition).root) ⊎ Inside E n)
place-once {E = E} x n h = one_of (hlevel props) (hlevel props) λ e i. omega (arith, ap (λ m. (node_entry_at E m).parent) e ∙ (x.def _ (x.node n h).definition).top, i.there, x.limits.branches)

node-once : {K : ℕ} {E : Entries} → Promises K E → IsProp ((n : ℕ) → n < length E.nodes → NodePromise E n)
node-once x = Π_prop λ n. Π_prop λ h. let p = place-once x n h in hlevel (props, p)

pub once : (t : List ℕ) → IsProp (Ready t)
once t x y = let p = node-once x.promises in let q : IsProp (Ready t) = hlevel (props, p) in q x y
