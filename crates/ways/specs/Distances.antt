-- How far each node is from the node that a way leads to, and how one step of the way is taken. Assumes nothing.
use Rattle.std.specs.Prelude.{◌≡◌, ◌↔◌, ℕ, suc, ◌≤◌, ◌<◌, true, length, get_or, Option, None, Some}
use mathlib.Core.List.{List, [], ◌∷◌, Memᴰ}
use Rattle.bitml.specs.Sheet.{Sheet}
use Rattle.bitml.specs.Why.{near, trail}
use Rattle.tables.specs.Entries.{most_nodes}
use Rattle.ways.specs.declared.Turn.{Turn}

-- One more than the fewest steps from node m to node g; 0 where no steps lead there
pub record Distances (s : Sheet) (g : ℕ) (D : List ℕ) : Type 0 where
  pub long : length D ≡ most_nodes
  pub exact : (k m : ℕ) → m < length s.nodes → (near s g k m ≡ true) ↔ ((0 < get_or D m 0) × (get_or D m 0 ≤ suc k))

-- Of the nodes ns, the lowest with mark k
pub record Lowest (D ns : List ℕ) (k m : ℕ) : Type 0 where
  pub listed : Memᴰ m ns
  pub mark : get_or D m 0 ≡ k
  pub lowest : (j : ℕ) → Memᴰ j ns → get_or D j 0 ≡ k → m ≤ j

-- and nothing where none has it
abbrev pub Found : List ℕ → List ℕ → ℕ → Option ℕ → Type 0
Found D ns k (Some m) = (m < most_nodes) × Lowest D ns k m
Found D ns k None = (j : ℕ) → Memᴰ j ns → get_or D j 0 ≡ k → ⊥

-- The step that is taken at node n, and the node that the next one is taken at
pub record Turned (s : Sheet) (g : ℕ) (D : List ℕ) (n : ℕ) (r : Turn) : Type 0 where
  pub there : r.node < length s.nodes
  pub nearer : suc (get_or D r.node 0) ≡ get_or D n 0
  pub way : (k : ℕ) → get_or D n 0 ≡ suc (suc k) → trail s g (suc k) (n ∷ []) ≡ record { node = n; branch = r.branch } ∷ trail s g k (r.node ∷ [])
