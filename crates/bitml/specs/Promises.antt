-- "The judging part knows a sheet only by what the reader promises": the record of promises. Assumes nothing.
use Rattle.std.specs.Prelude.{◌≡◌, ℕ, ◌<◌, length}
use mathlib.Core.List.{Memᴰ}
use Rattle.bitml.specs.Sheet.{Sheet, renew_as, node_at, def_at, branches_at, branch_at, parts}

pub record WellFormed (s : Sheet) : Type 0 where
  -- "F definitions (1 to 32)"
  pub some-def : 0 < length s.defs
  -- A contract in a branch stands behind the branch's node, in the same definition
  pub part_after : (n b m : ℕ) → b < length (branches_at s n) → Memᴰ m (parts (branch_at s n b).action) → (n < m) × (m < length s.nodes)
  pub part_of : (n b m : ℕ) → b < length (branches_at s n) → Memᴰ m (parts (branch_at s n b).action) → (node_at s m).definition ≡ (node_at s n).definition
  -- Each definition's root is a node of that definition
  pub root_in : (d : ℕ) → d < length s.defs → (def_at s d).root < length s.nodes
  pub root_of : (d : ℕ) → d < length s.defs → (node_at s (def_at s d).root).definition ≡ d
  -- A renewal is as a definition that there is
  pub renewal_in : (n b d : ℕ) → b < length (branches_at s n) → (branch_at s n b).action ≡ renew_as d → d < length s.defs
