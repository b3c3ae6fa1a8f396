-- How the entries of a sheet hang together. "Each `c` is a node"; "numbered over the whole sheet in order of appearance". Assumes nothing.
use Rattle.std.specs.Prelude.{ℕ, ◌<◌, ◌≤◌, ◌≡◌, ◌⊎◌, map, length}
use Rattle.bitml.specs.Lists.{sum}
use Rattle.tables.specs.Entries.{Entries, most_branches}
use Rattle.tables.specs.SheetOf.{node_entry_at, branch_entry_at, def_entry_at, branch_count, part_numbers, part_count}
use Rattle.reading.specs.Promises.{no_parent, Inside, Nesting}

-- "contract: `c`, count of branches, the branches". It is its definition's root, or inside a branch
pub record NodeShape (E : Entries) (n : ℕ) : Type 0 where
  pub count : (node_entry_at E n).count ≡ branch_count E n
  pub place : (n ≡ (def_entry_at E (node_entry_at E n).definition).root) ⊎ Inside E n

-- "`s`,n, then n times weight and contract", and the weights don't add to 0
pub record SplitShape (E : Entries) (b : ℕ) : Type 0 where
  pub parts : part_count E b ≡ (branch_entry_at E b).arg
  pub weigh : 0 < sum (map (λ n. (node_entry_at E n).weight) (part_numbers E b))

-- "`r`, count, secrets, condition, contract": the one part is its contract
pub record RevealShape (E : Entries) (b : ℕ) : Type 0 where
  pub parts : part_count E b ≡ 1
  pub contract : (branch_entry_at E b).arg < length E.nodes
  pub parent : (node_entry_at E (branch_entry_at E b).arg).parent ≡ b

-- "an action": `w` and `g` hold no contract
pub record BranchShape (E : Entries) (b : ℕ) : Type 0 where
  pub node : (branch_entry_at E b).node < length E.nodes
  pub withdraw : (branch_entry_at E b).kind ≡ 0 → part_count E b ≡ 0
  pub split : (branch_entry_at E b).kind ≡ 1 → SplitShape E b
  pub reveal : (branch_entry_at E b).kind ≡ 2 → RevealShape E b
  pub renew : (branch_entry_at E b).kind ≡ 3 → part_count E b ≡ 0

-- "`def`: .. one contract": its root is a node of its own, in no branch
pub record DefShape (E : Entries) (d : ℕ) : Type 0 where
  pub root : (def_entry_at E d).root < length E.nodes
  pub own : (node_entry_at E (def_entry_at E d).root).definition ≡ d
  pub top : (node_entry_at E (def_entry_at E d).root).parent ≡ no_parent

-- "1,024 branches": so that no branch is taken for the parent of a root
pub record Shaped (E : Entries) : Type 0 where
  pub few : length E.branches ≤ most_branches
  pub node : (n : ℕ) → n < length E.nodes → NodeShape E n
  pub branch : (b : ℕ) → b < length E.branches → BranchShape E b
  pub def : (d : ℕ) → d < length E.defs → DefShape E d
  pub nesting : Nesting E
