-- "The judging part knows a sheet only by what the reader promises": of the entries that were read, by no layout. Assumes nothing.
use Rattle.std.specs.Prelude.{◌≡◌, ◌⊎◌, ℕ, suc, ◌+◌, ◌^◌, ◌≤◌, ◌<◌, cond, map, length, ltb}
use Rattle.bitml.specs.Lists.{sum, below}
use Rattle.tables.specs.Entries.{Entries, most_nodes, most_branches, most_listed, most_cells, most_defs}
use Rattle.tables.specs.SheetOf.{node_entry_at, branch_entry_at, def_entry_at, listed_at, cell_at, branch_count, part_numbers, part_count, deposit_of, owner_of}

-- "K participants (1 to 16), F definitions (1 to 32)"; "512 nodes, 1,024 branches". Of each definition at most 16 deposits and 8 owners are
-- listed, and of each branch 8 secrets; a field of a condition has a cell, and there are fewer fields than "32,768 bytes"
pub record Sizes (K : ℕ) (E : Entries) : Type 0 where
  pub people : (1 ≤ K) × (K ≤ 16)
  pub defs : (1 ≤ length E.defs) × (length E.defs ≤ most_defs)
  pub nodes : length E.nodes ≤ most_nodes
  pub branches : length E.branches ≤ most_branches
  pub listed : length E.listed ≤ most_listed
  pub cells : length E.cells ≤ most_cells

-- The parent of a root: no branch has this number
abbrev pub no_parent : ℕ
no_parent = most_branches

-- "a branch may hold contracts": node n is one in a branch of an earlier node, of the same definition
pub record Inside (E : Entries) (n : ℕ) : Type 0 where
  pub there : (node_entry_at E n).parent < length E.branches
  pub later : (branch_entry_at E (node_entry_at E n).parent).node < n
  pub same : (node_entry_at E n).definition ≡ (node_entry_at E (branch_entry_at E (node_entry_at E n).parent).node).definition

-- "contract: `c`, count of branches (0 to 16), the branches"; "weight (0 to 1,000)". It is its definition's root, or inside a branch
pub record NodePromise (E : Entries) (n : ℕ) : Type 0 where
  pub definition : (node_entry_at E n).definition < length E.defs
  pub count : (node_entry_at E n).count ≡ branch_count E n
  pub few : branch_count E n ≤ 16
  pub weight : (node_entry_at E n).weight ≤ 1000
  pub place : (n ≡ (def_entry_at E (node_entry_at E n).definition).root) ⊎ Inside E n

-- "`w`,p pays the balance to p"
pub record WithdrawPromise (K : ℕ) (E : Entries) (b : ℕ) : Type 0 where
  pub payee : (branch_entry_at E b).arg < K
  pub parts : part_count E b ≡ 0

-- "`s`,n, then n times weight (0 to 1,000) and contract, n from 1 to 8", and the weights don't add to 0
pub record SplitPromise (E : Entries) (b : ℕ) : Type 0 where
  pub parts : part_count E b ≡ (branch_entry_at E b).arg
  pub some : 1 ≤ part_count E b
  pub few : part_count E b ≤ 8
  pub weigh : 0 < sum (map (λ n. (node_entry_at E n).weight) (part_numbers E b))

-- "`r`, count (1 to 8), secrets, condition, contract": secrets that its definition has, and the one part is its contract
pub record RevealPromise (E : Entries) (b : ℕ) : Type 0 where
  pub parts : part_count E b ≡ 1
  pub contract : (branch_entry_at E b).arg < length E.nodes
  pub parent : (node_entry_at E (branch_entry_at E b).arg).parent ≡ b
  pub some : 1 ≤ (branch_entry_at E b).count
  pub few : (branch_entry_at E b).count ≤ 8
  pub listed : (branch_entry_at E b).first + (branch_entry_at E b).count ≤ length E.listed
  pub secret : (i : ℕ) → i < (branch_entry_at E b).count
      → listed_at E ((branch_entry_at E b).first + i) < (def_entry_at E (node_entry_at E (branch_entry_at E b).node).definition).secrets
  pub cond : (branch_entry_at E b).cond < length E.cells

-- "`g`,d renews as definition d"
pub record RenewPromise (E : Entries) (b : ℕ) : Type 0 where
  pub definition : (branch_entry_at E b).arg < length E.defs
  pub parts : part_count E b ≡ 0

-- "branch: signers (.. 2^K or more gets 6), opening time (0 to 4,294,967,295), an action"
pub record BranchPromise (K : ℕ) (E : Entries) (b : ℕ) : Type 0 where
  pub node : (branch_entry_at E b).node < length E.nodes
  pub signers : (branch_entry_at E b).signers < 2 ^ K
  pub opens : (branch_entry_at E b).opens ≤ 4294967295
  pub kind : (branch_entry_at E b).kind ≤ 3
  pub withdraw : (branch_entry_at E b).kind ≡ 0 → WithdrawPromise K E b
  pub split : (branch_entry_at E b).kind ≡ 1 → SplitPromise E b
  pub reveal : (branch_entry_at E b).kind ≡ 2 → RevealPromise E b
  pub renew : (branch_entry_at E b).kind ≡ 3 → RenewPromise E b

-- "`def`: K deposits in satoshi, the count of secrets (0 to 8), each secret's owner, one contract"; "deposits of one definition together
-- 2,100,000,000,000,000"
pub record DefPromise (K : ℕ) (E : Entries) (d : ℕ) : Type 0 where
  pub root : (def_entry_at E d).root < length E.nodes
  pub own : (node_entry_at E (def_entry_at E d).root).definition ≡ d
  pub top : (node_entry_at E (def_entry_at E d).root).parent ≡ no_parent
  pub secrets : (def_entry_at E d).secrets ≤ 8
  pub listed : (def_entry_at E d).first + K + (def_entry_at E d).secrets ≤ length E.listed
  pub owner : (j : ℕ) → j < (def_entry_at E d).secrets → owner_of K E d j < K
  pub deposits : sum (map (deposit_of E d) (below K)) ≤ 2100000000000000

-- One more than the number of the node in whose branch m stands; 0 for a root
unfoldable pub over : Entries → ℕ → ℕ
over E m = cond (ltb (node_entry_at E m).parent (length E.branches)) (suc (branch_entry_at E (node_entry_at E m).parent).node) 0

-- "numbered over the whole sheet in order of appearance"
pub record Nesting (E : Entries) : Type 0 where
  -- Between a node and a contract in its branches stand only nodes that are below the node
  pub between : (m n k : ℕ) → m < length E.nodes → over E m ≡ suc n → n < k → k < m → n < over E k
  -- The contracts in a node's branches stand in the order of the branches
  pub ordered : (m l n : ℕ) → m < l → l < length E.nodes → over E m ≡ suc n → over E l ≡ suc n
      → (node_entry_at E m).parent ≤ (node_entry_at E l).parent
  -- And the definitions one after the other
  pub rising : (m n : ℕ) → m ≤ n → n < length E.nodes → (node_entry_at E m).definition ≤ (node_entry_at E n).definition
  pub start : (def_entry_at E 0).root ≡ 0

-- All that is promised of a sheet with K participants. "`k`,number up to 1,000,000,000" bounds the cells of conditions
pub record Promises (K : ℕ) (E : Entries) : Type 0 where
  pub limits : Sizes K E
  pub node : (n : ℕ) → n < length E.nodes → NodePromise E n
  pub branch : (b : ℕ) → b < length E.branches → BranchPromise K E b
  pub def : (d : ℕ) → d < length E.defs → DefPromise K E d
  pub cell : (c : ℕ) → c < length E.cells → cell_at E c ≤ 1000000000
  pub nesting : Nesting E
