-- A table that was read whole, and an index of its entries. Assumes nothing.
use Rattle.std.specs.Prelude.{ℕ, ◌+◌, ◌≤◌, List, length, drop}
use Rattle.tables.specs.Entries.{Entries, held, people, cells_from, most_nodes, most_branches}
use Rattle.tables.specs.SheetOf.{node_entry_at, branch_entry_at}
use Rattle.bucket.specs.Bucket.{Buckets, bucket_of}
use Rattle.reading.specs.Promises.{Promises}

-- "The judging part knows a sheet only by what the reader promises". The table goes as far as the cells that it holds
pub record Ready (t : List ℕ) : Type 0 where
  pub long : cells_from + length (held t).cells ≤ length t
  pub promises : Promises (people t) (held t)

-- The index: from 0 where each node's branches start, then the branches by node; then where each branch's parts start (and last those of no
-- branch, the roots), then the nodes by parent
abbrev pub branches_by : ℕ
branches_by = most_nodes + 1

abbrev pub parts_from : ℕ
parts_from = branches_by + most_branches

abbrev pub parts_by : ℕ
parts_by = parts_from + most_branches + 2

abbrev pub index_long : ℕ
index_long = parts_by + most_nodes

pub record Indexed (E : Entries) (x : List ℕ) : Type 0 where
  pub long : index_long ≤ length x
  pub branches : Buckets (λ b. (branch_entry_at E b).node) (length E.branches) most_nodes x (drop branches_by x)
  pub parts : Buckets (λ n. (node_entry_at E n).parent) (length E.nodes) (most_branches + 1) (drop parts_from x) (drop parts_by x)

-- The branches whose argument is a: those that pay participant a, that have a parts, whose contract is node a, that renew as definition a
unfoldable pub namers : Entries → ℕ → List ℕ
namers E a = bucket_of (λ b. (branch_entry_at E b).arg) (length E.branches) a

-- Their index: from 0 where the branches with each argument start, then the branches by argument
abbrev pub namers_long : ℕ
namers_long = branches_by + most_branches

pub record Named (E : Entries) (y : List ℕ) : Type 0 where
  pub long : namers_long ≤ length y
  pub branches : Buckets (λ b. (branch_entry_at E b).arg) (length E.branches) most_nodes y (drop branches_by y)
