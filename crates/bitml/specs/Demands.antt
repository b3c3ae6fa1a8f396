-- What is proved of the definitions: the verdict over runs, the check of rows, and demands 2 and 3. Assumes nothing.
use Rattle.std.specs.Prelude.{◌≡◌, ◌↔◌, ◌⊎◌, ℕ, suc, ◌≤◌, ◌<◌, true, length}
use mathlib.Core.List.{List, map, Permᴰ}
use Rattle.bitml.specs.Lists.{sum, All}
use Rattle.bitml.specs.Sheet.{Sheet, Cond, holds, branches_at, branch_at, parts}
use Rattle.bitml.specs.Runs.{Reached, closed, counts_always, own, Exit, ExitTree, Liquid}
use Rattle.bitml.specs.Rows.{Row, has, rank_of, Distinct, InAnyOrder, Rising, Accepted, FaultAt, check}
use Rattle.bitml.specs.Sorting.{sorted}
use Rattle.bitml.specs.Rule.{rank_at, reached, row_for, rows, liquid, frozen, make}
use Rattle.bitml.specs.Promises.{WellFormed}
use Rattle.bitml.specs.Liquidity.{Liquidity}
use Rattle.bitml.specs.Why.{Why}
use Rattle.bitml.specs.Taken.{EventsTaken}

-- "the lowest reached node with no exit"
pub record Frozen (s : Sheet) (p n : ℕ) : Type 0 where
  pub reach : Reached s n
  pub no_exit : Exit s p n → ⊥
  pub lowest : (m : ℕ) → m < n → Reached s m → Exit s p m

-- Branch b of node n is own to p, and its contracts all have exits
pub record Serves (s : Sheet) (p n b : ℕ) : Type 0 where
  pub there : b < length (branches_at s n)
  pub mine : own s p n (branch_at s n b) ≡ true
  pub exits : All (Exit s p) (parts (branch_at s n b).action)

-- "1 + the sum of the ranks of the contracts in that branch", branch b of node n, where node m has rank k m
abbrev pub cost_by : (ℕ → ℕ) → Sheet → ℕ → ℕ → ℕ
cost_by k s n b = suc (sum (map k (parts (branch_at s n b).action)))

-- "rank is the least such number over own branches whose contracts all have exits, branch the lowest with that rank"
pub record Best (s : Sheet) (p : ℕ) (k : ℕ → ℕ) (r : Row) : Type 0 where
  pub serves : Serves s p r.node r.branch
  pub rank : r.rank ≡ cost_by k s r.node r.branch
  pub least : (b : ℕ) → Serves s p r.node b → r.rank ≤ cost_by k s r.node b
  pub lowest : (b : ℕ) → Serves s p r.node b → b < r.branch → r.rank < cost_by k s r.node b

-- "The published rule: one row for each reached node", its rank and branch by runs, exits and the ranks that the rows give
pub record Ruled (s : Sheet) (p : ℕ) (R : List Row) : Type 0 where
  pub reach : (n : ℕ) → (has R n ≡ true) ↔ Reached s n
  pub once : Distinct R
  pub each : All (Best s p (rank_of R)) R

-- "`make` now writes rows by rising node number, so its whole output is fixed"
pub record Published (s : Sheet) (p : ℕ) (R : List Row) : Type 0 where
  pub ruled : Ruled s p R
  pub rising : Rising 0 R

pub record Demands : Type 0 where
  -- A condition counts as `t` exactly when it names no secret and is true, whatever the values
  pub counts-always : (c : Cond) → (counts_always c ≡ true) ↔ ((closed c ≡ true) × ((v : ℕ → ℕ) → holds v c ≡ true))
  -- An exit by runs is one by trees
  pub exit_is_tree : (s : Sheet) (p n : ℕ) → Exit s p n ↔ ExitTree s p n
  -- A rank is nonzero exactly where the node has an exit by runs; and then it is the published one
  pub rank-is_exit : (s : Sheet) → WellFormed s → (p n : ℕ) → (0 < rank_at s p n) ↔ Exit s p n
  pub rank-is_best : (s : Sheet) → WellFormed s → (p n : ℕ) → Exit s p n → Best s p (rank_at s p) (row_for s p n)
  -- Computed reached nodes are those of runs
  pub reached-is-run : (s : Sheet) → WellFormed s → (n : ℕ) → (reached s n ≡ true) ↔ Reached s n
  -- `make` answers liquid exactly when every reached node has an exit, else the lowest that has none
  pub verdict : (s : Sheet) → WellFormed s → (p : ℕ) → ((make s p ≡ liquid (rows s p)) × Liquid s p) ⊎ ((n : ℕ) × (make s p ≡ frozen n) × Frozen s p n)
  -- and liquid with the rows that the published rule asks for, and no others
  pub make-is-published : (s : Sheet) → WellFormed s → (p : ℕ) (R : List Row) → (make s p ≡ liquid R) ↔ Published s p R
  -- `check` answers 0 exactly for accepted rows
  pub check-is-accepted : (s : Sheet) (p : ℕ) (R : List Row) → ((check s p R).number ≡ 0) ↔ Accepted s p R
  -- and else the number and the place of the one fault that comes first
  pub check-is-fault : (s : Sheet) (p : ℕ) (R : List Row) (n i : ℕ) → ((0 < n) × (check s p R ≡ record { number = n; place = i })) ↔ FaultAt s p R n i
  -- Sorting keeps the rows; rows that nothing but their order is against are accepted once sorted; and what the rule gives in any
  -- order is then what `make` gives
  pub sorted_keeps : (R : List Row) → Permᴰ R (sorted R)
  pub sorted-accepted : (s : Sheet) (p : ℕ) (R : List Row) → InAnyOrder s p R → Accepted s p (sorted R)
  pub sorted-made : (s : Sheet) → WellFormed s → (p : ℕ) (R : List Row) → Ruled s p R → make s p ≡ liquid (sorted R)
  -- DEMAND 2, the ledger: "an event is taken exactly when the rules allow it and the ledger's limits hold, and has their effect"
  pub events-taken : EventsTaken
  -- "What the rule once gave in another order is accepted after sorting"
  pub sorted-ruled : (s : Sheet) → WellFormed s → (p : ℕ) (R : List Row) → Ruled s p R → Accepted s p (sorted R)
  -- DEMAND 3, both halves: the claim over every list of events; and on a liquid sheet `make` gives the published rows, which `check` accepts
  pub liquidity : Liquidity
  pub published : (s : Sheet) → WellFormed s → (p : ℕ) → Liquid s p → (make s p ≡ liquid (rows s p)) × ((check s p (rows s p)).number ≡ 0)
  -- "A reader of these lines may rely on each": of the frozen node that `make` names, the steps are a run there, a shortest and the first of
  -- those; every branch has a cause, which holds, and no lower one does
  pub why : Why
