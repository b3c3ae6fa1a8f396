-- What the readers of contracts promise of the counts. Assumes nothing.
use Rattle.std.specs.Prelude.{ℕ, ◌+◌, ◌*◌, ◌≤◌, ◌≡◌, List, length}
use Rattle.tables.specs.declared.St.{St}
use Rattle.tables.specs.Entries.{most_nodes, most_branches, most_defs}
use Rattle.contracts.specs.declared.Limits.{Limits}

-- within the limits, in the definition that is read: a branch lists up to 8 numbers and a definition up to 24, and a cell took two bytes
pub record Few (s : List ℕ) (lim : Limits) (st : St) : Type 0 where
  pub few-nodes : st.nodes ≤ most_nodes
  pub few-branches : st.branches ≤ most_branches
  pub few-defs : st.defs ≤ most_defs
  pub this_def : st.defs ≡ lim.def + 1
  pub few-listed : st.listed ≤ 8 * st.branches + 24 * st.defs
  pub few-cells : 2 * st.cells ≤ st.at
  pub inside : st.at ≤ length s
  pub short : length s ≤ 65536

-- only b branches and l listed numbers were added
pub record Added (s : List ℕ) (b l : ℕ) (st e : St) : Type 0 where
  pub nodes : e.nodes ≡ st.nodes
  pub branches : e.branches ≡ st.branches + b
  pub defs : e.defs ≡ st.defs
  pub listed : e.listed ≡ st.listed + l
  pub cells : e.cells ≡ st.cells
  pub further : st.at ≤ e.at
  pub inside : e.at ≤ length s
