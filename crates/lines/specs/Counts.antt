-- What the readers of lines promise of the counts. Assumes nothing.
use Rattle.std.specs.Prelude.{ℕ, ◌+◌, ◌*◌, ◌≤◌, ◌≡◌, List, length}
use Rattle.tables.specs.declared.St.{St}
use Rattle.tables.specs.Entries.{most_nodes, most_branches}

-- outside contracts: within the limits; a branch lists up to 8 numbers, a definition up to 24, and the line at hand up to n so
-- far; a cell took two bytes
pub record Between (s : List ℕ) (n : ℕ) (st : St) : Type 0 where
  pub few-nodes : st.nodes ≤ most_nodes
  pub few-branches : st.branches ≤ most_branches
  pub few-listed : st.listed ≤ 8 * st.branches + 24 * st.defs + n
  pub few-cells : 2 * st.cells ≤ st.at
  pub inside : st.at ≤ length s
  pub short : length s ≤ 65536

-- d definitions are read
pub record Defined (s : List ℕ) (d : ℕ) (e : St) : Type 0 where
  pub between : Between s 0 e
  pub now_defs : e.defs ≡ d
