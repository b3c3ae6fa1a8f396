-- The reading state: a position in the request, and the entries that were read so far. Assumes nothing.
use Rattle.std.specs.Prelude.{ℕ, ◌+◌, ◌≤◌, ◌≡◌, List, [], ◌∷◌, ◌++◌, Bool, false, ◌||◌, get_or, drop, eqb}
use Rattle.tables.specs.declared.St.{St}
use Rattle.tables.specs.declared.Head.{Head}
use Rattle.tables.specs.declared.Action.{Action}
use Rattle.tables.specs.Entries.{NodeEntry, BranchEntry, DefEntry, Entries, first_of, node_in, branch_in, def_in, listed_in, cell_in, held, people, most_nodes, most_branches, most_defs, most_listed, most_cells}

pub record State : Type 0 where
  pub at : ℕ
  pub nodes : List NodeEntry
  pub branches : List BranchEntry
  pub defs : List DefEntry
  pub listed : List ℕ
  pub cells : List ℕ

-- the entries alone
abbrev pub entries : State → Entries
entries a = record { nodes = a.nodes; branches = a.branches; defs = a.defs; listed = a.listed; cells = a.cells }

-- ---- what a table holds

unfoldable pub nodes_of : ℕ → List ℕ → List NodeEntry
nodes_of n t = first_of (node_in t) n

unfoldable pub branches_of : ℕ → List ℕ → List BranchEntry
branches_of n t = first_of (branch_in t) n

unfoldable pub defs_of : ℕ → List ℕ → List DefEntry
defs_of n t = first_of (def_in t) n

unfoldable pub listed_of : ℕ → List ℕ → List ℕ
listed_of n t = first_of (listed_in t) n

unfoldable pub cells_of : ℕ → List ℕ → List ℕ
cells_of n t = first_of (cell_in t) n

abbrev pub state_of : St → List ℕ → State
state_of st t =
    record {
      at = st.at;
      nodes = nodes_of st.nodes t;
      branches = branches_of st.branches t;
      defs = defs_of st.defs t;
      listed = listed_of st.listed t;
      cells = cells_of st.cells t;
    }

-- what is filled lies within its section
pub record Fits (st : St) : Type 0 where
  pub nodes-fit : st.nodes ≤ most_nodes
  pub branches-fit : st.branches ≤ most_branches
  pub defs-fit : st.defs ≤ most_defs
  pub listed-fit : st.listed ≤ most_listed
  pub cells_fit : st.cells ≤ most_cells

-- ---- an entry more

abbrev pub node_entry : ℕ → ℕ → ℕ → ℕ → NodeEntry
node_entry d p w n = record { definition = d; parent = p; weight = w; count = n }

abbrev pub branch_entry : Head → Action → BranchEntry
branch_entry h a =
    record {
      node = h.node;
      signers = h.signers;
      opens = h.opens;
      kind = a.kind;
      arg = a.arg;
      first = a.first;
      count = a.count;
      cond = a.cond;
    }

abbrev pub def_entry : ℕ → ℕ → ℕ → DefEntry
def_entry r f n = record { root = r; first = f; secrets = n }

abbrev pub with_node : NodeEntry → State → State
with_node e a = record { at = a.at; nodes = a.nodes ++ (e ∷ []); branches = a.branches; defs = a.defs; listed = a.listed; cells = a.cells }

abbrev pub with_branch : BranchEntry → State → State
with_branch e a = record { at = a.at; nodes = a.nodes; branches = a.branches ++ (e ∷ []); defs = a.defs; listed = a.listed; cells = a.cells }

abbrev pub with_def : DefEntry → State → State
with_def e a = record { at = a.at; nodes = a.nodes; branches = a.branches; defs = a.defs ++ (e ∷ []); listed = a.listed; cells = a.cells }

abbrev pub with_listed : ℕ → State → State
with_listed v a = record { at = a.at; nodes = a.nodes; branches = a.branches; defs = a.defs; listed = a.listed ++ (v ∷ []); cells = a.cells }

abbrev pub with_cell : ℕ → State → State
with_cell v a = record { at = a.at; nodes = a.nodes; branches = a.branches; defs = a.defs; listed = a.listed; cells = a.cells ++ (v ∷ []) }

-- the same of the counts
abbrev pub more_nodes : St → St
more_nodes e = record { at = e.at; nodes = e.nodes + 1; branches = e.branches; defs = e.defs; listed = e.listed; cells = e.cells }

abbrev pub more_branches : St → St
more_branches e = record { at = e.at; nodes = e.nodes; branches = e.branches + 1; defs = e.defs; listed = e.listed; cells = e.cells }

abbrev pub more_defs : St → St
more_defs e = record { at = e.at; nodes = e.nodes; branches = e.branches; defs = e.defs + 1; listed = e.listed; cells = e.cells }

abbrev pub more_listed : St → St
more_listed e = record { at = e.at; nodes = e.nodes; branches = e.branches; defs = e.defs; listed = e.listed + 1; cells = e.cells }

abbrev pub more_cells : St → St
more_cells e = record { at = e.at; nodes = e.nodes; branches = e.branches; defs = e.defs; listed = e.listed; cells = e.cells + 1 }

-- ---- listed numbers

-- is v in the list?
unfoldable pub among : ℕ → List ℕ → Bool
among v [] = false
among v (x ∷ xs) = eqb x v || among v xs

-- what was listed from a place on
unfoldable pub since : ℕ → List ℕ → List ℕ
since n xs = drop n xs

-- ---- a sheet that is read whole

-- u is the table t with a header, by which it holds what was read, for k participants
pub record Headed (k : ℕ) (st : St) (t u : List ℕ) : Type 0 where
  pub participants : people u ≡ k
  pub defs : get_or u 1 0 ≡ st.defs
  pub nodes : get_or u 2 0 ≡ st.nodes
  pub entries : held u ≡ entries (state_of st t)
