-- A sheet as the reader holds it: entries in the order of the text, and where their numbers stand in the table. Assumes nothing.
use Rattle.std.specs.Prelude.{ℕ, zero, suc, ◌+◌, ◌*◌, ◌≤◌, List, [], ◌∷◌, ◌++◌, length, get_or}

-- "Each `c` is a node": its definition, the branch whose contract it is (1,024 for a root), its weight there, its count of branches
pub record NodeEntry : Type 0 where
  pub definition : ℕ
  pub parent : ℕ
  pub weight : ℕ
  pub count : ℕ

-- "branch: signers, opening time, an action": kind 0 `w`, 1 `s`, 2 `r`, 3 `g`. The argument is whom it pays, how many parts,
-- the node of its contract, the definition. An `r` has its secrets among the listed numbers, and its condition among the cells
pub record BranchEntry : Type 0 where
  pub node : ℕ
  pub signers : ℕ
  pub opens : ℕ
  pub kind : ℕ
  pub arg : ℕ
  pub first : ℕ
  pub count : ℕ
  pub cond : ℕ

-- "F lines `def`": the root, where its deposits and then its owners are listed, its count of secrets
pub record DefEntry : Type 0 where
  pub root : ℕ
  pub first : ℕ
  pub secrets : ℕ

pub record Entries : Type 0 where
  pub nodes : List NodeEntry
  pub branches : List BranchEntry
  pub defs : List DefEntry
  pub listed : List ℕ
  pub cells : List ℕ

-- the numbers of an entry, in the order in which they stand
unfoldable pub node_cells : NodeEntry → List ℕ
node_cells e = e.definition ∷ e.parent ∷ e.weight ∷ e.count ∷ []

unfoldable pub branch_cells : BranchEntry → List ℕ
branch_cells e = e.node ∷ e.signers ∷ e.opens ∷ e.kind ∷ e.arg ∷ e.first ∷ e.count ∷ e.cond ∷ []

unfoldable pub def_cells : DefEntry → List ℕ
def_cells e = e.root ∷ e.first ∷ e.secrets ∷ []

-- all entries' numbers, one entry after the other
unfoldable pub flat : {A : Type 0} → (A → List ℕ) → List A → List ℕ
flat numbers [] = []
flat numbers (x ∷ xs) = numbers x ++ flat numbers xs

-- f 0, f 1, .., f (n - 1)
unfoldable pub first_of : {A : Type 0} → (ℕ → A) → ℕ → List A
first_of f zero = []
first_of f (suc n) = first_of f n ++ (f n ∷ [])

-- ---- the layout: where entry i of each section stands in a table

-- how many numbers an entry has
abbrev pub node_wide : ℕ
node_wide = 4

abbrev pub branch_wide : ℕ
branch_wide = 8

abbrev pub def_wide : ℕ
def_wide = 3

-- "F definitions (1 to 32)"; "512 nodes, 1,024 branches"; of each definition at most 16 deposits and 8 owners are listed, and of each branch 8
-- secrets; each cell stands for a field, which has two bytes or more of at most 65,536
abbrev pub most_nodes : ℕ
most_nodes = 512

abbrev pub most_branches : ℕ
most_branches = 1024

abbrev pub most_defs : ℕ
most_defs = 32

abbrev pub most_listed : ℕ
most_listed = 8960

abbrev pub most_cells : ℕ
most_cells = 32768

-- where the sections start: each behind the one before, and the first behind the header
abbrev pub nodes_from : ℕ
nodes_from = 8

abbrev pub branches_from : ℕ
branches_from = nodes_from + node_wide * most_nodes

abbrev pub defs_from : ℕ
defs_from = branches_from + branch_wide * most_branches

abbrev pub listed_from : ℕ
listed_from = defs_from + def_wide * most_defs

-- every table has all that stands before the cells
abbrev pub cells_from : ℕ
cells_from = listed_from + most_listed

-- how many numbers a table has that serves for any request
abbrev pub table_long : ℕ
table_long = cells_from + most_cells

-- a table that serves for the request s: each cell stands for a field, which has two bytes or more
abbrev pub Spacious : List ℕ → List ℕ → Type 0
Spacious s t = 2 * cells_from + length s ≤ 2 * length t

abbrev pub node_in : List ℕ → ℕ → NodeEntry
node_in t i =
    record {
      definition = get_or t (nodes_from + node_wide * i) 0;
      parent = get_or t (nodes_from + 1 + node_wide * i) 0;
      weight = get_or t (nodes_from + 2 + node_wide * i) 0;
      count = get_or t (nodes_from + 3 + node_wide * i) 0;
    }

abbrev pub branch_in : List ℕ → ℕ → BranchEntry
branch_in t i =
    record {
      node = get_or t (branches_from + branch_wide * i) 0;
      signers = get_or t (branches_from + 1 + branch_wide * i) 0;
      opens = get_or t (branches_from + 2 + branch_wide * i) 0;
      kind = get_or t (branches_from + 3 + branch_wide * i) 0;
      arg = get_or t (branches_from + 4 + branch_wide * i) 0;
      first = get_or t (branches_from + 5 + branch_wide * i) 0;
      count = get_or t (branches_from + 6 + branch_wide * i) 0;
      cond = get_or t (branches_from + 7 + branch_wide * i) 0;
    }

abbrev pub def_in : List ℕ → ℕ → DefEntry
def_in t i = record { root = get_or t (defs_from + def_wide * i) 0; first = get_or t (defs_from + 1 + def_wide * i) 0; secrets = get_or t (defs_from + 2 + def_wide * i) 0 }

abbrev pub listed_in : List ℕ → ℕ → ℕ
listed_in t i = get_or t (listed_from + i) 0

abbrev pub cell_in : List ℕ → ℕ → ℕ
cell_in t i = get_or t (cells_from + i) 0

-- what a table holds, of which so much is filled
abbrev pub entries_of : ℕ → ℕ → ℕ → ℕ → ℕ → List ℕ → Entries
entries_of nodes branches defs listed cells t =
    record {
      nodes = first_of (node_in t) nodes;
      branches = first_of (branch_in t) branches;
      defs = first_of (def_in t) defs;
      listed = first_of (listed_in t) listed;
      cells = first_of (cell_in t) cells;
    }

-- by the table's header, once the sheet is read whole
unfoldable pub held : List ℕ → Entries
held t = entries_of (get_or t 2 0) (get_or t 3 0) (get_or t 1 0) (get_or t 4 0) (get_or t 5 0) t

abbrev pub people : List ℕ → ℕ
people t = get_or t 0 0

-- what the header counts lies within its section
pub record Within (t : List ℕ) : Type 0 where
  pub defs : get_or t 1 0 ≤ most_defs
  pub nodes : get_or t 2 0 ≤ most_nodes
  pub branches : get_or t 3 0 ≤ most_branches
  pub listed : get_or t 4 0 ≤ most_listed
  pub cells : get_or t 5 0 ≤ most_cells
