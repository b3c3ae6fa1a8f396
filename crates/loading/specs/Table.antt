-- A sheet as a table: where the numbers of K participants and of entries stand among the cells. Assumes nothing.
use Rattle.std.specs.Prelude.{ℕ, ◌-◌, ◌*◌, List, [], ◌∷◌, ◌++◌, length, replicate}
use Rattle.tables.specs.Entries.{Entries, node_cells, branch_cells, def_cells, flat, node_wide, branch_wide, def_wide, most_nodes, most_branches, most_defs, most_listed, most_cells, nodes_from}

-- n cells: the numbers, and zeros past them
unfoldable pub padded : ℕ → List ℕ → List ℕ
padded n xs = xs ++ replicate (n - length xs) 0

-- How many participants there are, and how much of each section is filled
unfoldable pub header_cells : ℕ → Entries → List ℕ
header_cells K E = K ∷ length E.defs ∷ length E.nodes ∷ length E.branches ∷ length E.listed ∷ length E.cells ∷ []

-- The header, and a section for each kind of entry
unfoldable pub section_cells : ℕ → Entries → List ℕ
section_cells K E =
    padded nodes_from (header_cells K E) ++ padded (node_wide * most_nodes) (flat node_cells E.nodes) ++ padded (branch_wide * most_branches) (flat branch_cells E.branches)
    ++ padded (def_wide * most_defs) (flat def_cells E.defs) ++ padded most_listed E.listed ++ padded most_cells E.cells

-- A table of n cells, "zero past what is held"
unfoldable pub table_of : ℕ → ℕ → Entries → List ℕ
table_of n K E = padded n (section_cells K E)
