-- Laws of the table: what the sections hold, and an entry more in each. Assumes nothing.
use Prim.Native.Nat.{ℕ, zero, suc, ◌+◌, ◌-◌, ◌*◌, ◌<◌, ◌≤◌}
use mathlib.Core.Path.{◌≡◌, sym, ap}
use mathlib.Core.List.{List, [], ◌∷◌}
use mathlib.Core.Bool.{false, ◌||◌}
use native.Mathlib.Numerals.{add-one}
use native.Mathlib.Omega.{arith}
use lib.ListN.{length, get_or, drop, drop_of_length-le}
use lib.Seq.{sets, drop-cons}
use lib.Dec.{eqb}
use Rattle.std.specs.List.{list_any, range_with_len}
use Rattle.tables.specs.declared.St.{St}
use Rattle.tables.specs.declared.Head.{Head}
use Rattle.tables.specs.declared.Action.{Action}
use Rattle.tables.specs.Entries.{held, first_of, node_in, branch_in, listed_in, cell_in, cells_from, node_wide, branch_wide, def_wide, nodes_from, branches_from, defs_from, listed_from, most_nodes, most_branches, most_listed, most_cells, most_defs, node_cells, branch_cells, def_cells}
use Rattle.tables.specs.State.{nodes_of, branches_of, defs_of, listed_of, cells_of, state_of, Fits, node_entry, branch_entry, def_entry, with_node, with_branch, with_def, with_listed, with_cell, more_nodes, more_branches, more_defs, more_listed, more_cells, among, since, Headed}
use Rattle.tables.proofs.Runs.{at_place, first_of-length, first_of_get_d}
use Rattle.tables.proofs.Sections.{nodes_section, branches_section, defs_section, section_before, section_behind, section_more, numbers-before, numbers-behind, numbers_more}

-- ---- an entry more, stored at its place: its own section grows by it, and the others hold what they held

pub put-node : (st : St) (t : List ℕ) (d p w n : ℕ) → Fits st → st.nodes < most_nodes → cells_from ≤ length t
    → state_of (more_nodes st) (sets t (nodes_from + node_wide * st.nodes) (node_cells (node_entry d p w n))) ≡ with_node (node_entry d p w n) (state_of st t)
unfolding node_cells nodes_of branches_of defs_of listed_of cells_of
put-node st t d p w n fits room long =
    rw (
      section_more nodes_section st.nodes t (node_entry d p w n) (omega arith),
      section_behind branches_section st.branches (nodes_from + node_wide * st.nodes) t (node_cells (node_entry d p w n)) (omega arith),
      section_behind defs_section st.defs (nodes_from + node_wide * st.nodes) t (node_cells (node_entry d p w n)) (omega arith),
      numbers-behind t listed_from st.listed (nodes_from + node_wide * st.nodes) (node_cells (node_entry d p w n)) (omega arith),
      numbers-behind t cells_from st.cells (nodes_from + node_wide * st.nodes) (node_cells (node_entry d p w n)) (omega arith),
    )

pub put-branch : (st : St) (t : List ℕ) (h : Head) (a : Action) → Fits st → st.branches < most_branches → cells_from ≤ length t
    → state_of (more_branches st) (sets t (branches_from + branch_wide * st.branches) (branch_cells (branch_entry h a))) ≡ with_branch (branch_entry h a) (state_of st t)
unfolding branch_cells nodes_of branches_of defs_of listed_of cells_of
put-branch st t h a fits room long =
    rw (
      section_before nodes_section st.nodes (branches_from + branch_wide * st.branches) t (branch_cells (branch_entry h a)) (omega arith),
      section_more branches_section st.branches t (branch_entry h a) (omega arith),
      section_behind defs_section st.defs (branches_from + branch_wide * st.branches) t (branch_cells (branch_entry h a)) (omega arith),
      numbers-behind t listed_from st.listed (branches_from + branch_wide * st.branches) (branch_cells (branch_entry h a)) (omega arith),
      numbers-behind t cells_from st.cells (branches_from + branch_wide * st.branches) (branch_cells (branch_entry h a)) (omega arith),
    )

pub put-def : (st : St) (t : List ℕ) (r f n : ℕ) → Fits st → st.defs < most_defs → cells_from ≤ length t
    → state_of (more_defs st) (sets t (defs_from + def_wide * st.defs) (def_cells (def_entry r f n))) ≡ with_def (def_entry r f n) (state_of st t)
unfolding def_cells nodes_of branches_of defs_of listed_of cells_of
put-def st t r f n fits room long =
    rw (
      section_before nodes_section st.nodes (defs_from + def_wide * st.defs) t (def_cells (def_entry r f n)) (omega arith),
      section_before branches_section st.branches (defs_from + def_wide * st.defs) t (def_cells (def_entry r f n)) (omega arith),
      section_more defs_section st.defs t (def_entry r f n) (omega arith),
      numbers-behind t listed_from st.listed (defs_from + def_wide * st.defs) (def_cells (def_entry r f n)) (omega arith),
      numbers-behind t cells_from st.cells (defs_from + def_wide * st.defs) (def_cells (def_entry r f n)) (omega arith),
    )

pub put-listed : (st : St) (t : List ℕ) (v : ℕ) → Fits st → st.listed < most_listed → cells_from ≤ length t
    → state_of (more_listed st) (sets t (listed_from + st.listed) (v ∷ [])) ≡ with_listed v (state_of st t)
unfolding nodes_of branches_of defs_of listed_of cells_of
put-listed st t v fits room long =
    rw (
      section_before nodes_section st.nodes (listed_from + st.listed) t (v ∷ []) (omega arith),
      section_before branches_section st.branches (listed_from + st.listed) t (v ∷ []) (omega arith),
      section_before defs_section st.defs (listed_from + st.listed) t (v ∷ []) (omega arith),
      numbers_more t listed_from st.listed v (omega arith),
      numbers-behind t cells_from st.cells (listed_from + st.listed) (v ∷ []) (omega arith),
    )

pub put-cell : (st : St) (t : List ℕ) (v : ℕ) → Fits st → st.cells < most_cells → cells_from + st.cells < length t
    → state_of (more_cells st) (sets t (cells_from + st.cells) (v ∷ [])) ≡ with_cell v (state_of st t)
unfolding nodes_of branches_of defs_of listed_of cells_of
put-cell st t v fits room long =
    rw (
      section_before nodes_section st.nodes (cells_from + st.cells) t (v ∷ []) (omega arith),
      section_before branches_section st.branches (cells_from + st.cells) t (v ∷ []) (omega arith),
      section_before defs_section st.defs (cells_from + st.cells) t (v ∷ []) (omega arith),
      numbers-before t listed_from st.listed (cells_from + st.cells) (v ∷ []) (omega arith),
      numbers_more t cells_from st.cells v (omega arith),
    )

-- ---- the header lies before all sections, and tells how much of each is filled

pub put_header : (k : ℕ) (st : St) (t : List ℕ) → cells_from ≤ length t → Headed k st t (sets t 0 (k ∷ st.defs ∷ st.nodes ∷ st.branches ∷ st.listed ∷ st.cells ∷ []))
unfolding held nodes_of branches_of defs_of listed_of cells_of
put_header k st t long =
    let vs : List ℕ = k ∷ st.defs ∷ st.nodes ∷ st.branches ∷ st.listed ∷ st.cells ∷ [] in
    let told : (i : ℕ) → i < 6 → get_or (sets t 0 vs) i 0 ≡ get_or vs i 0 = λ i l. at_place vs t 0 i i (omega arith) l (omega arith) in
    record {
      participants = told 0 (omega arith);
      defs = told 1 (omega arith);
      nodes = told 2 (omega arith);
      entries = rw (
        told 1 (omega arith),
        told 2 (omega arith),
        told 3 (omega arith),
        told 4 (omega arith),
        told 5 (omega arith),
        section_behind nodes_section st.nodes 0 t vs (omega arith),
        section_behind branches_section st.branches 0 t vs (omega arith),
        section_behind defs_section st.defs 0 t vs (omega arith),
        numbers-behind t listed_from st.listed 0 vs (omega arith),
        numbers-behind t cells_from st.cells 0 vs (omega arith),
      );
    }

-- ---- how many entries the sections hold

pub nodes-length : (n : ℕ) (t : List ℕ) → length (nodes_of n t) ≡ n
unfolding nodes_of
nodes-length n t = first_of-length (node_in t) n

pub branches-length : (n : ℕ) (t : List ℕ) → length (branches_of n t) ≡ n
unfolding branches_of
branches-length n t = first_of-length (branch_in t) n

pub listed-length : (n : ℕ) (t : List ℕ) → length (listed_of n t) ≡ n
unfolding listed_of
listed-length n t = first_of-length (listed_in t) n

pub cells-length : (n : ℕ) (t : List ℕ) → length (cells_of n t) ≡ n
unfolding cells_of
cells-length n t = first_of-length (cell_in t) n

-- ---- looking among the listed numbers

module _ (t : List ℕ) (v i n : ℕ) where
  among-end : n ≤ i → among v (since i (listed_of n t)) ≡ false
  unfolding among since
  among-end h =
      let l : length (listed_of n t) ≤ i = rw (listed-length n t) h in
      rw (drop_of_length-le (listed_of n t) l)

  listed-drop : i < n → drop i (listed_of n t) ≡ get_or t (listed_from + i) 0 ∷ drop (i + 1) (listed_of n t)
  unfolding listed_of
  listed-drop h =
      let l : i < length (first_of (listed_in t) n) = rw (first_of-length (listed_in t) n) h in
      rw (add-one, drop-cons (first_of (listed_in t) n) i 0 l, first_of_get_d (listed_in t) n i 0 h)

-- k numbers from place i on
pub among-range : (t : List ℕ) (v k i n : ℕ) → n - i ≡ k → list_any (λ j. eqb (get_or t (listed_from + j) 0) v) (range_with_len i k) ≡ among v (since i (listed_of n t))
unfolding among since
among-range t v zero i n e = sym (among-end t v i n (omega arith))
among-range t v (suc k) i n e = rw (listed-drop t v i n (omega arith)) (ap (λ b. eqb (get_or t (listed_from + i) 0) v || b) (among-range t v k (i + 1) n (omega arith)))
