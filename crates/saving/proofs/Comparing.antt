-- Tables whose cells are the same as far as they are filled hold the same sheet, and no others do. Assumes nothing.
use Prim.Native.Nat.{ℕ, zero, suc, ◌+◌, ◌-◌, ◌*◌, ◌≤◌, ◌<◌}
use mathlib.Core.Path.{◌≡◌, refl, sym, ap, ap₂, ◌∙◌, subst}
use mathlib.Core.Bool.{Bool, true, false, ◌&&◌, false≢true}
use mathlib.Core.List.{List, [], ◌∷◌, ◌++◌}
use native.Mathlib.Omega.{arith}
use lib.ListN.{length, get_or, take, drop}
use lib.Pointwise.{pointwise}
use lib.Seq.{drop-cons}
use lib.Dec.{eqb}
use borrow.Author.Tests.{eqb-true, eq-eqb}
use Rattle.bitml.specs.Lists.{◌&◌}
use Rattle.bitml.proofs.Lists.{is_false, and_l, and_r, and_i, and_true, and-end, and_assoc}
use Rattle.tables.specs.Entries.{Entries, first_of, node_in, branch_in, def_in, listed_in, cell_in, held, node_wide, branch_wide, def_wide, nodes_from, branches_from, defs_from, listed_from, cells_from}
use Rattle.tables.proofs.Runs.{first_of-length}
use Rattle.writing.specs.Writable.{same_all, same_node, same_branch, same_def, same_entries}
use Rattle.writing.proofs.Same.{same-is}
use Rattle.saving.specs.Comparing.{same_cells, same_sheet}

-- ---- lists

all_more : {A : Type 0} (same : A → A → Bool) (xs ys : List A) (x y : A) → length xs ≡ length ys
    → same_all same (xs ++ (x ∷ [])) (ys ++ (y ∷ [])) ≡ (same_all same xs ys & same x y)
unfolding same_all ◌&◌
all_more same [] [] x y e = and-end (same x y)
all_more same [] (b ∷ ys) x y e = absurd (omega arith)
all_more same (a ∷ xs) [] x y e = absurd (omega arith)
all_more same (a ∷ xs) (b ∷ ys) x y e = ap (λ z. same a b & z) (all_more same xs ys x y (omega arith)) ∙ sym (and_assoc (same a b) (same_all same xs ys) (same x y))

and_same : (a b : Bool) → (a && b) ≡ (a & b)
unfolding ◌&◌
and_same true b = refl
and_same false b = refl

module _ (u t : List ℕ) where
  -- ---- cells

  cells-join : (m n from to : ℕ) → to ≡ from + m → same_cells from (m + n) u t ≡ (same_cells from m u t & same_cells to n u t)
  unfolding same_cells ◌&◌
  cells-join zero n from to e = ap₂ (λ a b. same_cells a b u t) (let z : from ≡ to = omega arith in z) (let z : 0 + n ≡ n = omega arith in z)
  cells-join (suc m) n from to e =
      let z : suc m + n ≡ suc (m + n) = omega arith in
      ap (λ k. same_cells from k u t) z ∙ ap (λ b. eqb (get_or u from 0) (get_or t from 0) & b) (cells-join m n (suc from) to (omega arith))
      ∙ sym (and_assoc (eqb (get_or u from 0) (get_or t from 0)) (same_cells (suc from) m u t) (same_cells to n u t))

  -- a cell, then
  cell_then : (from to n : ℕ) (rest : Bool) → to ≡ suc from → same_cells to n u t ≡ rest → same_cells from (suc n) u t ≡ (eqb (get_or u from 0) (get_or t from 0) & rest)
  unfolding same_cells
  cell_then from to n rest e h = ap (λ b. eqb (get_or u from 0) (get_or t from 0) & b) (subst (λ k. same_cells k n u t ≡ rest) e h)

  cell-last : (from : ℕ) → same_cells from 1 u t ≡ eqb (get_or u from 0) (get_or t from 0)
  unfolding same_cells
  cell-last from = and-end (eqb (get_or u from 0) (get_or t from 0))

  -- two slices, of which neither ends before n cells
  cells-same : (from n : ℕ) → from + n ≤ length u → from + n ≤ length t → pointwise eqb (take n (drop from u)) (take n (drop from t)) ≡ same_cells from n u t
  unfolding same_cells ◌&◌
  cells-same from zero h k = refl
  cells-same from (suc n) h k =
      let i : from < length u = omega arith in
      let j : from < length t = omega arith in
      rw (drop-cons u from 0 i, drop-cons t from 0 j) (and_same (eqb (get_or u from 0) (get_or t from 0)) _ ∙ ap (λ b. eqb (get_or u from 0) (get_or t from 0) & b) (cells-same (suc from) n (omega arith) (omega arith)))

  pub slices-same : (from n : ℕ) → from + n ≤ length u → from + n ≤ length t → pointwise eqb (take (from + n - from) (drop from u)) (take (from + n - from) (drop from t)) ≡ same_cells from n u t
  slices-same from n h k = let z : from + n - from ≡ n = omega arith in rw z (cells-same from n h k)

  -- ---- sections: n entries of k cells each

  section_same : {A : Type 0} (same : A → A → Bool) (f : List ℕ → ℕ → A) (from k : ℕ) → ((i : ℕ) → same (f u i) (f t i) ≡ same_cells (from + k * i) k u t)
      → (n : ℕ) → same_all same (first_of (f u) n) (first_of (f t) n) ≡ same_cells from (k * n) u t
  unfolding first_of same_all same_cells
  section_same same f from k h zero = ap (λ m. same_cells from m u t) (let z : 0 ≡ k * 0 = omega arith in z)
  section_same same f from k h (suc n) =
      let z : k * n + k ≡ k * suc n = omega arith in
      all_more same (first_of (f u) n) (first_of (f t) n) (f u n) (f t n) (first_of-length (f u) n ∙ sym (first_of-length (f t) n))
      ∙ ap₂ ◌&◌ (section_same same f from k h n) (h n) ∙ sym (cells-join (k * n) k from (from + k * n) refl) ∙ ap (λ m. same_cells from m u t) z

  node-cells : (i : ℕ) → same_node (node_in u i) (node_in t i) ≡ same_cells (nodes_from + node_wide * i) 4 u t
  unfolding same_node
  node-cells i =
      sym (cell_then (nodes_from + node_wide * i) (nodes_from + 1 + node_wide * i) 3 _ (omega arith) (cell_then (nodes_from + 1 + node_wide * i) (nodes_from + 2 + node_wide * i) 2 _ (omega arith)
      (cell_then (nodes_from + 2 + node_wide * i) (nodes_from + 3 + node_wide * i) 1 _ (omega arith) (cell-last (nodes_from + 3 + node_wide * i)))))

  branch-cells : (i : ℕ) → same_branch (branch_in u i) (branch_in t i) ≡ same_cells (branches_from + branch_wide * i) 8 u t
  unfolding same_branch
  branch-cells i =
      sym (cell_then (branches_from + branch_wide * i) (branches_from + 1 + branch_wide * i) 7 _ (omega arith) (cell_then (branches_from + 1 + branch_wide * i) (branches_from + 2 + branch_wide * i) 6 _ (omega arith)
      (cell_then (branches_from + 2 + branch_wide * i) (branches_from + 3 + branch_wide * i) 5 _ (omega arith) (cell_then (branches_from + 3 + branch_wide * i) (branches_from + 4 + branch_wide * i) 4 _ (omega arith)
      (cell_then (branches_from + 4 + branch_wide * i) (branches_from + 5 + branch_wide * i) 3 _ (omega arith) (cell_then (branches_from + 5 + branch_wide * i) (branches_from + 6 + branch_wide * i) 2 _ (omega arith)
      (cell_then (branches_from + 6 + branch_wide * i) (branches_from + 7 + branch_wide * i) 1 _ (omega arith) (cell-last (branches_from + 7 + branch_wide * i)))))))))

  def-cells : (i : ℕ) → same_def (def_in u i) (def_in t i) ≡ same_cells (defs_from + def_wide * i) 3 u t
  unfolding same_def
  def-cells i =
      sym (cell_then (defs_from + def_wide * i) (defs_from + 1 + def_wide * i) 2 _ (omega arith) (cell_then (defs_from + 1 + def_wide * i) (defs_from + 2 + def_wide * i) 1 _ (omega arith) (cell-last (defs_from + 2 + def_wide * i))))

  -- a section of single numbers
  numbers-same : (from n : ℕ) → same_all eqb (first_of (λ i. get_or u (from + i) 0) n) (first_of (λ i. get_or t (from + i) 0) n) ≡ same_cells from n u t
  numbers-same from n =
      section_same eqb (λ s i. get_or s (from + i) 0) from 1 (λ i. sym (cell-last (from + i)) ∙ ap (λ m. same_cells m 1 u t) (let z : from + i ≡ from + 1 * i = omega arith in z)) n
      ∙ ap (λ m. same_cells from m u t) (let z : 1 * n ≡ n = omega arith in z)

  -- ---- the header

  -- the counts of both
  record Counts : Type 0 where
    people : get_or u 0 0 ≡ get_or t 0 0
    defs : get_or u 1 0 ≡ get_or t 1 0
    nodes : get_or u 2 0 ≡ get_or t 2 0
    branches : get_or u 3 0 ≡ get_or t 3 0
    listed : get_or u 4 0 ≡ get_or t 4 0
    cells : get_or u 5 0 ≡ get_or t 5 0

  header_cells_lem : same_cells 0 6 u t
      ≡ (eqb (get_or u 0 0) (get_or t 0 0) & eqb (get_or u 1 0) (get_or t 1 0) & eqb (get_or u 2 0) (get_or t 2 0) & eqb (get_or u 3 0) (get_or t 3 0) & eqb (get_or u 4 0) (get_or t 4 0) & eqb (get_or u 5 0) (get_or t 5 0))
  header_cells_lem =
      cell_then 0 1 5 _ refl (cell_then 1 2 4 _ refl (cell_then 2 3 3 _ refl (cell_then 3 4 2 _ refl (cell_then 4 5 1 _ refl (cell-last 5)))))

  header_counts : same_cells 0 6 u t ≡ true → Counts
  header_counts h =
      let e₀ = sym header_cells_lem ∙ h in
      let e₁ = and_r _ _ e₀ in
      let e₂ = and_r _ _ e₁ in
      let e₃ = and_r _ _ e₂ in
      let e₄ = and_r _ _ e₃ in
      record {
        people = eqb-true _ _ (and_l _ _ e₀);
        defs = eqb-true _ _ (and_l _ _ e₁);
        nodes = eqb-true _ _ (and_l _ _ e₂);
        branches = eqb-true _ _ (and_l _ _ e₃);
        listed = eqb-true _ _ (and_l _ _ e₄);
        cells = eqb-true _ _ (and_r _ _ e₄);
      }

  counts_header : Counts → same_cells 0 6 u t ≡ true
  counts_header c =
      header_cells_lem ∙ and_i _ _ (eq-eqb _ _ c.people) (and_i _ _ (eq-eqb _ _ c.defs) (and_i _ _ (eq-eqb _ _ c.nodes)
      (and_i _ _ (eq-eqb _ _ c.branches) (and_i _ _ (eq-eqb _ _ c.listed) (eq-eqb _ _ c.cells)))))

  same-counts : same_sheet u t ≡ true → Counts
  unfolding same_sheet held
  same-counts h =
      let e : held u ≡ held t = same-is (held u) (held t) (and_r _ _ h) in
      record {
        people = eqb-true _ _ (and_l _ _ h);
        defs = sym (first_of-length (def_in u) (get_or u 1 0)) ∙ ap (λ (E : Entries). length E.defs) e ∙ first_of-length (def_in t) (get_or t 1 0);
        nodes = sym (first_of-length (node_in u) (get_or u 2 0)) ∙ ap (λ (E : Entries). length E.nodes) e ∙ first_of-length (node_in t) (get_or t 2 0);
        branches = sym (first_of-length (branch_in u) (get_or u 3 0)) ∙ ap (λ (E : Entries). length E.branches) e ∙ first_of-length (branch_in t) (get_or t 3 0);
        listed = sym (first_of-length (listed_in u) (get_or u 4 0)) ∙ ap (λ (E : Entries). length E.listed) e ∙ first_of-length (listed_in t) (get_or t 4 0);
        cells = sym (first_of-length (cell_in u) (get_or u 5 0)) ∙ ap (λ (E : Entries). length E.cells) e ∙ first_of-length (cell_in t) (get_or t 5 0);
      }

  -- ---- the sheets

  pub header_no : same_cells 0 6 u t ≡ false → same_sheet u t ≡ false
  header_no h = is_false (same_sheet u t) λ e. false≢true (sym h ∙ counts_header (same-counts e))

  -- a table with all the cells that it counts has those that the other counts
  pub cells-inside : same_cells 0 6 u t ≡ true → cells_from + get_or u 5 0 ≤ length u → cells_from + get_or t 5 0 ≤ length u
  cells-inside h l = omega (arith, l, (header_counts h).cells)

  pub sections_same : same_cells 0 6 u t ≡ true
      → same_sheet u t ≡ (same_cells nodes_from (node_wide * get_or t 2 0) u t & same_cells branches_from (branch_wide * get_or t 3 0) u t & same_cells defs_from (def_wide * get_or t 1 0) u t
      & same_cells listed_from (get_or t 4 0) u t & same_cells cells_from (get_or t 5 0) u t)
  unfolding same_sheet same_entries held
  sections_same h =
      let c = header_counts h in
      and_true _ _ (eq-eqb _ _ c.people)
      ∙ ap₂ ◌&◌ (ap (λ n. same_all same_node (first_of (node_in u) n) (first_of (node_in t) (get_or t 2 0))) c.nodes ∙ section_same same_node node_in nodes_from node_wide node-cells (get_or t 2 0))
      (ap₂ ◌&◌ (ap (λ n. same_all same_branch (first_of (branch_in u) n) (first_of (branch_in t) (get_or t 3 0))) c.branches ∙ section_same same_branch branch_in branches_from branch_wide branch-cells (get_or t 3 0))
      (ap₂ ◌&◌ (ap (λ n. same_all same_def (first_of (def_in u) n) (first_of (def_in t) (get_or t 1 0))) c.defs ∙ section_same same_def def_in defs_from def_wide def-cells (get_or t 1 0))
      (ap₂ ◌&◌ (ap (λ n. same_all eqb (first_of (listed_in u) n) (first_of (listed_in t) (get_or t 4 0))) c.listed ∙ numbers-same listed_from (get_or t 4 0))
      (ap (λ n. same_all eqb (first_of (cell_in u) n) (first_of (cell_in t) (get_or t 5 0))) c.cells ∙ numbers-same cells_from (get_or t 5 0)))))
