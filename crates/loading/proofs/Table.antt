-- A table by its sections: what zeros behind each of them make of a table that was read, and what a table gives back. Assumes nothing.
use mathlib.Core.Path.{◌≡◌, refl, sym, ap, ap₂, ◌∙◌}
use Prim.Native.Nat.{ℕ, ◌+◌, ◌-◌, ◌*◌, ◌≤◌, ◌<◌}
use native.Mathlib.Omega.{arith}
use mathlib.Core.List.{List, [], ◌++◌, append_assoc, append-nil}
use lib.ListN.{length, get_or, take, drop, replicate, length-append, length-replicate, replicate-append-replicate}
use lib.Seq.{length-take-le, get_or-take, take-take, take-add, take_at, drop_at, take-append-le, take-length, drop-drop}
use borrow.Rule.Slice.PartMut.{put_mid}
use Rattle.tables.specs.Entries.{Entries, node_cells, branch_cells, def_cells, flat, first_of, node_in, branch_in, def_in, listed_in, cell_in, held, people, table_long, node_wide, branch_wide, def_wide, nodes_from, branches_from, defs_from, listed_from, cells_from, most_nodes, most_branches, most_listed, most_cells, most_defs}
use Rattle.tables.proofs.Runs.{first_of-length}
use Rattle.tables.proofs.Sections.{Section, flat-long, part_is, holds, nodes_section, branches_section, defs_section, numbers_part, numbers-held}
use Rattle.reading.specs.Promises.{Sizes}
use Rattle.reading.proofs.Sizes.{sizes-within}
use Rattle.loading.specs.Table.{padded, header_cells, section_cells, table_of}

-- ---- numbers, and zeros past them

padded-long : (n : ℕ) (xs : List ℕ) → length xs ≤ n → length (padded n xs) ≡ n
unfolding padded
padded-long n xs h = omega (arith, length-append xs (replicate (n - length xs) 0), length-replicate {A = ℕ} (n - length xs) 0)

-- ---- a table of n cells, section after section; the last one goes on to the table's end

abbrev behind_header : ℕ → Entries → List ℕ
behind_header n E =
    padded (node_wide * most_nodes) (flat node_cells E.nodes) ++ (padded (branch_wide * most_branches) (flat branch_cells E.branches) ++ (padded (def_wide * most_defs) (flat def_cells E.defs) ++ (padded most_listed E.listed ++ (padded (n - cells_from) E.cells ++ []))))

abbrev laid : ℕ → ℕ → Entries → List ℕ
laid n K E = padded nodes_from (header_cells K E) ++ behind_header n E

padded-on : (m k : ℕ) (xs : List ℕ) → length xs ≤ m → padded m xs ++ replicate k 0 ≡ padded (m + k) xs ++ []
unfolding padded
padded-on m k xs h =
    let e : m - length xs + k ≡ m + k - length xs = omega arith in
    append_assoc xs (replicate (m - length xs) 0) (replicate k 0)
    ∙ ap (λ zs. xs ++ zs) (replicate-append-replicate (m - length xs) k 0 ∙ ap (λ i. replicate i 0) e)
    ∙ sym (append-nil (xs ++ replicate (m + k - length xs) 0))

append_six : (a b c d e f g : List ℕ) → a ++ b ++ c ++ d ++ e ++ f ++ g ≡ a ++ (b ++ (c ++ (d ++ (e ++ (f ++ g)))))
append_six a b c d e f g =
    append_assoc (a ++ b ++ c ++ d ++ e) f g
    ∙ append_assoc (a ++ b ++ c ++ d) e (f ++ g)
    ∙ append_assoc (a ++ b ++ c) d (e ++ (f ++ g))
    ∙ append_assoc (a ++ b) c (d ++ (e ++ (f ++ g)))
    ∙ append_assoc a b (c ++ (d ++ (e ++ (f ++ g))))

six_long : (a b c d e f : List ℕ) → length (a ++ b ++ c ++ d ++ e ++ f) ≡ length a + length b + length c + length d + length e + length f
six_long a b c d e f =
    omega (arith, length-append (a ++ b ++ c ++ d ++ e) f, length-append (a ++ b ++ c ++ d) e, length-append (a ++ b ++ c) d, length-append (a ++ b) c, length-append a b)

header_long : (K : ℕ) (E : Entries) → length (header_cells K E) ≡ 6
unfolding header_cells
header_long K E = refl

module _ (K : ℕ) (E : Entries) (z : Sizes K E) where
  nodes-fit : length (flat node_cells E.nodes) ≤ node_wide * most_nodes
  nodes-fit = omega (arith, flat-long nodes_section E.nodes, z.nodes)

  branches-fit : length (flat branch_cells E.branches) ≤ branch_wide * most_branches
  branches-fit = omega (arith, flat-long branches_section E.branches, z.branches)

  defs-fit : length (flat def_cells E.defs) ≤ def_wide * most_defs
  defs-fit = omega (arith, flat-long defs_section E.defs, z.defs.1)

  sections_long : length (section_cells K E) ≡ table_long
  unfolding section_cells
  sections_long =
      six_long (padded nodes_from (header_cells K E)) (padded (node_wide * most_nodes) (flat node_cells E.nodes)) (padded (branch_wide * most_branches) (flat branch_cells E.branches)) (padded (def_wide * most_defs) (flat def_cells E.defs)) (padded most_listed E.listed) (padded most_cells E.cells)
      ∙ rw (
        padded-long nodes_from (header_cells K E) (omega (arith, header_long K E)),
        padded-long (node_wide * most_nodes) (flat node_cells E.nodes) nodes-fit,
        padded-long (branch_wide * most_branches) (flat branch_cells E.branches) branches-fit,
        padded-long (def_wide * most_defs) (flat def_cells E.defs) defs-fit,
        padded-long most_listed E.listed z.listed,
        padded-long most_cells E.cells z.cells,
      )

  pub table_long_lem : (n : ℕ) → table_long ≤ n → length (table_of n K E) ≡ n
  unfolding table_of
  table_long_lem n h = padded-long n (section_cells K E) (omega (arith, sections_long))

  table_is : (n : ℕ) → table_long ≤ n → table_of n K E ≡ laid n K E
  unfolding table_of section_cells padded
  table_is n h =
      let a = padded nodes_from (header_cells K E) in
      let b = padded (node_wide * most_nodes) (flat node_cells E.nodes) in
      let c = padded (branch_wide * most_branches) (flat branch_cells E.branches) in
      let d = padded (def_wide * most_defs) (flat def_cells E.defs) in
      let e = padded most_listed E.listed in
      let f = padded most_cells E.cells in
      let k : most_cells + (n - table_long) ≡ n - cells_from = omega arith in
      ap (λ i. section_cells K E ++ replicate (n - i) 0) sections_long
      ∙ append_six a b c d e f (replicate (n - table_long) 0)
      ∙ ap (λ zs. a ++ (b ++ (c ++ (d ++ (e ++ zs))))) (padded-on most_cells (n - table_long) E.cells z.cells ∙ ap (λ i. padded i E.cells ++ []) k)

-- ---- zeros behind what is held of a section

-- the cells from one place to another become zero
abbrev zeros : ℕ → ℕ → List ℕ → List ℕ
zeros from to t = take from t ++ replicate (to - from) 0 ++ drop to t

-- v is the table u up to a place, with Z from there on; zeros from the end of a part xs of u up to the place leave xs before them
zeros_behind : (u v Z xs : List ℕ) (start from to : ℕ) → v ≡ take to u ++ Z → from ≡ start + length xs → from ≤ to → to ≤ length u
    → xs ≡ take (length xs) (drop start u) → zeros from to v ≡ take start u ++ (padded (to - start) xs ++ Z)
unfolding padded
zeros_behind u v Z xs start from to e m l h s =
    let p = take start u in
    let r = replicate {A = ℕ} (to - from) 0 in
    let long = length-take-le to u h in
    let fits : from ≤ length (take to u) = omega (arith, long) in
    let a : take from v ≡ take from u = ap (λ zs. take from zs) e ∙ take-append-le from (take to u) Z fits ∙ take-take from to u l in
    let b : take from u ≡ p ++ xs = ap (λ k. take k u) m ∙ take-add start (length xs) u ∙ ap (λ zs. p ++ zs) (sym s) in
    let c : drop to v ≡ Z = ap (λ zs. drop to zs) e ∙ drop_at (take to u) Z to long in
    let k : to - from ≡ to - start - length xs = omega (arith, m) in
    ap₂ (λ ys zs. ys ++ r ++ zs) (a ∙ b) c
    ∙ ap (λ ys. ys ++ Z) (append_assoc p xs r)
    ∙ append_assoc p (xs ++ r) Z
    ∙ ap (λ i. p ++ (xs ++ replicate i 0 ++ Z)) k

-- the part is what n entries of a section have
section_zeros : {A : Type 0} {numbers : A → List ℕ} {w start : ℕ} {entry : List ℕ → ℕ → A} → Section numbers w start entry
    → (u v Z : List ℕ) (n to : ℕ) → v ≡ take to u ++ Z → start + w * n ≤ to → to ≤ length u
    → zeros (start + w * n) to v ≡ take start u ++ (padded (to - start) (flat numbers (first_of (entry u) n)) ++ Z)
section_zeros {numbers = numbers} {w = w} {start = start} {entry = entry} S u v Z n to e h k =
    let xs = flat numbers (first_of (entry u) n) in
    let l : length xs ≡ w * n = flat-long S (first_of (entry u) n) ∙ ap (λ i. w * i) (first_of-length (entry u) n) in
    zeros_behind u v Z xs start (start + w * n) to e (omega (arith, l)) h k (part_is S u n (omega arith))

-- or n numbers by themselves
numbers_zeros : (u v Z : List ℕ) (start n to : ℕ) → v ≡ take to u ++ Z → start + n ≤ to → to ≤ length u
    → zeros (start + n) to v ≡ take start u ++ (padded (to - start) (first_of (λ i. get_or u (start + i) 0) n) ++ Z)
numbers_zeros u v Z start n to e h k =
    let xs = first_of (λ i. get_or u (start + i) 0) n in
    zeros_behind u v Z xs start (start + n) to e (omega (arith, first_of-length (λ i. get_or u (start + i) 0) n)) h k (numbers_part u start n (omega arith))

-- as a part is put back that was lent and filled with zeros
zeros_put : (t : List ℕ) (from to : ℕ) → from ≤ to → (ys : List ℕ) → ys ≡ replicate (to - from) 0 → put_mid from (to - from) t ys ≡ zeros from to t
zeros_put t from to h ys e =
    let m : from + (to - from) ≡ to = omega arith in
    ap₂ (λ xs zs. take from t ++ (xs ++ zs)) e (drop-drop (to - from) from t ∙ ap (λ i. drop i t) m) ∙ sym (append_assoc (take from t) (replicate (to - from) 0) (drop to t))

header_is : (t : List ℕ) → first_of (λ i. get_or t (0 + i) 0) 6 ≡ header_cells (people t) (held t)
unfolding held header_cells first_of
header_is t =
    rw (
      first_of-length (node_in t) (get_or t 2 0),
      first_of-length (branch_in t) (get_or t 3 0),
      first_of-length (def_in t) (get_or t 1 0),
      first_of-length (listed_in t) (get_or t 4 0),
      first_of-length (cell_in t) (get_or t 5 0),
    )

-- what is held lies within its sections
pub sizes_within : (t : List ℕ) → Sizes (people t) (held t)
    → (cells_from + get_or t 5 0 ≤ table_long) × (listed_from + get_or t 4 0 ≤ cells_from) × (defs_from + def_wide * get_or t 1 0 ≤ listed_from)
    × (branches_from + branch_wide * get_or t 3 0 ≤ defs_from) × (nodes_from + node_wide * get_or t 2 0 ≤ branches_from)
sizes_within t z = let c = sizes-within t z in (omega (arith, c.cells), omega (arith, c.listed), omega (arith, c.defs), omega (arith, c.branches), omega (arith, c.nodes))

-- a part of v, from one place to another, put back as ys
abbrev put_back : ℕ → ℕ → List ℕ → List ℕ → List ℕ
put_back from to ys v = put_mid from (to - from) v ys

-- a table u that was read, with zeros behind each of its sections from the last to the first, is the table of what it holds
module _ (u : List ℕ) (long : table_long ≤ length u) (z : Sizes (people u) (held u)) where
  pub cleared_is : (y₁ y₂ y₃ y₄ y₅ y₆ : List ℕ)
      → y₁ ≡ replicate (length u - (cells_from + get_or u 5 0)) 0 → y₂ ≡ replicate (cells_from - (listed_from + get_or u 4 0)) 0 → y₃ ≡ replicate (listed_from - (defs_from + def_wide * get_or u 1 0)) 0
      → y₄ ≡ replicate (defs_from - (branches_from + branch_wide * get_or u 3 0)) 0 → y₅ ≡ replicate (branches_from - (nodes_from + node_wide * get_or u 2 0)) 0 → y₆ ≡ replicate (nodes_from - 6) 0
      → put_back 6 nodes_from y₆ (put_back (nodes_from + node_wide * get_or u 2 0) branches_from y₅ (put_back (branches_from + branch_wide * get_or u 3 0) defs_from y₄
      (put_back (defs_from + def_wide * get_or u 1 0) listed_from y₃ (put_back (listed_from + get_or u 4 0) cells_from y₂ (put_back (cells_from + get_or u 5 0) (length u) y₁ u)))))
      ≡ table_of (length u) (people u) (held u)
  unfolding held
  cleared_is y₁ y₂ y₃ y₄ y₅ y₆ w₁ w₂ w₃ w₄ w₅ w₆ =
      let c = sizes_within u z in
      let e₀ = sym (append-nil (take (length u) u) ∙ take-length u) in
      let e₁ = zeros_put u (cells_from + get_or u 5 0) (length u) (omega arith) y₁ w₁ ∙ numbers_zeros u u [] cells_from (get_or u 5 0) (length u) e₀ (omega arith) (omega arith) in
      let e₂ = zeros_put _ _ _ c.1 y₂ w₂ ∙ numbers_zeros u _ _ listed_from (get_or u 4 0) cells_from e₁ c.1 (omega arith) in
      let e₃ = zeros_put _ _ _ c.2 y₃ w₃ ∙ section_zeros defs_section u _ _ (get_or u 1 0) listed_from e₂ c.2 (omega arith) in
      let e₄ = zeros_put _ _ _ c.3 y₄ w₄ ∙ section_zeros branches_section u _ _ (get_or u 3 0) defs_from e₃ c.3 (omega arith) in
      let e₅ = zeros_put _ _ _ c.4 y₅ w₅ ∙ section_zeros nodes_section u _ _ (get_or u 2 0) branches_from e₄ c.4 (omega arith) in
      let e₆ = zeros_put _ 6 nodes_from (omega arith) y₆ w₆ ∙ numbers_zeros u _ _ 0 6 nodes_from e₅ (omega arith) (omega arith) in
      e₆ ∙ ap (λ xs. padded nodes_from xs ++ behind_header (length u) (held u)) (header_is u) ∙ sym (table_is (people u) (held u) z (length u) long)

-- ---- what stands where in a table

opened : (t rest xs : List ℕ) (start size : ℕ) → drop start t ≡ padded size xs ++ rest → length xs ≤ size
    → (take (length xs) (drop start t) ≡ xs) × (drop (start + size) t ≡ rest)
unfolding padded
opened t rest xs start size e h =
    let z = replicate {A = ℕ} (size - length xs) 0 in (
      ap (λ ys. take (length xs) ys) (e ∙ append_assoc xs z rest) ∙ take_at xs (z ++ rest) (length xs) refl,
      sym (drop-drop size start t) ∙ ap (λ ys. drop size ys) e ∙ drop_at (padded size xs) rest size (padded-long size xs h),
    )

first-told : (t xs : List ℕ) → take (length xs) t ≡ xs → (i : ℕ) → i < length xs → get_or t i 0 ≡ get_or xs i 0
first-told t xs e i h = sym (get_or-take (length xs) t i 0 h) ∙ ap (λ ys. get_or ys i 0) e

-- so it gives back what it holds
module _ (K : ℕ) (E : Entries) (z : Sizes K E) (n : ℕ) (h : table_long ≤ n) where
  holds-all : (t : List ℕ) → t ≡ table_of n K E → (people t ≡ K) × (held t ≡ E)
  unfolding held header_cells
  holds-all t e =
      let long : length t ≡ n = ap (λ xs. length xs) e ∙ table_long_lem K E z n h in
      let s₁ = opened t _ (header_cells K E) 0 nodes_from (e ∙ table_is K E z n h) (omega arith) in
      let s₂ = opened t _ (flat node_cells E.nodes) nodes_from (node_wide * most_nodes) s₁.1 (nodes-fit K E z) in
      let s₃ = opened t _ (flat branch_cells E.branches) branches_from (branch_wide * most_branches) s₂.1 (branches-fit K E z) in
      let s₄ = opened t _ (flat def_cells E.defs) defs_from (def_wide * most_defs) s₃.1 (defs-fit K E z) in
      let s₅ = opened t _ E.listed listed_from most_listed s₄.1 z.listed in
      let s₆ = opened t _ E.cells cells_from (n - cells_from) s₅.1 (omega (arith, z.cells)) in
      let told : (i : ℕ) → i < 6 → get_or t i 0 ≡ get_or (header_cells K E) i 0 = first-told t (header_cells K E) s₁.0 in
      let nodes = ap (λ k. first_of (node_in t) k) (told 2 (omega arith)) ∙ holds nodes_section t E.nodes (omega (arith, z.nodes)) s₂.0 in
      let branches = ap (λ k. first_of (branch_in t) k) (told 3 (omega arith)) ∙ holds branches_section t E.branches (omega (arith, z.branches)) s₃.0 in
      let defs = ap (λ k. first_of (def_in t) k) (told 1 (omega arith)) ∙ holds defs_section t E.defs (omega (arith, z.defs.1)) s₄.0 in
      let listed = ap (λ k. first_of (listed_in t) k) (told 4 (omega arith)) ∙ numbers-held t listed_from E.listed (omega (arith, z.listed)) s₅.0 in
      let cells = ap (λ k. first_of (cell_in t) k) (told 5 (omega arith)) ∙ numbers-held t cells_from E.cells (omega (arith, z.cells)) s₆.0 in
      (told 0 (omega arith), rw (nodes, branches, defs, listed, cells))

  pub people-back : people (table_of n K E) ≡ K
  people-back = (holds-all (table_of n K E) refl).0

  pub held_back : held (table_of n K E) ≡ E
  held_back = (holds-all (table_of n K E) refl).1
