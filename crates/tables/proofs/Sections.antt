-- The sections of a table: one law for all of them of what they hold, of an entry more, and of the part of the table that they are. Assumes nothing.
use Prim.Native.Nat.{ℕ, zero, suc, ◌+◌, ◌*◌, ◌/◌, ◌%◌, ◌<◌, ◌≤◌}
use mathlib.Core.Path.{◌≡◌, refl, sym, ap, ap₂, ◌∙◌, subst}
use mathlib.Core.List.{List, [], ◌∷◌, ◌++◌}
use native.Mathlib.Nat.{mul-le-mul_left, mod-lt, div-add-mod, lt_of_mul-lt-mul_left}
use native.Mathlib.Omega.{arith}
use lib.ListN.{length, get_or, take, drop, length-append, length-drop, get_or-append}
use lib.Seq.{sets, ext_get_or, length-take-le, get_or-take, get_or-drop, take_at, drop_at, get_or-append-add}
use Rattle.tables.specs.Entries.{flat, first_of, node_in, branch_in, def_in, node_cells, branch_cells, def_cells, node_wide, branch_wide, def_wide, nodes_from, branches_from, defs_from}
use Rattle.tables.proofs.Runs.{sets-before, sets-after, at_place, first_of-length, first_of_agree, first_of-more, first_of_get_d}

-- ---- a section: w numbers for each entry, from a place on

pub record Section {A : Type 0} (numbers : A → List ℕ) (w start : ℕ) (entry : List ℕ → ℕ → A) : Type 0 where
  pub some : 0 < w
  pub wide : (x : A) → length (numbers x) ≡ w
  -- an entry's numbers stand one after the other
  pub told : (t : List ℕ) (i c : ℕ) → c < w → get_or (numbers (entry t i)) c 0 ≡ get_or t (start + (w * i + c)) 0
  -- and it is known by them
  pub known : (x y : A) → numbers x ≡ numbers y → x ≡ y

module _ {A : Type 0} {numbers : A → List ℕ} {w start : ℕ} {entry : List ℕ → ℕ → A} (S : Section numbers w start entry) where
  entry-same : (t u : List ℕ) (i : ℕ) → ((c : ℕ) → c < w → get_or t (start + (w * i + c)) 0 ≡ get_or u (start + (w * i + c)) 0) → entry t i ≡ entry u i
  entry-same t u i h =
      S.known (entry t i) (entry u i)
      (ext_get_or 0 (numbers (entry t i)) (numbers (entry u i)) (S.wide (entry t i) ∙ sym (S.wide (entry u i)))
      (λ c l. let k : c < w = subst (λ m. c < m) (S.wide (entry t i)) l in S.told t i c k ∙ h c k ∙ sym (S.told u i c k)))

  -- its first n entries are what stands in their places
  pub section_agree : (n : ℕ) (t u : List ℕ) → ((j : ℕ) → start ≤ j → j < start + w * n → get_or t j 0 ≡ get_or u j 0) → first_of (entry t) n ≡ first_of (entry u) n
  section_agree n t u h =
      first_of_agree (entry t) (entry u) n
      (λ i l. entry-same t u i
      (λ c k. let m : w * suc i ≤ w * n = mul-le-mul_left w l in h (start + (w * i + c)) (omega arith) (omega (arith, m))))

  -- a run of stores leaves those that it does not reach
  pub section_before : (n i : ℕ) (t vs : List ℕ) → start + w * n ≤ i → first_of (entry (sets t i vs)) n ≡ first_of (entry t) n
  section_before n i t vs h = section_agree n (sets t i vs) t λ j lo hi. sets-before vs t i j (omega arith)

  pub section_behind : (n i : ℕ) (t vs : List ℕ) → i + length vs ≤ start → first_of (entry (sets t i vs)) n ≡ first_of (entry t) n
  section_behind n i t vs h = section_agree n (sets t i vs) t λ j lo hi. sets-after vs t i j (omega arith)

  -- an entry more, stored at its place
  pub section_more : (m : ℕ) (t : List ℕ) (x : A) → start + w * m + w ≤ length t → first_of (entry (sets t (start + w * m) (numbers x))) (m + 1) ≡ first_of (entry t) m ++ (x ∷ [])
  section_more m t x fit =
      let u = sets t (start + w * m) (numbers x) in
      let long : start + w * m + length (numbers x) ≤ length t = omega (arith, fit, S.wide x) in
      first_of-more (entry u) (entry t) m x
      (λ i l. entry-same u t i
      (λ c k. let z : w * suc i ≤ w * m = mul-le-mul_left w l in sets-before (numbers x) t (start + w * m) (start + (w * i + c)) (omega (arith, z))))
      (S.known (entry u m) x
      (ext_get_or 0 (numbers (entry u m)) (numbers x) (S.wide (entry u m) ∙ sym (S.wide x))
      (λ c l. let k : c < w = subst (λ y. c < y) (S.wide (entry u m)) l in
      let d : c < length (numbers x) = omega (arith, S.wide x) in
      S.told u m c k ∙ at_place (numbers x) t (start + w * m) c (start + (w * m + c)) (omega arith) d long)))

  -- ---- all numbers of a list of entries

  pub flat-long : (xs : List A) → length (flat numbers xs) ≡ w * length xs
  unfolding flat
  flat-long [] = omega arith
  flat-long (x ∷ xs) = omega (arith, length-append (numbers x) (flat numbers xs), S.wide x, flat-long xs)

  flat-at : (xs : List A) (d : A) (i c : ℕ) → i < length xs → c < w → get_or (flat numbers xs) (w * i + c) 0 ≡ get_or (numbers (get_or xs i d)) c 0
  unfolding flat
  flat-at [] d i c h k = absurd (omega arith)
  flat-at (x ∷ xs) d zero c h k =
      let e : w * 0 + c ≡ c = omega arith in
      let l : c < length (numbers x) = omega (arith, S.wide x) in
      rw e (get_or-append (numbers x) (flat numbers xs) 0 c l)
  flat-at (x ∷ xs) d (suc i) c h k =
      let e : w * suc i + c ≡ length (numbers x) + (w * i + c) = omega (arith, S.wide x) in
      rw e (get_or-append-add (numbers x) (flat numbers xs) (w * i + c) 0 ∙ flat-at xs d i c (omega arith) k)

  flat_known : (xs ys : List A) → length xs ≡ length ys → flat numbers xs ≡ flat numbers ys → xs ≡ ys
  unfolding flat
  flat_known [] [] h e = refl
  flat_known [] (y ∷ ys) h e = absurd (omega arith)
  flat_known (x ∷ xs) [] h e = absurd (omega arith)
  flat_known (x ∷ xs) (y ∷ ys) h e =
      let a : numbers x ≡ numbers y = sym (take_at (numbers x) (flat numbers xs) w (S.wide x)) ∙ ap (λ zs. take w zs) e ∙ take_at (numbers y) (flat numbers ys) w (S.wide y) in
      let b : flat numbers xs ≡ flat numbers ys = sym (drop_at (numbers x) (flat numbers xs) w (S.wide x)) ∙ ap (λ zs. drop w zs) e ∙ drop_at (numbers y) (flat numbers ys) w (S.wide y) in
      ap₂ (λ z zs. z ∷ zs) (S.known x y a) (flat_known xs ys (omega arith) b)

  cell-is : (t : List ℕ) (n j : ℕ) → j < w * n → get_or (flat numbers (first_of (entry t) n)) j 0 ≡ get_or t (start + j) 0
  cell-is t n j h =
      let i = j / w in
      let c = j % w in
      let q : w * i + c ≡ j = div-add-mod j w in
      let k : i < n = lt_of_mul-lt-mul_left w (let z : w * i < w * n = omega (arith, q) in z) in
      let m : c < w = mod-lt j S.some in
      let l : i < length (first_of (entry t) n) = rw (first_of-length (entry t) n) k in
      ap (λ p. get_or (flat numbers (first_of (entry t) n)) p 0) (sym q)
      ∙ flat-at (first_of (entry t) n) (entry t 0) i c l m
      ∙ ap (λ x. get_or (numbers x) c 0) (first_of_get_d (entry t) n i (entry t 0) k)
      ∙ S.told t i c m
      ∙ ap (λ p. get_or t (start + p) 0) q

  -- what is held of a section is a part of the table
  pub part_is : (t : List ℕ) (n : ℕ) → start + w * n ≤ length t → flat numbers (first_of (entry t) n) ≡ take (length (flat numbers (first_of (entry t) n))) (drop start t)
  part_is t n h =
      let xs = flat numbers (first_of (entry t) n) in
      let l : length xs ≡ w * n = flat-long (first_of (entry t) n) ∙ ap (λ k. w * k) (first_of-length (entry t) n) in
      let long : length xs ≤ length (drop start t) = rw length-drop (omega (arith, l)) in
      ext_get_or 0 xs (take (length xs) (drop start t)) (sym (length-take-le (length xs) (drop start t) long))
      (λ j k. cell-is t n j (subst (λ m. j < m) l k) ∙ sym (get_or-take (length xs) (drop start t) j 0 k ∙ get_or-drop start t j 0))

  -- and a table with such a part holds these entries
  pub holds : (t : List ℕ) (xs : List A) → start + w * length xs ≤ length t → take (length (flat numbers xs)) (drop start t) ≡ flat numbers xs → first_of (entry t) (length xs) ≡ xs
  holds t xs h e =
      let ys = first_of (entry t) (length xs) in
      let same : length ys ≡ length xs = first_of-length (entry t) (length xs) in
      let l : length (flat numbers ys) ≡ length (flat numbers xs) = flat-long ys ∙ ap (λ k. w * k) same ∙ sym (flat-long xs) in
      flat_known ys xs same (part_is t (length xs) h ∙ ap (λ k. take k (drop start t)) l ∙ e)

-- ---- nodes, branches and definitions

pub at_same : (t : List ℕ) (i j : ℕ) → i ≡ j → get_or t i 0 ≡ get_or t j 0
at_same t i j e = ap (λ k. get_or t k 0) e

node-told : (t : List ℕ) (i c : ℕ) → c < node_wide → get_or (node_cells (node_in t i)) c 0 ≡ get_or t (nodes_from + (node_wide * i + c)) 0
unfolding node_cells
node-told t i zero h = at_same t (nodes_from + node_wide * i) (nodes_from + (node_wide * i + 0)) (omega arith)
node-told t i (suc zero) h = at_same t (nodes_from + 1 + node_wide * i) (nodes_from + (node_wide * i + 1)) (omega arith)
node-told t i (suc (suc zero)) h = at_same t (nodes_from + 2 + node_wide * i) (nodes_from + (node_wide * i + 2)) (omega arith)
node-told t i (suc (suc (suc zero))) h = at_same t (nodes_from + 3 + node_wide * i) (nodes_from + (node_wide * i + 3)) (omega arith)
node-told t i (suc (suc (suc (suc c)))) h = absurd (omega arith)

pub nodes_section : Section node_cells node_wide nodes_from node_in
unfolding node_cells
nodes_section =
    record {
      some = omega arith;
      wide = λ x. refl;
      told = node-told;
      known = λ x y e. ap (λ l. record { definition = get_or l 0 0; parent = get_or l 1 0; weight = get_or l 2 0; count = get_or l 3 0 }) e;
    }

branch-told : (t : List ℕ) (i c : ℕ) → c < branch_wide → get_or (branch_cells (branch_in t i)) c 0 ≡ get_or t (branches_from + (branch_wide * i + c)) 0
unfolding branch_cells
branch-told t i zero h = at_same t (branches_from + branch_wide * i) (branches_from + (branch_wide * i + 0)) (omega arith)
branch-told t i (suc zero) h = at_same t (branches_from + 1 + branch_wide * i) (branches_from + (branch_wide * i + 1)) (omega arith)
branch-told t i (suc (suc zero)) h = at_same t (branches_from + 2 + branch_wide * i) (branches_from + (branch_wide * i + 2)) (omega arith)
branch-told t i (suc (suc (suc zero))) h = at_same t (branches_from + 3 + branch_wide * i) (branches_from + (branch_wide * i + 3)) (omega arith)
branch-told t i (suc (suc (suc (suc zero)))) h = at_same t (branches_from + 4 + branch_wide * i) (branches_from + (branch_wide * i + 4)) (omega arith)
branch-told t i (suc (suc (suc (suc (suc zero))))) h = at_same t (branches_from + 5 + branch_wide * i) (branches_from + (branch_wide * i + 5)) (omega arith)
branch-told t i (suc (suc (suc (suc (suc (suc zero)))))) h = at_same t (branches_from + 6 + branch_wide * i) (branches_from + (branch_wide * i + 6)) (omega arith)
branch-told t i (suc (suc (suc (suc (suc (suc (suc zero))))))) h = at_same t (branches_from + 7 + branch_wide * i) (branches_from + (branch_wide * i + 7)) (omega arith)
branch-told t i (suc (suc (suc (suc (suc (suc (suc (suc c)))))))) h = absurd (omega arith)

pub branches_section : Section branch_cells branch_wide branches_from branch_in
unfolding branch_cells
branches_section =
    record {
      some = omega arith;
      wide = λ x. refl;
      told = branch-told;
      known = λ x y e. ap (λ l. record { node = get_or l 0 0; signers = get_or l 1 0; opens = get_or l 2 0; kind = get_or l 3 0; arg = get_or l 4 0; first = get_or l 5 0; count = get_or l 6 0; cond = get_or l 7 0 }) e;
    }

def-told : (t : List ℕ) (i c : ℕ) → c < def_wide → get_or (def_cells (def_in t i)) c 0 ≡ get_or t (defs_from + (def_wide * i + c)) 0
unfolding def_cells
def-told t i zero h = at_same t (defs_from + def_wide * i) (defs_from + (def_wide * i + 0)) (omega arith)
def-told t i (suc zero) h = at_same t (defs_from + 1 + def_wide * i) (defs_from + (def_wide * i + 1)) (omega arith)
def-told t i (suc (suc zero)) h = at_same t (defs_from + 2 + def_wide * i) (defs_from + (def_wide * i + 2)) (omega arith)
def-told t i (suc (suc (suc c))) h = absurd (omega arith)

pub defs_section : Section def_cells def_wide defs_from def_in
unfolding def_cells
defs_section =
    record {
      some = omega arith;
      wide = λ x. refl;
      told = def-told;
      known = λ x y e. ap (λ l. record { root = get_or l 0 0; first = get_or l 1 0; secrets = get_or l 2 0 }) e;
    }

-- ---- the header, listed numbers and cells: an entry is a number

abbrev single : ℕ → List ℕ
single x = x ∷ []

flat_single : (xs : List ℕ) → flat single xs ≡ xs
unfolding flat
flat_single [] = refl
flat_single (x ∷ xs) = ap (λ ys. x ∷ ys) (flat_single xs)

single_section : (start : ℕ) → Section single 1 start (λ t i. get_or t (start + i) 0)
single_section start =
    record {
      some = omega arith;
      wide = λ x. refl;
      told = told;
      known = λ x y e. ap (λ l. get_or l 0 0) e;
    }
  where
    told : (t : List ℕ) (i c : ℕ) → c < 1 → get_or (single (get_or t (start + i) 0)) c 0 ≡ get_or t (start + (1 * i + c)) 0
    told t i zero h = at_same t (start + i) (start + (1 * i + 0)) (omega arith)
    told t i (suc c) h = absurd (omega arith)

module _ (t : List ℕ) (start : ℕ) where
  abbrev numbers : List ℕ → ℕ → ℕ
  numbers u i = get_or u (start + i) 0

  pub numbers-before : (n i : ℕ) (vs : List ℕ) → start + n ≤ i → first_of (numbers (sets t i vs)) n ≡ first_of (numbers t) n
  numbers-before n i vs h = section_before (single_section start) n i t vs (omega arith)

  pub numbers-behind : (n i : ℕ) (vs : List ℕ) → i + length vs ≤ start → first_of (numbers (sets t i vs)) n ≡ first_of (numbers t) n
  numbers-behind n i vs h = section_behind (single_section start) n i t vs h

  pub numbers_more : (m v : ℕ) → start + m < length t → first_of (numbers (sets t (start + m) (v ∷ []))) (m + 1) ≡ first_of (numbers t) m ++ (v ∷ [])
  numbers_more m v h =
      ap (λ i. first_of (numbers (sets t (start + i) (v ∷ []))) (m + 1)) (let z : m ≡ 1 * m = omega arith in z)
      ∙ section_more (single_section start) m t v (omega arith)

  pub numbers_part : (n : ℕ) → start + n ≤ length t → first_of (numbers t) n ≡ take (length (first_of (numbers t) n)) (drop start t)
  numbers_part n h =
      subst (λ ys. ys ≡ take (length ys) (drop start t)) (flat_single (first_of (numbers t) n)) (part_is (single_section start) t n (omega arith))

  pub numbers-held : (xs : List ℕ) → start + length xs ≤ length t → take (length xs) (drop start t) ≡ xs → first_of (numbers t) (length xs) ≡ xs
  numbers-held xs h e =
      holds (single_section start) t xs (omega arith) (subst (λ ys. take (length ys) (drop start t) ≡ ys) (sym (flat_single xs)) e)
