-- Laws of the row buffer: its places are a section, rows one behind the other, and zeros. Assumes nothing.
use Prim.Native.Nat.{ℕ, zero, suc, ◌+◌, ◌-◌, ◌*◌, ◌≤◌, ◌<◌}
use mathlib.Core.Path.{◌≡◌, refl, sym, ap, ap₂, ◌∙◌, subst}
use mathlib.Core.List.{List, [], ◌∷◌, ◌++◌, append_assoc, append-nil}
use native.Mathlib.Omega.{arith}
use lib.ListN.{length, get_or, set, take, drop, replicate, get_or-eq_default, length-append, length-drop, length-replicate, replicate-append-replicate, drop_of_length-le}
use lib.Seq.{ext_get_or, get_or-append-add, sets, length-sets, sets-eq, drop-set-lt, drop-drop, take-append_seam, drop_at, length-take-le}
use Rattle.bitml.specs.Rows.{Row}
use Rattle.bitml.specs.Answers.{no_row}
use Rattle.bitml.proofs.Lists.{at-replicate, drop-replicate}
use Rattle.tables.specs.Entries.{flat, first_of}
use Rattle.tables.proofs.Runs.{first_of-length}
use Rattle.tables.proofs.Sections.{Section, section_more, flat-long, part_is, holds, at_same}
use Rattle.buffer.specs.Buffer.{row_wide, row, row_cells, row_in, stored, rows_of, past_rows, row_numbers, filled}

row_told : (u : List ℕ) (i c : ℕ) → c < row_wide → get_or (row_cells (row_in u i)) c 0 ≡ get_or u (row_wide * i + c) 0
unfolding row_cells
row_told u i zero h = at_same u (row_wide * i) (row_wide * i + 0) (omega arith)
row_told u i (suc zero) h = refl
row_told u i (suc (suc zero)) h = refl
row_told u i (suc (suc (suc c))) h = absurd (omega arith)

rows_section : Section row_cells row_wide 0 row_in
unfolding row_cells
rows_section =
    record {
      some = omega arith;
      wide = λ x. refl;
      told = λ u i c h. row_told u i c h ∙ at_same u (row_wide * i + c) (0 + (row_wide * i + c)) (omega arith);
      known = λ x y e. ap (λ l. row (get_or l 0 0) (get_or l 1 0) (get_or l 2 0)) e;
    }

-- a row is known by its numbers
row_known : (u v : List ℕ) (i j : ℕ) → ((c : ℕ) → c < row_wide → get_or u (row_wide * i + c) 0 ≡ get_or v (row_wide * j + c) 0) → row_in u i ≡ row_in v j
row_known u v i j h =
    let S = rows_section in
    S.known (row_in u i) (row_in v j)
    (ext_get_or 0 (row_cells (row_in u i)) (row_cells (row_in v j)) (S.wide (row_in u i) ∙ sym (S.wide (row_in v j)))
    (λ c l. let k : c < row_wide = subst (λ m. c < m) (S.wide (row_in u i)) l in row_told u i c k ∙ h c k ∙ sym (row_told v j c k)))

-- ---- a row more

-- what stands behind a run of stores stays
drop-sets : (vs u : List ℕ) (i k : ℕ) → i + length vs ≤ k → drop k (sets u i vs) ≡ drop k u
drop-sets [] u i k h = refl
drop-sets (v ∷ vs) u i k h = drop-sets vs (set u i v) (suc i) k (omega arith) ∙ drop-set-lt k u i v (omega arith)

module _ (u : List ℕ) (i : ℕ) (r : Row) where
  pub stored-length : length (stored u i r) ≡ length u
  unfolding stored
  stored-length = length-sets u (row_wide * i) (row_cells r)

  pub row_more : row_wide * i + row_wide ≤ length u → rows_of (i + 1) (stored u i r) ≡ rows_of i u ++ (r ∷ [])
  unfolding rows_of stored
  row_more h =
      let z : 0 + row_wide * i ≡ row_wide * i = omega arith in
      rw z at (section_more rows_section i u r (omega arith))

  pub row-rest : past_rows (i + 1) (stored u i r) ≡ past_rows (i + 1) u
  unfolding past_rows stored row_cells
  row-rest = drop-sets (row_cells r) u (row_wide * i) (row_wide * (i + 1)) (omega arith)

-- what is the same past i rows is the same past one more
pub rest_more : (u v : List ℕ) (i : ℕ) → past_rows i v ≡ past_rows i u → past_rows (i + 1) v ≡ past_rows (i + 1) u
unfolding past_rows
rest_more u v i h =
    let e : row_wide * (i + 1) ≡ row_wide * i + row_wide = omega arith in
    rw e (sym (drop-drop row_wide (row_wide * i) v) ∙ ap (λ x. drop row_wide x) h ∙ drop-drop row_wide (row_wide * i) u)

-- ---- the rows of the first places

pub rows_none : (u : List ℕ) → rows_of 0 u ≡ []
unfolding rows_of first_of
rows_none u = refl

pub rows_next : (u : List ℕ) (i : ℕ) → rows_of (i + 1) u ≡ rows_of i u ++ (row_in u i ∷ [])
unfolding rows_of first_of
rows_next u i = ap (λ k. rows_of k u) (let z : i + 1 ≡ suc i = omega arith in z)

pub rows-length : (n : ℕ) (u : List ℕ) → length (rows_of n u) ≡ n
unfolding rows_of
rows-length n u = first_of-length (row_in u) n

-- ---- their numbers

pub numbers-length : (R : List Row) → length (row_numbers R) ≡ row_wide * length R
numbers-length R = flat-long rows_section R

pub numbers-append : (R Q : List Row) → row_numbers (R ++ Q) ≡ row_numbers R ++ row_numbers Q
unfolding flat
numbers-append [] Q = refl
numbers-append (r ∷ R) Q = ap (λ xs. row_cells r ++ xs) (numbers-append R Q) ∙ sym (append_assoc (row_cells r) (row_numbers R) (row_numbers Q))

-- places of zeros
pub numbers_zeros : (k : ℕ) → row_numbers (replicate k no_row) ≡ replicate (row_wide * k) 0
unfolding flat row_cells
numbers_zeros zero = refl
numbers_zeros (suc k) =
    ap (λ xs. row_cells no_row ++ xs) (numbers_zeros k)
    ∙ replicate-append-replicate row_wide (row_wide * k) 0
    ∙ ap (λ m. replicate m 0) (let z : row_wide + row_wide * k ≡ row_wide * suc k = omega arith in z)

-- the rows are the first numbers of the buffer
numbers-rows : (u : List ℕ) (n : ℕ) → row_wide * n ≤ length u → row_numbers (rows_of n u) ≡ take (row_wide * n) u
unfolding rows_of
numbers-rows u n h =
    part_is rows_section u n (omega arith)
    ∙ ap (λ k. take k u) (numbers-length (first_of (row_in u) n) ∙ ap (λ k. row_wide * k) (first_of-length (row_in u) n))

-- ---- a buffer that is filled

pub filled_none : (L : ℕ) → replicate L 0 ≡ filled L []
unfolding filled flat
filled_none L = ap (λ k. replicate k 0) (let z : L ≡ L - row_wide * 0 = omega arith in z)

pub cleared_long : (L : ℕ) (xs : List ℕ) → xs ≡ filled L [] → length xs ≡ L
cleared_long L xs e = ap (λ x. length x) (e ∙ sym (filled_none L)) ∙ length-replicate {A = ℕ} L 0

pub cleared_is : (L : ℕ) (xs : List ℕ) → xs ≡ filled L [] → xs ≡ filled (length xs) []
cleared_is L xs e = e ∙ ap (λ k. filled k []) (sym (cleared_long L xs e))

module _ (L : ℕ) (R : List Row) where
  -- what is held lies within the buffer
  pub filled-few : length (filled L R) ≡ L → row_wide * length R ≤ L
  unfolding filled
  filled-few e = omega (arith, e, numbers-length R, length-append (row_numbers R) (replicate (L - row_wide * length R) 0))

  -- it holds the rows
  pub rows-filled : row_wide * length R ≤ L → rows_of (length R) (filled L R) ≡ R
  unfolding filled rows_of
  rows-filled h =
      let zs : List ℕ = replicate (L - row_wide * length R) 0 in
      holds rows_section (row_numbers R ++ zs) R (omega (arith, numbers-length R, length-append (row_numbers R) zs)) (take-append_seam (row_numbers R) zs)

  -- and zeros past them
  pub past_filled : past_rows (length R) (filled L R) ≡ replicate (L - row_wide * length R) 0
  unfolding filled past_rows
  past_filled = drop_at (row_numbers R) (replicate (L - row_wide * length R) 0) (row_wide * length R) (numbers-length R)

  -- a row in the next place
  pub filled-stored : (r : Row) → row_wide * length R + row_wide ≤ L → stored (filled L R) (length R) r ≡ filled L (R ++ (r ∷ []))
  unfolding filled stored flat
  filled-stored r h =
      let F = row_numbers R in
      let m = L - row_wide * (length R + 1) in
      let zs : List ℕ = replicate (L - row_wide * length R) 0 in
      let l = numbers-length R in
      let w = rows_section.wide r in
      let fits : row_wide * length R + length (row_cells r) ≤ length (F ++ zs) = omega (arith, w, l, length-append F zs, length-replicate {A = ℕ} (L - row_wide * length R) 0) in
      let a : take (row_wide * length R) (F ++ zs) ≡ F = ap (λ k. take k (F ++ zs)) (sym l) ∙ take-append_seam F zs in
      let b : drop (row_wide * length R + length (row_cells r)) (F ++ zs) ≡ replicate m 0 =
      sym (drop-drop (length (row_cells r)) (row_wide * length R) (F ++ zs)) ∙ ap₂ drop w (drop_at F zs (row_wide * length R) l) ∙ drop-replicate row_wide (L - row_wide * length R) 0
      ∙ ap (λ k. replicate k 0) (let z : L - row_wide * length R - row_wide ≡ m = omega arith in z) in
      sets-eq (row_cells r) (F ++ zs) (row_wide * length R) fits
      ∙ ap₂ (λ xs ys. xs ++ row_cells r ++ ys) a b
      ∙ ap₂ (λ xs k. xs ++ replicate k 0) (sym (numbers-append R (r ∷ []) ∙ ap (λ xs. F ++ xs) (append-nil (row_cells r))))
      (let z : m ≡ L - row_wide * length (R ++ (r ∷ [])) = omega (arith, length-append R (r ∷ [])) in z)

-- ---- place by place

-- no row where there are no numbers
none_in : (i : ℕ) → row_in [] i ≡ no_row
none_in i = refl

pub past_none : (u : List ℕ) (i : ℕ) → length u ≤ row_wide * i → row_in u i ≡ no_row
past_none u i h = row_known u [] i i (λ c k. get_or-eq_default u 0 {n = row_wide * i + c} (omega arith)) ∙ none_in i

filled-at_by : (R : List Row) (k i : ℕ) → row_in (row_numbers R ++ replicate k 0) i ≡ get_or R i no_row
unfolding flat row_cells
filled-at_by [] k i = row_known (replicate k 0) [] i i (λ c h. at-replicate k (row_wide * i + c) 0) ∙ none_in i
filled-at_by (r ∷ R) k zero = refl
filled-at_by (r ∷ R) k (suc i) =
    let xs = row_numbers R ++ replicate k 0 in
    row_known (row_cells r ++ xs) xs (suc i) i
    (λ c h. at_same (row_cells r ++ xs) (row_wide * suc i + c) (row_wide + (row_wide * i + c)) (omega arith) ∙ get_or-append-add (row_cells r) xs (row_wide * i + c) 0)
    ∙ filled-at_by R k i

-- the rows one by one, and no row past them
pub filled_at : (L : ℕ) (R : List Row) (i : ℕ) → row_in (filled L R) i ≡ get_or R i no_row
unfolding filled
filled_at L R i = filled-at_by R (L - row_wide * length R) i

-- ---- zeros past the first places

-- the part from place n on was lent and has become zeros ys; past it there is nothing
pub past_cleared : (u ys : List ℕ) (n : ℕ) → row_wide * n ≤ length u → ys ≡ filled (length (take (length u - row_wide * n) (drop (row_wide * n) u))) []
    → take (row_wide * n) u ++ (ys ++ drop (length u - row_wide * n) (drop (row_wide * n) u)) ≡ filled (length u) (rows_of n u)
unfolding filled flat
past_cleared u ys n h e =
    let k = row_wide * n in
    let l : length (take (length u - k) (drop k u)) ≡ length u - k = length-take-le (length u - k) (drop k u) (omega (arith, length-drop k u)) in
    let z : length u - k - row_wide * 0 ≡ length u - row_wide * length (rows_of n u) = omega (arith, rows-length n u) in
    ap₂ (λ a b. take k u ++ (a ++ b)) (e ∙ ap (λ m. replicate (m - row_wide * 0) 0) l) (drop_of_length-le (drop k u) {i = length u - k} (omega (arith, length-drop k u)))
    ∙ ap (λ xs. take k u ++ xs) (append-nil (replicate (length u - k - row_wide * 0) 0))
    ∙ ap₂ (λ xs j. xs ++ replicate j 0) (sym (numbers-rows u n h)) z
