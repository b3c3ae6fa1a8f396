-- Rows as structs: the places that are written so far, and what callers need to know of them. Assumes nothing.
use mathlib.Core.Path.{◌≡◌, refl, sym, ap, ◌∙◌}
use Prim.Native.Nat.{ℕ, zero, suc, ◌+◌, ◌-◌, ◌*◌, ◌≤◌, ◌<◌}
use mathlib.Core.List.{List, [], ◌∷◌, ◌++◌, map, append_assoc, append-nil}
use native.Mathlib.Numerals.{add-one}
use native.Mathlib.Omega.{arith}
use lib.ListN.{length, take, drop, get_or, set, replicate, take-append-drop, length-append, length-drop, length-map, length-replicate}
use Rattle.std.proofs.lemmas.List.{get_or-drop, drop_all}
use lib.Seq.{take_at, take_all, length-take-le, take-suc, drop-cons, set_at, ext_get_or}
use Rattle.bitml.specs.Lists.{below}
use Rattle.bitml.specs.Rows as bitml
use Rattle.bitml.specs.Answers as answers
use Rattle.bitml.proofs.Lists.{at-replicate, get_d_up, length_up}
use Rattle.buffer.specs.Buffer.{row_wide, filled}
use Rattle.buffer.proofs.Buffer.{past_none, filled_at}
use Rattle.lent.specs.declared.Row.{Row}
use Rattle.lent.specs.Structs.{no_row, struct_of, struct_at, structs}

-- ---- place by place

pub structs-length : (n : ℕ) (xs : List ℕ) → length (structs n xs) ≡ n
unfolding structs
structs-length n xs = length-map (below n) (struct_at xs) ∙ length_up 0 n

pub structs-at : (n : ℕ) (xs : List ℕ) (i : ℕ) → i < n → get_or (structs n xs) i no_row ≡ struct_at xs i
unfolding structs
structs-at n xs i h = get_d_up (struct_at xs) no_row 0 n i i (omega arith) h

-- a row is the first one of the numbers from it on
pub struct_from : (xs : List ℕ) (i : ℕ) → struct_at (take (length xs - row_wide * i) (drop (row_wide * i) xs)) 0 ≡ struct_at xs i
unfolding struct_at struct_of
struct_from xs i =
    let e : take (length xs - row_wide * i) (drop (row_wide * i) xs) ≡ drop (row_wide * i) xs = take_all _ _ (omega (arith, length-drop (row_wide * i) xs)) in
    let z : row_wide * i + 0 ≡ row_wide * i = omega arith in
    rw e (simp (get_or-drop, z))

-- past the numbers
pub struct_none : (xs : List ℕ) (i : ℕ) → length xs ≤ row_wide * i → no_row ≡ struct_at xs i
unfolding struct_at struct_of
struct_none xs i h = sym (ap struct_of (past_none xs i h))

-- ---- the lent rows ys once i of them are written

abbrev pub written : List ℕ → List Row → ℕ → List Row
written xs ys i = take i (structs (length ys) xs) ++ drop i ys

module _ (xs : List ℕ) (ys : List Row) (i : ℕ) where
  pub written-length : i ≤ length ys → length (written xs ys i) ≡ length ys
  written-length h =
      let l = structs-length (length ys) xs in
      omega (arith, length-append (take i (structs (length ys) xs)) (drop i ys), length-take-le i (structs (length ys) xs) (omega (arith, l)), length-drop i ys)

  pub written_next : i < length ys → set (written xs ys i) i (struct_at xs i) ≡ written xs ys (i + 1)
  written_next h =
      let zs = structs (length ys) xs in
      let l = structs-length (length ys) xs in
      ap (λ (t : List Row). set (take i zs ++ t) i (struct_at xs i)) (drop-cons ys i no_row h)
      ∙ set_at (take i zs) (get_or ys i no_row) (drop (suc i) ys) (struct_at xs i) i (length-take-le i zs (omega (arith, l)))
      ∙ sym (rw (add-one, take-suc zs i no_row (omega (arith, l)), structs-at (length ys) xs i h) (simp append_assoc))

-- zeros past the places that the numbers reach into, n of them
pub written_all : (xs : List ℕ) (ys zs : List Row) (n : ℕ) → n ≤ length ys → (n < length ys → length xs ≤ row_wide * n) → zs ≡ written xs ys n
    → take n zs ++ (replicate (length zs - n) no_row ++ drop (length zs - n) (drop n zs)) ≡ structs (length ys) xs
written_all xs ys zs n h past e =
    let S = structs (length ys) xs in
    let l = structs-length (length ys) xs in
    let m : length zs ≡ length ys = ap (λ us. length us) e ∙ written-length xs ys n h in
    let a : take n zs ≡ take n S = ap (take n) e ∙ take_at (take n S) (drop n ys) n (length-take-le n S (omega arith)) in
    let b : drop (length zs - n) (drop n zs) ≡ [] = drop_all (length zs - n) (drop n zs) (omega (arith, length-drop n zs)) in
    let c : replicate (length zs - n) no_row ≡ drop n S =
    ext_get_or no_row _ _ (omega (arith, length-drop n S, length-replicate (length zs - n) no_row))
    (λ i g. let k : n + i < length ys = omega (arith, length-replicate (length zs - n) no_row) in
    at-replicate (length zs - n) i no_row ∙ struct_none xs (n + i) (omega arith) ∙ sym (structs-at (length ys) xs (n + i) k) ∙ sym (get_or-drop n S i no_row)) in
    rw (a, b, append-nil, c) (take-append-drop n S)

-- ---- rows, and zero past them

row_at : (R : List bitml.Row) (m i : ℕ) → struct_of (get_or R i answers.no_row) ≡ get_or (map struct_of R ++ replicate m no_row) i no_row
unfolding struct_of
row_at [] m i = sym (at-replicate m i no_row)
row_at (r ∷ R) m zero = refl
row_at (r ∷ R) m (suc i) = row_at R m i

pub structs-filled : (n L : ℕ) (R : List bitml.Row) → length R ≤ n → structs n (filled L R) ≡ map struct_of R ++ replicate (n - length R) no_row
unfolding struct_at
structs-filled n L R h =
    let l = structs-length n (filled L R) in
    ext_get_or no_row (structs n (filled L R)) (map struct_of R ++ replicate (n - length R) no_row)
    (omega (arith, l, length-append (map struct_of R) (replicate (n - length R) no_row), length-map R struct_of, length-replicate (n - length R) no_row))
    (λ i g. structs-at n (filled L R) i (omega (arith, l)) ∙ ap struct_of (filled_at L R i) ∙ row_at R (n - length R) i)

-- "wholly zero"
pub structs_cleared : (n L : ℕ) → structs n (filled L []) ≡ replicate n no_row
structs_cleared n L = structs-filled n L [] (omega arith) ∙ ap (λ k. replicate k no_row) (let z : n - 0 ≡ n = omega arith in z)
