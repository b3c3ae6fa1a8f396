-- The parts of a line. Assumes nothing.
use mathlib.Core.Path.{◌≡◌, refl, sym, ap, ◌∙◌, subst}
use Prim.Native.Nat.{ℕ, zero, suc, ◌+◌, ◌/◌, ◌%◌, ◌^◌, ◌≤◌, ◌<◌}
use native.Mathlib.Omega.{arith}
use native.Mathlib.Numerals.{add-one}
use mathlib.Core.Bool.{Bool, true, false, cond}
use mathlib.Core.List.{List, [], ◌∷◌, ◌++◌, map, map-append, append-nil, append_assoc}
use lib.ListN.{length, take, get_or, length-append}
use lib.Seq.{take-suc}
use lib.Dec.{ltb}
use borrow.Author.Tests.{lt-ltb, le-ltb}
use Rattle.bitml.specs.Answers.{Line, row_line, refused_line, taken_line, end_line, event_line}
use Rattle.buffer.specs.Buffer.{row_in, rows_of}
use Rattle.buffer.proofs.Buffer.{rows_none, rows_next}
use Rattle.texts.specs.Text.{digits, decimal, letters, field, fields, line, line_text, lines_text}
use Rattle.texts.specs.Wrote.{Wrote}
use Rattle.texts.proofs.Writing.{wrote_none, wrote_then}

-- ---- a number

-- Digits enough are all
digits_same : (k n : ℕ) → n < 10 ^ suc k → digits (suc (suc k)) n ≡ digits (suc k) n
unfolding digits
digits_same zero n h = rw (lt-ltb n 10 (omega arith))
digits_same (suc k) n h = go (ltb n 10) (digits_same k (n / 10) (omega arith))
  where
    go : (b : Bool) → digits (suc (suc k)) (n / 10) ≡ digits (suc k) (n / 10)
        → cond b ((48 + n) ∷ []) (digits (suc (suc k)) (n / 10) ++ ((48 + n % 10) ∷ [])) ≡ cond b ((48 + n) ∷ []) (digits (suc k) (n / 10) ++ ((48 + n % 10) ∷ []))
    go true e = refl
    go false e = ap (λ xs. xs ++ ((48 + n % 10) ∷ [])) e

decimal-one : (n : ℕ) → n < 10 → decimal n ≡ (48 + n) ∷ []
unfolding decimal digits
decimal-one n h = rw (lt-ltb n 10 h)

digits_more : (k n : ℕ) → 10 ≤ n → digits (suc k) n ≡ digits k (n / 10) ++ ((48 + n % 10) ∷ [])
unfolding digits
digits_more k n h = rw (le-ltb n 10 h)

decimal-more : (n : ℕ) → 10 ≤ n → n < 10 ^ 20 → decimal n ≡ decimal (n / 10) ++ ((48 + n % 10) ∷ [])
unfolding decimal
decimal-more n h l = digits_more 19 n h ∙ ap (λ xs. xs ++ ((48 + n % 10) ∷ [])) (sym (digits_same 18 (n / 10) (omega arith)))

module _ (n : ℕ) (h : n < 10) where
  pub one-length : length (decimal n) ≡ 1
  one-length = ap (λ xs. length xs) (decimal-one n h)

  pub wrote_one : {u v : List ℕ} {a b : ℕ} → Wrote u a ((48 + n) ∷ []) v b → Wrote u a (decimal n) v b
  wrote_one {u} {v} {a} {b} x = subst (λ xs. Wrote u a xs v b) (sym (decimal-one n h)) x

module _ (n : ℕ) (h : 10 ≤ n) (l : n < 10 ^ 20) where
  pub more-length : length (decimal n) ≡ length (decimal (n / 10)) + 1
  more-length = ap (λ xs. length xs) (decimal-more n h l) ∙ length-append (decimal (n / 10)) ((48 + n % 10) ∷ [])

  pub wrote-last : {u v w : List ℕ} {a b c : ℕ} → Wrote u a (decimal (n / 10)) v b → Wrote v b ((48 + n % 10) ∷ []) w c → Wrote u a (decimal n) w c
  wrote-last {u} {w = w} {a = a} {c = c} x y = subst (λ xs. Wrote u a xs w c) (sym (decimal-more n h l)) (wrote_then x y)

-- ---- a line

fields-append : (xs ys : List ℕ) → fields (xs ++ ys) ≡ fields xs ++ fields ys
unfolding fields
fields-append [] ys = refl
fields-append (x ∷ xs) ys = ap (λ zs. field x ++ zs) (fields-append xs ys) ∙ sym (append_assoc (field x) (fields xs) (fields ys))

pub wrote_no_field : (u : List ℕ) (a : ℕ) → Wrote u a (fields []) u a
unfolding fields
wrote_no_field u a = wrote_none u a

module _ {u₀ u v z : List ℕ} {a b c d : ℕ} where
  -- one field more
  pub wrote-field : (ns : List ℕ) (i : ℕ) → i < length ns → Wrote u₀ a (fields (take i ns)) u b → Wrote u b (44 ∷ []) v c → Wrote v c (decimal (get_or ns i 0)) z d
      → Wrote u₀ a (fields (take (i + 1) ns)) z d
  unfolding fields field
  wrote-field ns i h x y w =
      let n = get_or ns i 0 in
      let e : fields (take (i + 1) ns) ≡ fields (take i ns) ++ ((44 ∷ []) ++ decimal n) = ap (λ k. fields (take k ns)) (add-one i) ∙ ap fields (take-suc ns i 0 h) ∙ fields-append (take i ns) (n ∷ []) ∙ ap (λ zs. fields (take i ns) ++ (44 ∷ zs)) (append-nil (decimal n)) in
      subst (λ zs. Wrote u₀ a zs z d) (sym e) (wrote_then x (wrote_then y w))

  pub wrote-line : {word : List ℕ} (ns : List ℕ) → Wrote u₀ a word u b → Wrote u b (fields ns) v c → Wrote v c (10 ∷ []) z d → Wrote u₀ a (line word ns) z d
  unfolding line
  wrote-line ns x y w = wrote_then (wrote_then x y) w

pub wrote-end : {u₀ u v w z : List ℕ} {a b c d e : ℕ} (t n : ℕ) (ps : List ℕ) → Wrote u₀ a (letters "end") u b → Wrote u b (fields (t ∷ n ∷ [])) v c → Wrote v c (fields ps) w d → Wrote w d (10 ∷ []) z e
    → Wrote u₀ a (line_text (end_line t n ps)) z e
unfolding line_text
wrote-end {u = u} {w = w} {b = b} {d = d} t n ps x y z l =
    wrote-line (t ∷ n ∷ ps) x (subst (λ zs. Wrote u b zs w d) (sym (fields-append (t ∷ n ∷ []) ps)) (wrote_then y z)) l

module _ {u v : List ℕ} {a b : ℕ} where
  pub wrote-taken : (k n : ℕ) → n ≡ 0 → Wrote u a (line_text taken_line) v b → Wrote u a (line_text (event_line k n)) v b
  unfolding event_line
  wrote-taken k zero e x = x
  wrote-taken k (suc n) e x = absurd (omega arith)

  pub wrote-refused : (k n : ℕ) → (n ≡ 0 → ⊥) → Wrote u a (line_text (refused_line n k 0)) v b → Wrote u a (line_text (event_line k n)) v b
  unfolding event_line
  wrote-refused k zero f x = absurd (f refl)
  wrote-refused k (suc n) f x = x

-- ---- rows

pub lines-append : (xs ys : List Line) → lines_text (xs ++ ys) ≡ lines_text xs ++ lines_text ys
unfolding lines_text
lines-append [] ys = refl
lines-append (x ∷ xs) ys = ap (λ zs. line_text x ++ zs) (lines-append xs ys) ∙ sym (append_assoc (line_text x) (lines_text xs) (lines_text ys))

pub one_line : (l : Line) → lines_text (l ∷ []) ≡ line_text l
unfolding lines_text
one_line l = append-nil (line_text l)

abbrev pub rows_text : ℕ → List ℕ → List ℕ
rows_text n u = lines_text (map row_line (rows_of n u))

row_more : (i : ℕ) (u : List ℕ) → rows_text (i + 1) u ≡ rows_text i u ++ line_text (row_line (row_in u i))
unfolding lines_text
row_more i u =
    ap (λ rs. lines_text (map row_line rs)) (rows_next u i)
    ∙ ap lines_text (map-append row_line (rows_of i u) (row_in u i ∷ []))
    ∙ lines-append (map row_line (rows_of i u)) (row_line (row_in u i) ∷ [])
    ∙ ap (λ zs. rows_text i u ++ zs) (one_line (row_line (row_in u i)))

-- the first rows take no more bytes than all
pub rows-up : (k i n : ℕ) (u : List ℕ) → n ≡ i + k → length (rows_text i u) ≤ length (rows_text n u)
rows-up zero i n u e = let z : i ≡ n = omega arith in subst (λ m. length (rows_text i u) ≤ length (rows_text m u)) z (omega arith)
rows-up (suc k) i n u e =
    omega (arith, ap (λ xs. length xs) (row_more i u), length-append (rows_text i u) (line_text (row_line (row_in u i))), rows-up k (i + 1) n u (omega arith))

pub wrote_no_row : (u : List ℕ) (a : ℕ) (rows : List ℕ) → Wrote u a (rows_text 0 rows) u a
unfolding lines_text
wrote_no_row u a rows = subst (λ rs. Wrote u a (lines_text (map row_line rs)) u a) (sym (rows_none rows)) (wrote_none u a)

pub wrote-row : {u₀ u v : List ℕ} {a b c : ℕ} (i : ℕ) (rows : List ℕ) → Wrote u₀ a (rows_text i rows) u b → Wrote u b (line_text (row_line (row_in rows i))) v c → Wrote u₀ a (rows_text (i + 1) rows) v c
wrote-row {u₀} {v = v} {a = a} {c = c} i rows x y = subst (λ zs. Wrote u₀ a zs v c) (sym (row_more i rows)) (wrote_then x y)
