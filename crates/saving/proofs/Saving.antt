-- How the reply of writing comes from what its steps give. Assumes nothing.
use Prim.Native.Nat.{ℕ, ◌+◌, ◌≤◌, ◌<◌}
use mathlib.Core.Path.{◌≡◌, sym, ap, ap₂, ◌∙◌}
use mathlib.Core.Bool.{Bool, true, false}
use mathlib.Core.Option.{some}
use mathlib.Core.Logic.{by_cases}
use native.Mathlib.Decide.{dec_le}
use Rattle.std.specs.Prelude.{Some, None, option_map}
use mathlib.Core.List.{List, ◌++◌}
use native.Mathlib.Omega.{arith}
use lib.ListN.{length, get_or, drop, take-append-drop}
use lib.Dec.{eqb, leb}
use borrow.Author.Tests.{eq-eqb, ne_eqb, le-leb, lt-leb}
use Rattle.bitml.specs.Lists.{◌&◌}
use Rattle.bitml.proofs.Lists.{and_false, and_true, and_no}
use Rattle.fields.specs.Field.{Got}
use Rattle.fields.specs.Field.{Value, Bad}
use Rattle.tables.specs.Entries.{Entries, held, people, cell_in, cells_from, table_long, Spacious, Within}
use Rattle.tables.proofs.Runs.{first_of-length}
use Rattle.lines.specs.Sheet.{read_sheet, answered, WhenAccepted}
use Rattle.reading.proofs.Sizes.{sizes-within}
use Rattle.ranges.proofs.Reading.{sheet-paid}
use Rattle.texts.specs.Wrote.{Wrote}
use Rattle.replies.specs.declared.Reply.{Reply}
use Rattle.writing.specs.Written.{sheet_text}
use Rattle.writing.specs.Writable.{same_entries, read_as, writable, written}
use Rattle.writer.specs.Putting.{short}
use Rattle.writer.proofs.Whole.{short-same, short_none}
use Rattle.writing.proofs.Claims.{written_yes, written_no, not-writable, not_sized}
use Rattle.saving.specs.Comparing.{same_sheet}
use Rattle.saving.specs.Saving.{Saved, saved, refused, fitted, saving, reply_of, bytes_of}

-- ---- counts past their sections

pub not_within : (t : List ℕ) → (Within t → ⊥) → writable (people t) (held t) ≡ false
not_within t h = not_sized (people t) (held t) λ z. h (sizes-within t z)

-- ---- the text that was put, and reading it

-- m bytes of text were put, xs
pub record Put (text : List ℕ) (m : ℕ) (xs : List ℕ) : Type 0 where
  pub is : xs ≡ text
  pub long : m ≡ length text
  pub few : length text ≤ 32768

module _ (text : List ℕ) where
  pub was_put : {m : ℕ} {xs : List ℕ} → Some m ≡ option_map (λ ys. length ys) (short text) → Some xs ≡ short text → Put text m xs
  was_put {m} {xs} h k =
      by_cases (dec_le (length text) 32768)
      (λ l.
      let e = short-same text l in
      let i : Some xs ≡ Some text = k ∙ e in
      let j : Some m ≡ Some (length text) = h ∙ ap (option_map (λ ys. length ys)) e in
      record { is = cc; long = cc; few = l })
      (λ l. let e : Some xs ≡ None = k ∙ short_none text (omega arith) in cc)

  pub not_put : None ≡ short text → 32768 < length text
  not_put k = by_cases (dec_le (length text) 32768) (λ l. let e : None ≡ Some text = k ∙ short-same text l in cc) (λ l. omega arith)

module _ (K : ℕ) (E : Entries) where
  pub nothing_put : None ≡ short (sheet_text K E) → writable K E ≡ false
  nothing_put k = not-writable K E (not_put (sheet_text K E) k)

  -- it was the text that was read
  pub put-writable : {s : List ℕ} {b : Bool} → s ≡ sheet_text K E → b ≡ read_as (length s) K E (read_sheet s) → writable K E ≡ b
  unfolding writable
  put-writable q r = ap (λ x. read_as (length x) K E (read_sheet x)) (sym q) ∙ sym r

-- u is the table after reading s
module _ (s u t : List ℕ) (g : Got) (h : (answered g u ≡ read_sheet s) × WhenAccepted s g u) where
  -- the table has all the cells that it counts, since each took two bytes
  pub back-cells : (v at : ℕ) → g ≡ Value v at → Spacious s u → cells_from + get_or u 5 0 ≤ length u
  unfolding answered held
  back-cells v at e room =
      let p = sheet-paid s (people u) at (held u) (sym h.0 ∙ ap (λ x. answered x u) e) in
      omega (arith, room, p, first_of-length (cell_in u) (get_or u 5 0))

  -- something stands behind the sheet
  pub back-behind : (v at : ℕ) → g ≡ Value v at → (at ≡ length s → ⊥) → read_as (length s) (people t) (held t) (read_sheet s) ≡ false
  unfolding answered read_as
  back-behind v at e z =
      ap (read_as (length s) (people t) (held t)) (sym h.0 ∙ ap (λ x. answered x u) e) ∙ and_no _ _ (and_false _ _ (ne_eqb at (length s) z))

  pub back_compared : (v at : ℕ) → g ≡ Value v at → at ≡ length s → read_as (length s) (people t) (held t) (read_sheet s) ≡ same_sheet u t
  unfolding answered read_as same_sheet
  back_compared v at e z =
      ap (read_as (length s) (people t) (held t)) (sym h.0 ∙ ap (λ x. answered x u) e)
      ∙ ap (λ b. eqb (people u) (people t) & b) (and_true _ (same_entries (held u) (held t)) (eq-eqb at (length s) z))

  pub back-refused : (n p : ℕ) → g ≡ Bad n p → read_as (length s) (people t) (held t) (read_sheet s) ≡ false
  unfolding answered read_as
  back-refused n p e = ap (read_as (length s) (people t) (held t)) (sym h.0 ∙ ap (λ x. answered x u) e)

-- ---- the reply

pub fits : (n : ℕ) (xs : List ℕ) → length xs ≤ n → fitted n (some xs) ≡ saved xs
unfolding fitted
fits n xs h = rw (le-leb (length xs) n h)

pub fits_not : (n : ℕ) (xs : List ℕ) → n < length xs → fitted n (some xs) ≡ refused 20
unfolding fitted
fits_not n xs h = rw (lt-leb (length xs) n h)

module _ (t : List ℕ) (n : ℕ) where
  pub few-cells : length t < table_long → saving t n ≡ refused 3
  unfolding saving
  few-cells l = let z : leb table_long (length t) ≡ false = lt-leb table_long (length t) l in rw z

  module _ (l : table_long ≤ length t) where
    pub is-fitted : saving t n ≡ fitted n (written (people t) (held t))
    unfolding saving
    is-fitted = let z : leb table_long (length t) ≡ true = le-leb table_long (length t) l in rw z

    pub unwritten : writable (people t) (held t) ≡ false → saving t n ≡ refused 3
    unfolding fitted
    unwritten h = is-fitted ∙ ap (fitted n) (written_no (people t) (held t) h)

    pub no_room : writable (people t) (held t) ≡ true → n < length (sheet_text (people t) (held t)) → saving t n ≡ refused 20
    no_room h k = is-fitted ∙ ap (fitted n) (written_yes (people t) (held t) h) ∙ fits_not n (sheet_text (people t) (held t)) k

    pub with_room : writable (people t) (held t) ≡ true → length (sheet_text (people t) (held t)) ≤ n → saving t n ≡ saved (sheet_text (people t) (held t))
    with_room h k = is-fitted ∙ ap (fitted n) (written_yes (people t) (held t) h) ∙ fits n (sheet_text (people t) (held t)) k

-- a refusal leaves the buffer as it is
pub refuses : (u : List ℕ) {s : Saved} {r : Reply} {k : ℕ} → s ≡ refused k → r ≡ record { number = k; line = 0; field = 0; length = 0 } → (r ≡ reply_of s) × (u ≡ bytes_of u s)
unfolding reply_of bytes_of
refuses u e h = (h ∙ sym (ap reply_of e), sym (ap (bytes_of u) e))

-- the text at the start of the buffer
pub saves : {u v xs ys : List ℕ} {s : Saved} {r : Reply} {m : ℕ} → s ≡ saved xs → ys ≡ xs → Wrote u 0 ys v m → r ≡ record { number = 0; line = 0; field = 0; length = m } → (r ≡ reply_of s) × (v ≡ bytes_of u s)
unfolding reply_of bytes_of
saves {u} {v} {xs} {ys} {s} {r} {m} e q w h =
    let i = ap (λ zs. length zs) q in
    let j : m ≡ length xs = omega (arith, w.end, i) in (
      h ∙ ap (λ k. record { number = 0; line = 0; field = 0; length = k }) j ∙ sym (ap reply_of e),
      sym (take-append-drop m v) ∙ ap₂ (λ x y. x ++ y) (w.front ∙ q) (w.rest ∙ ap (λ k. drop k u) j) ∙ sym (ap (bytes_of u) e),
    )
