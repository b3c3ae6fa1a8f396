-- Line 1 and the `def` lines are the text of the sheet; nothing where it is too long. Assumes nothing.
use Prim.Native.Nat.{ℕ, ◌≤◌, ◌<◌}
use Rattle.std.specs.Prelude.{Option, Some, None, option_map}
use mathlib.Core.Path.{◌≡◌, refl, sym, ap, subst}
use mathlib.Core.List.{List, [], ◌∷◌, ◌++◌}
use native.Mathlib.Omega.{arith}
use lib.ListN.{length, take, get_or, length-append}
use borrow.Author.Tests.{le-leb, lt-leb}
use Rattle.tables.specs.Entries.{def_in, held, people}
use Rattle.tables.proofs.Runs.{first_of-length}
use Rattle.texts.specs.Text.{letters, line}
use Rattle.texts.specs.Wrote.{Wrote}
use Rattle.texts.proofs.Writing.{wrote_then}
use Rattle.texts.proofs.Lengths.{fields-most, line-length}
use Rattle.writing.specs.Written.{repeat, def_text, start, sheet_text}
use Rattle.writer.specs.Putting.{Puts, short}
use Rattle.writer.proofs.Putting.{went}
use Rattle.writer.specs.declared.Pen.{Pen}

pub short-same : (xs : List ℕ) → length xs ≤ 32768 → short xs ≡ Some xs
unfolding short
short-same xs h = rw (le-leb (length xs) 32768 h)

pub short_none : (xs : List ℕ) → 32768 < length xs → short xs ≡ None
unfolding short
short_none xs h = rw (lt-leb (length xs) 32768 h)

pub line-one-short : (k n : ℕ) → length (line (letters "bitml") (k ∷ n ∷ [])) ≤ 48
line-one-short k n = omega (arith, line-length (letters "bitml") (k ∷ n ∷ []), fields-most (k ∷ n ∷ []))

-- what comes back where xs is the text that is due, and what the buffer then holds
abbrev pub Answers : List ℕ → Option ℕ → List ℕ → Type 0
Answers xs n u = (n ≡ option_map (λ ys. length ys) (short xs)) × (option_map (λ k. take k u) n ≡ short xs)

-- the text of t's sheet was begun with line 1
module _ (t : List ℕ) {u₀ u₁ : List ℕ} {at : ℕ} (w : Wrote u₀ 0 (line (letters "bitml") (people t ∷ get_or t 1 0 ∷ [])) u₁ at) where
  text-is : line (letters "bitml") (people t ∷ get_or t 1 0 ∷ []) ++ (repeat (get_or t 1 0) (def_text (held t) (people t)) start).0 ≡ sheet_text (people t) (held t)
  unfolding sheet_text held
  text-is =
      ap (λ n. line (letters "bitml") (people t ∷ n ∷ []) ++ (repeat n (def_text (held t) (people t)) start).0) (sym (first_of-length (def_in t) (get_or t 1 0)))

  pub whole_text : {u : List ℕ} {q : Pen} → Puts u₁ at (repeat (get_or t 1 0) (def_text (held t) (people t)) start) (Some q) u → Answers (sheet_text (people t) (held t)) (Some q.at) u
  whole_text {u} {q} h =
      let a = went h in
      let b = subst (λ xs. Wrote u₀ 0 xs u q.at) text-is (wrote_then w a.wrote) in
      let s = short-same (sheet_text (people t) (held t)) (omega (arith, b.end, a.small.short)) in
      let i : q.at ≡ length (sheet_text (people t) (held t)) = omega (arith, b.end) in
      rw s (ap Some i, ap Some b.front)

  pub no_text : {u : List ℕ} {n : Option ℕ} → Puts u₁ at (repeat (get_or t 1 0) (def_text (held t) (people t)) start) None u → n ≡ None → Answers (sheet_text (people t) (held t)) n u
  no_text h e =
      let a = h.full refl in
      let l = ap (λ xs. length xs) text-is in
      let long : 32768 < length (sheet_text (people t) (held t)) =
      omega (arith, a.passed, w.end, l, length-append (line (letters "bitml") (people t ∷ get_or t 1 0 ∷ [])) (repeat (get_or t 1 0) (def_text (held t) (people t)) start).0) in
      rw (e, short_none (sheet_text (people t) (held t)) long) (refl, refl)
