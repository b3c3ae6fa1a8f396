-- What is claimed of writing holds. Assumes nothing.
use Prim.Native.Nat.{ℕ, ◌<◌}
use mathlib.Core.Path.{◌≡◌, refl, sym, ap, ◌∙◌, subst}
use mathlib.Core.Bool.{Bool, true, false}
use mathlib.Core.Option.{some, none}
use mathlib.Core.List.{List}
use native.Mathlib.Omega.{arith}
use lib.ListN.{length, take}
use lib.Seq.{length-take-le}
use Rattle.bitml.proofs.Lists.{is_false}
use Rattle.tables.specs.Entries.{Entries}
use Rattle.lines.specs.Sheet.{accepted, read_sheet}
use Rattle.reading.specs.Promises.{Sizes}
use Rattle.ranges.proofs.Reading.{sheet-inside}
use Rattle.promises.specs.Texts.{Promised}
use Rattle.promises.proofs.Promised.{promised}
use Rattle.writing.specs.Written.{sheet_text}
use Rattle.writing.specs.Writable.{writable, written}
use Rattle.writing.specs.Back.{Text, Back}
use Rattle.writing.proofs.Back.{writes_back}
use Rattle.writing.proofs.Alone.{reads_back}
use Rattle.writing.proofs.Same.{read_as_yes, yes_read_as}
use Rattle.writing.proofs.Printed.{text-printed}

module _ (K : ℕ) (E : Entries) where
  -- ---- what is written

  pub writable_reads : writable K E ≡ true → read_sheet (sheet_text K E) ≡ accepted K (length (sheet_text K E)) E
  unfolding writable
  writable_reads e = read_as_yes _ K E _ e

  pub reads_writable : read_sheet (sheet_text K E) ≡ accepted K (length (sheet_text K E)) E → writable K E ≡ true
  unfolding writable
  reads_writable e = yes_read_as _ K E _ e

  pub written_yes : writable K E ≡ true → written K E ≡ some (sheet_text K E)
  unfolding written
  written_yes e = rw e

  pub written_no : writable K E ≡ false → written K E ≡ none
  unfolding written
  written_no e = rw e

  -- ---- what is not

  pub not-writable : 32768 < length (sheet_text K E) → writable K E ≡ false
  not-writable h = is_false (writable K E) λ e. omega (arith, h, (sheet-inside (sheet_text K E) K (length (sheet_text K E)) E (writable_reads e)).1)

  -- a count that no sheet has
  pub not_sized : (Sizes K E → ⊥) → writable K E ≡ false
  unfolding Promised
  not_sized h = is_false (writable K E) λ e. h (promised (sheet_text K E) K (length (sheet_text K E)) E (writable_reads e)).limits

-- ---- the claims

read-is-writable : (s : List ℕ) → Text s → (K at : ℕ) (E : Entries) → read_sheet s ≡ accepted K at E → writable K E ≡ true
read-is-writable s hs K at E e =
    let i = (sheet-inside s K at E e).0 in
    let t : sheet_text K E ≡ take at s = writes_back s hs K at E e in
    let n : length (take at s) ≡ at = length-take-le at s i in
    let r : read_sheet (take at s) ≡ accepted K at E = reads_back s K at E e i in
    reads_writable K E (subst (λ x. read_sheet x ≡ accepted K (length x) E) (sym t) (r ∙ ap (λ m. accepted K m E) (sym n)))

pub back : Back
back =
    record {
      write-after-read = λ s hs K at E e. written_yes K E (read-is-writable s hs K at E e) ∙ ap some (writes_back s hs K at E e);
      read-after-write = λ K E s. after K E s (writable K E) refl;
      refused_exactly = λ K E. (λ e s hs at r. let y = written_yes K E (read-is-writable s hs K at E r) in none-some (sym e ∙ y), unread K E (writable K E) refl);
    }
  where
    none-some : {x : List ℕ} → none ≡ some x → ⊥
    none-some e = let z : ◌≡◌ {A = ℕ} 0 1 = cc in absurd (omega arith)

    after : (K : ℕ) (E : Entries) (s : List ℕ) (b : Bool) → writable K E ≡ b → written K E ≡ some s → read_sheet s ≡ accepted K (length s) E
    after K E s true e h =
        let q : some (sheet_text K E) ≡ some s = sym (written_yes K E e) ∙ h in
        let t : sheet_text K E ≡ s = cc in
        subst (λ x. read_sheet x ≡ accepted K (length x) E) t (writable_reads K E e)
    after K E s false e h = absurd (none-some (sym (written_no K E e) ∙ h))

    unread : (K : ℕ) (E : Entries) (b : Bool) → writable K E ≡ b → ((s : List ℕ) → Text s → (at : ℕ) → read_sheet s ≡ accepted K at E → ⊥) → written K E ≡ none
    unread K E true e h = absurd (h (sheet_text K E) (text-printed K E) (length (sheet_text K E)) (writable_reads K E e))
    unread K E false e h = written_no K E e
