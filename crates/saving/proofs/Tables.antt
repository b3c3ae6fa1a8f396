-- What is claimed of tables holds. Assumes nothing.
use Prim.Native.Nat.{ℕ, ◌≤◌, ◌<◌}
use mathlib.Core.Path.{◌≡◌, refl, sym, ap, ◌∙◌, subst}
use mathlib.Core.Bool.{cond}
use mathlib.Core.Option.{Option, some, none}
use mathlib.Core.List.{List}
use native.Mathlib.Omega.{arith}
use lib.ListN.{length}
use lib.Seq.{take-length}
use lib.Dec.{leb, eqb}
use borrow.Author.Tests.{leb-true, leb-false, eqb-true, eq-eqb}
use Rattle.fields.proofs.Ranges.{cond_cases}
use Rattle.tables.specs.Entries.{Entries, held, people, table_long}
use Rattle.lines.specs.Sheet.{SheetRead, accepted, read_sheet}
use Rattle.lines.specs.Sheet.{refused as unread}
use Rattle.ranges.proofs.Reading.{sheet-inside}
use Rattle.promises.specs.Texts.{Promised}
use Rattle.promises.proofs.Promised.{promised}
use Rattle.loading.specs.Table.{table_of}
use Rattle.loading.specs.Loading.{Loaded, loaded, refused_at, alone, loading}
use Rattle.loading.specs.Loading.{refused as declined}
use Rattle.loading.proofs.Table.{table_long_lem, people-back, held_back}
use Rattle.loading.proofs.Loading.{is-alone}
use Rattle.writing.specs.Writable.{writable, written}
use Rattle.writing.specs.Written.{sheet_text}
use Rattle.writing.specs.Back.{Text}
use Rattle.writing.proofs.Printed.{text-printed}
use Rattle.writing.proofs.Claims.{back}
use Rattle.saving.specs.Saving.{Saved, saved, refused, fitted, saving}
use Rattle.saving.specs.Tables.{OfTables}
use Rattle.saving.proofs.Saving.{fits, fits_not, is-fitted}

-- ---- what was read into a table

alone-is : (s : List ℕ) (w : SheetRead) (K : ℕ) (E : Entries) → alone s w ≡ loaded K E → w ≡ accepted K (length s) E
unfolding alone refused_at
alone-is s (accepted k at F) K E =
    cond_cases (λ x. x ≡ loaded K E → accepted k at F ≡ accepted K (length s) E) (eqb at (length s)) (loaded k F) (refused_at s 9 at)
    (λ e h. let i : at ≡ length s = eqb-true at (length s) e in let j : k ≡ K = cc in let l : F ≡ E = cc in cc)
    (λ e h. absurd (let z : ◌≡◌ {A = ℕ} 0 1 = cc in omega arith))
alone-is s (unread m p) K E = λ h. absurd (let z : ◌≡◌ {A = ℕ} 0 1 = cc in omega arith)

loaded-is : (s : List ℕ) (n K : ℕ) (E : Entries) → loading s n ≡ loaded K E → (table_long ≤ n) × (read_sheet s ≡ accepted K (length s) E)
unfolding loading
loaded-is s n K E =
    cond_cases Q (leb (length s) 65536) _ (declined 1 0 0)
    (λ l. cond_cases Q (leb table_long n) (alone s (read_sheet s)) (declined 7 0 0) (λ h e. (leb-true table_long n h, alone-is s (read_sheet s) K E e)) (λ h e. never e))
    (λ l e. never e)
  where
    Q : Loaded → Type 0
    Q x = x ≡ loaded K E → (table_long ≤ n) × (read_sheet s ≡ accepted K (length s) E)

    never : {a b c : ℕ} → declined a b c ≡ loaded K E → (table_long ≤ n) × (read_sheet s ≡ accepted K (length s) E)
    never e = absurd (let z : ◌≡◌ {A = ℕ} 0 1 = cc in omega arith)

loads : (s : List ℕ) (n K : ℕ) (E : Entries) → length s ≤ 65536 → table_long ≤ n → read_sheet s ≡ accepted K (length s) E → loading s n ≡ loaded K E
unfolding alone
loads s n K E l h e = is-alone s n l h ∙ ap (alone s) e ∙ ap (λ b. cond b (loaded K E) (refused_at s 9 (length s))) (eq-eqb (length s) (length s) refl)

-- ---- what was written from one

module _ (m : ℕ) where
  fitted-saved : (w : Option (List ℕ)) (s : List ℕ) → fitted m w ≡ saved s → w ≡ some s
  unfolding fitted
  fitted-saved (some xs) s =
      cond_cases (λ x. x ≡ saved s → some xs ≡ some s) (leb (length xs) m) (saved xs) (refused 20) (λ e h. let i : xs ≡ s = cc in ap some i)
      (λ e h. absurd (let z : ◌≡◌ {A = ℕ} 0 1 = cc in omega arith))
  fitted-saved none s = λ h. absurd (let z : ◌≡◌ {A = ℕ} 0 1 = cc in omega arith)

  fitted_none : (w : Option (List ℕ)) → fitted m w ≡ refused 3 → w ≡ none
  unfolding fitted
  fitted_none (some xs) =
      cond_cases (λ x. x ≡ refused 3 → some xs ≡ none) (leb (length xs) m) (saved xs) (refused 20) (λ e h. absurd (let z : ◌≡◌ {A = ℕ} 0 1 = cc in omega arith))
      (λ e h. absurd (let z : ◌≡◌ {A = ℕ} 20 3 = cc in omega arith))
  fitted_none none = λ h. refl

  fitted_short : (w : Option (List ℕ)) → fitted m w ≡ refused 20 → (s : List ℕ) × (w ≡ some s) × (m < length s)
  unfolding fitted
  fitted_short (some xs) =
      cond_cases (λ x. x ≡ refused 20 → (s : List ℕ) × (some xs ≡ some s) × (m < length s)) (leb (length xs) m) (saved xs) (refused 20)
      (λ e h. absurd (let z : ◌≡◌ {A = ℕ} 0 1 = cc in omega arith)) (λ e h. (xs, refl, leb-false (length xs) m e))
  fitted_short none = λ h. absurd (let z : ◌≡◌ {A = ℕ} 3 20 = cc in omega arith)

module _ (t : List ℕ) (m : ℕ) where
  -- other than by 3 only cells that are a table are answered
  saving-long : (x : Saved) → (x ≡ refused 3 → ⊥) → saving t m ≡ x → table_long ≤ length t
  unfolding saving
  saving-long x f =
      cond_cases (λ y. y ≡ x → table_long ≤ length t) (leb table_long (length t)) (fitted m (written (people t) (held t))) (refused 3)
      (λ e h. leb-true table_long (length t) e) (λ e h. absurd (f (sym h)))

  saving-none : (table_long ≤ length t → written (people t) (held t) ≡ none) → saving t m ≡ refused 3
  unfolding saving fitted
  saving-none f =
      cond_cases (λ y. y ≡ refused 3) (leb table_long (length t)) (fitted m (written (people t) (held t))) (refused 3)
      (λ e. ap (fitted m) (f (leb-true table_long (length t) e))) (λ e. refl)

saved-not : {s : List ℕ} {n : ℕ} → saved s ≡ refused n → ⊥
saved-not e = absurd (let z : ◌≡◌ {A = ℕ} 0 1 = cc in omega arith)

written_is : (s : List ℕ) → Text s → (K : ℕ) (E : Entries) → read_sheet s ≡ accepted K (length s) E → written K E ≡ some s
written_is s hs K E e = back.write-after-read s hs K (length s) E e ∙ ap some (take-length s)

text_of : (K : ℕ) (E : Entries) (s : List ℕ) → written K E ≡ some s → Text s
unfolding written
text_of K E s =
    cond_cases (λ x. x ≡ some s → Text s) (writable K E) (some (sheet_text K E)) none
    (λ e h. let i : sheet_text K E ≡ s = cc in subst (λ x. Text x) i (text-printed K E)) (λ e h. absurd (let z : ◌≡◌ {A = ℕ} 0 1 = cc in omega arith))

-- ---- the claims

pub of_tables : OfTables
unfolding Promised
of_tables =
    record {
      write-after-read = λ s hs n K E e m h.
          let r = loaded-is s n K E e in
          let z = (promised s K (length s) E r.1).limits in
          is-fitted (table_of n K E) m (omega (arith, table_long_lem K E z n r.0, r.0))
          ∙ ap (fitted m) (rw (people-back K E z n r.0, held_back K E z n r.0) (written_is s hs K E r.1))
          ∙ fits m s h;
      read-after-write = λ t s m e n h.
          let l = saving-long t m (saved s) saved-not e in
          let r = back.read-after-write (people t) (held t) s (fitted-saved m (written (people t) (held t)) s (sym (is-fitted t m l) ∙ e)) in
          loads s n (people t) (held t) (omega (arith, (sheet-inside s (people t) (length s) (held t) r).1)) h r;
      refused_exactly = λ t m. (
        λ e l. (back.refused_exactly (people t) (held t)).0 (fitted_none m (written (people t) (held t)) (sym (is-fitted t m l) ∙ e)),
        λ f. saving-none t m λ l. (back.refused_exactly (people t) (held t)).1 (f l),
      );
      short_exactly = λ t m. (
        λ e.
            let l = saving-long t m (refused 20) twenty e in
            let w = fitted_short m (written (people t) (held t)) (sym (is-fitted t m l) ∙ e) in
            (w.0, l, text_of (people t) (held t) w.0 w.1, back.read-after-write (people t) (held t) w.0 w.1, w.2),
        λ x. is-fitted t m x.1 ∙ ap (fitted m) (written_is x.0 x.2 (people t) (held t) x.3) ∙ fits_not m x.0 x.4,
      );
    }
  where
    twenty : refused 20 ≡ refused 3 → ⊥
    twenty e = absurd (let z : ◌≡◌ {A = ℕ} 20 3 = cc in omega arith)
