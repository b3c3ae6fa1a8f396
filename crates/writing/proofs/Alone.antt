-- The bytes of a sheet are read as that sheet, alone and whatever stands behind them. Assumes nothing.
use Prim.Native.Nat.{ℕ, ◌+◌, ◌-◌, ◌≤◌, ◌<◌}
use mathlib.Core.Path.{◌≡◌, refl, ap, ◌∙◌, subst}
use mathlib.Core.Bool.{Bool, true, false}
use mathlib.Core.List.{List, [], ◌++◌, append-nil}
use native.Mathlib.Omega.{arith}
use lib.ListN.{length, take, length-append, get_or-append}
use lib.Seq.{get_or-take, length-take-le}
use lib.Dec.{eqb, ltb, leb}
use borrow.Author.Tests.{eqb-true, le-leb}
use Rattle.fields.specs.Field.{spelled, when_read, number_at, between_at, first_at, line_end_at}
use Rattle.fields.specs.Field.{Got}
use Rattle.fields.specs.Field as got
use Rattle.fields.proofs.Ranges.{when_read-cases, cond_cases, line-end-next}
use Rattle.tables.specs.Entries.{Entries}
use Rattle.tables.specs.State.{State, entries}
use Rattle.steps.specs.Steps.{Outcome, next, either}
use Rattle.steps.proofs.Ends.{refused}
use Rattle.ranges.proofs.Accepted.{limited-short}
use Rattle.lines.specs.LineOne.{LineOne}
use Rattle.lines.specs.LineOne.{Counts, Bad}
use Rattle.lines.specs.LineOne.{counts_at, line_one_at}
use Rattle.lines.specs.Definition.{define_at, blank}
use Rattle.lines.specs.Sheet.{beyond, limited, accepted, accept, sizes, sheet_from, read_sheet}
use Rattle.writing.proofs.Local.{Like, number_alike, line_alike, first_alike, a_lines}
use Rattle.writing.proofs.Reread.{test_yes, a_define}
use Rattle.writing.proofs.Back.{range_back, accept-is}

when_read_go : {X : Type 0} (refuse : ℕ → ℕ → X) (g : Got) (go : ℕ → ℕ → X) (v e : ℕ) → g ≡ got.Value v e → when_read refuse g go ≡ go v e
unfolding when_read
when_read_go refuse g go v e q = ap (λ r. when_read refuse r go) q

-- ---- line 1: its LF is a byte

counts_end : (s : List ℕ) (p k n e : ℕ) → counts_at s p ≡ Counts k n e → p < e
unfolding counts_at
counts_end s p k n e = when_read-cases Q Bad (between_at s p 1 16) _ refusing λ k' q x. when_read-cases Q Bad (between_at s q 1 32) _ refusing λ n' r y.
    when_read-cases Q Bad (line_end_at s r) _ refusing λ v e' z h.
    let c : e' ≡ e = cc in
    omega (arith, (range_back s p 1 16 k' q x).1, (range_back s q 1 32 n' r y).1, (line-end-next s r v e' z).0)
  where
    Q : LineOne → Type 0
    Q r = r ≡ Counts k n e → p < e

    refusing : (i q : ℕ) → Q (Bad i q)
    refusing i q h = absurd (let z : ◌≡◌ {A = ℕ} 0 1 = cc in omega arith)

line-one-end : (s : List ℕ) (k n e : ℕ) → line_one_at s ≡ Counts k n e → 1 ≤ e
unfolding line_one_at
line-one-end s k n e = when_read-cases Q Bad (first_at s 0) _ refusing λ w p x. cond_cases Q (eqb w (spelled "bitml")) _ _
    (λ k' h. omega (arith, counts_end s p k n e h))
    (λ k' h. refusing 3 0 h)
  where
    Q : LineOne → Type 0
    Q r = r ≡ Counts k n e → 1 ≤ e

    refusing : (i q : ℕ) → Q (Bad i q)
    refusing i q h = absurd (let z : ◌≡◌ {A = ℕ} 0 1 = cc in omega arith)

-- and it is read alike

module _ (s t : List ℕ) (m : ℕ) (l : Like s t m) where
  range_again : (at low high v e : ℕ) → between_at s at low high ≡ got.Value v e → e ≤ m → between_at t at low high ≡ got.Value v e
  unfolding between_at
  range_again at low high v e = when_read-cases (λ r. r ≡ got.Value v e → e ≤ m → between_at t at low high ≡ got.Value v e) got.Bad (number_at s at high) _
      (λ n p r h. absurd (let z : ◌≡◌ {A = ℕ} 0 1 = cc in omega arith))
      (λ v' e' q r i.
      let y : e' ≡ e = cond_cases (λ x. x ≡ got.Value v e → e' ≡ e) (ltb v' low) (got.Bad 4 at) (got.Value v' e')
      (λ h r. absurd (let z : ◌≡◌ {A = ℕ} 0 1 = cc in omega arith)) (λ h r. cc) r in
      when_read_go got.Bad (number_at t at high) _ v' e' ((number_alike s at high v' e' q).1 t m (omega arith) l) ∙ r)

  counts_again : (p k n e : ℕ) → counts_at s p ≡ Counts k n e → e ≤ m + 1 → counts_at t p ≡ Counts k n e
  unfolding counts_at
  counts_again p k n e = when_read-cases Q Bad (between_at s p 1 16) _ refusing λ k' q x. when_read-cases Q Bad (between_at s q 1 32) _ refusing λ n' r y.
      when_read-cases Q Bad (line_end_at s r) _ refusing λ v e' z h i.
      let c : e' ≡ e = cc in
      let f = (range_back s p 1 16 k' q x).1 in
      let g = (range_back s q 1 32 n' r y).1 in
      let j = (line-end-next s r v e' z).0 in
      when_read_go Bad (between_at t p 1 16) _ k' q (range_again p 1 16 k' q x (omega arith)) ∙ when_read_go Bad (between_at t q 1 32) _ n' r (range_again q 1 32 n' r y (omega arith))
      ∙ when_read_go Bad (line_end_at t r) _ v e' ((line_alike s r v e' z).1 t m (omega arith) l) ∙ h
    where
      Q : LineOne → Type 0
      Q r = r ≡ Counts k n e → e ≤ m + 1 → counts_at t p ≡ Counts k n e

      refusing : (i q : ℕ) → Q (Bad i q)
      refusing i q h = absurd (let z : ◌≡◌ {A = ℕ} 0 1 = cc in omega arith)

  line-one_again : (k n e : ℕ) → line_one_at s ≡ Counts k n e → e ≤ m + 1 → line_one_at t ≡ Counts k n e
  unfolding line_one_at
  line-one_again k n e = when_read-cases Q Bad (first_at s 0) _ refusing λ w p x. cond_cases Q (eqb w (spelled "bitml")) _ _
      (λ k' h i.
      let some : w ≡ 0 → ⊥ = λ z. let y = eqb-true w (spelled "bitml") k' in omega arith in
      when_read_go Bad (first_at t 0) _ w p ((first_alike s 0 w p x some).1 t m (omega (arith, counts_end s p k n e h)) l)
      ∙ rw k' (counts_again p k n e h i))
      (λ k' h. refusing 3 0 h)
    where
      Q : LineOne → Type 0
      Q r = r ≡ Counts k n e → e ≤ m + 1 → line_one_at t ≡ Counts k n e

      refusing : (i q : ℕ) → Q (Bad i q)
      refusing i q h = absurd (let z : ◌≡◌ {A = ℕ} 0 1 = cc in omega arith)

-- ---- the limit on bytes

either_same : (b : Bool) (x y : Outcome) → y ≡ x → either b x y ≡ x
unfolding either
either_same true x y e = refl
either_same false x y e = e

limited-same : (t : List ℕ) (a : State) → a.at ≤ 32768 → limited t (next a) ≡ next a
unfolding limited beyond
limited-same t a h = either_same (leb (length t) 32768) (next a) _ (test_yes (leb a.at 32768) (next a) _ (le-leb a.at 32768 h))

-- ---- the sheet: its last byte is an LF

module _ (s t : List ℕ) (at : ℕ) (l : 1 ≤ at → Like s t (at - 1)) where
  sheet_again : (r : LineOne) → line_one_at s ≡ r → (K : ℕ) (E : Entries) → sheet_from s r ≡ accepted K at E → read_sheet t ≡ accepted K at E
  unfolding sheet_from read_sheet accept
  sheet_again (Bad n p) e K E h = absurd (accept-is 0 K at E (limited-short {s = s} {P = λ a. ⊥} refused) h).1.holds
  sheet_again (Counts k n p) e K E h =
      let w = accept-is k K at E (limited-short (a_lines s n (λ t. define_at t (sizes k n)) (a_define s (sizes k n)) (blank p))) h in
      let a = w.0 in
      let x = w.1.holds in
      let end : a.at ≡ at = w.3 in
      let like : Like s t (at - 1) = l (omega (arith, line-one-end s k n p e, x.0)) in
      let fits : a.at ≤ 32768 = w.1.short (omega (arith, like.within)) in
      let fin : accepted k a.at (entries a) ≡ accepted K at E = let i = w.2 in let j = w.4 in cc in
      ap (sheet_from t) (line-one_again s t (at - 1) like k n p e (omega (arith, x.0)))
      ∙ ap (λ o. accept k (limited t o)) (x.1 t (at - 1) (omega arith) like)
      ∙ ap (accept k) (limited-same t a fits)
      ∙ fin

like_on : (s rest : List ℕ) (at : ℕ) → at ≤ length s → 1 ≤ at → Like s (take at s ++ rest) (at - 1)
like_on s rest at h k =
    let n : length (take at s) ≡ at = length-take-le at s h in
    record {
      within = omega arith;
      long = omega (arith, length-append (take at s) rest);
      same = λ i l. let j : i < at = omega arith in get_or-append (take at s) rest 0 i (omega arith) ∙ get_or-take at s i 0 j;
    }

-- The bytes of a sheet are read as that sheet, whatever stands behind them
pub reads_on : (s rest : List ℕ) (K at : ℕ) (E : Entries) → read_sheet s ≡ accepted K at E → at ≤ length s → read_sheet (take at s ++ rest) ≡ accepted K at E
unfolding read_sheet
reads_on s rest K at E h k = sheet_again s (take at s ++ rest) at (like_on s rest at k) (line_one_at s) refl K E h

-- or nothing
pub reads_back : (s : List ℕ) (K at : ℕ) (E : Entries) → read_sheet s ≡ accepted K at E → at ≤ length s → read_sheet (take at s) ≡ accepted K at E
reads_back s K at E h k = subst (λ t. read_sheet t ≡ accepted K at E) (append-nil (take at s)) (reads_on s [] K at E h k)
