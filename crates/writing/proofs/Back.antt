-- Writing what was read gives those same bytes. Assumes nothing.
use Prim.Native.Nat.{ℕ, ◌-◌, ◌≤◌}
use Prim.Native.Char.{code}
use mathlib.Core.Path.{◌≡◌, refl, sym, ap, ap₂, ◌∙◌, subst}
use mathlib.Core.List.{List, [], ◌∷◌, ◌++◌, append_assoc, append-nil}
use native.Mathlib.Omega.{arith}
use lib.ListN.{length, take}
use lib.Dec.{eqb, ltb}
use Rattle.bitml.specs.Lists.{◌&◌}
use Rattle.fields.specs.Field.{spelled, packed, packed_of, number_at, between_at, first_at, line_end_at}
use Rattle.fields.specs.Field as got
use Rattle.fields.proofs.Words.{Bytes}
use Rattle.fields.proofs.Ranges.{when_read-cases, cond_cases, line-end-next}
use Rattle.fields.proofs.Laws.{number-end}
use Rattle.tables.specs.Entries.{Entries}
use Rattle.tables.specs.State.{State, entries}
use Rattle.steps.specs.Steps.{Outcome}
use Rattle.steps.proofs.Ends.{Ends, good, refused}
use Rattle.lines.specs.LineOne.{LineOne}
use Rattle.lines.specs.LineOne.{Counts, Bad}
use Rattle.lines.specs.LineOne.{counts_at, line_one_at}
use Rattle.lines.specs.Definition.{blank}
use Rattle.lines.specs.Sheet.{accepted, accept, sizes, sheet_from, read_sheet}
use Rattle.ranges.proofs.Accepted.{limited-short}
use Rattle.texts.specs.Text.{letters, field, fields, line}
use Rattle.writing.specs.Written.{repeat, def_text, sheet_text}
use Rattle.writing.proofs.Fields.{between, between_join, field_back}
use Rattle.writing.proofs.Says.{Says, place_of, grown_same}
use Rattle.writing.proofs.Conditions.{spells}
use Rattle.writing.proofs.Lines.{first_back, line-back, lines-say}

-- ---- line 1

pub range_back : (s : List ℕ) (at low high v e : ℕ) → between_at s at low high ≡ got.Value v e → (field v ≡ between s at e) × (at ≤ e)
unfolding between_at
range_back s at low high v e = when_read-cases (λ r. r ≡ got.Value v e → (field v ≡ between s at e) × (at ≤ e)) got.Bad (number_at s at high) _
    (λ n p r. absurd (let z : ◌≡◌ {A = ℕ} 0 1 = cc in omega arith))
    (λ v' e' q. cond_cases (λ r. r ≡ got.Value v e → (field v ≡ between s at e) × (at ≤ e)) (ltb v' low) (got.Bad 4 at) (got.Value v' e')
    (λ h r. absurd (let z : ◌≡◌ {A = ℕ} 0 1 = cc in omega arith))
    (λ h r.
    let x : v' ≡ v = cc in
    let y : e' ≡ e = cc in
    (subst (λ i. field i ≡ between s at e) x (subst (λ j. field v' ≡ between s at j) y (field_back s at high v' e' q)), omega (arith, (number-end s at high v' e' q).0))))

pub accept-is : {P : State → Type 0} {w : Outcome} (k K at : ℕ) (E : Entries) → Ends P w → accept k w ≡ accepted K at E
    → (a : State) × P a × (k ≡ K) × (a.at ≡ at) × (entries a ≡ E)
unfolding accept
accept-is k K at E (good {a = a} h) e = (a, h, cc, cc, cc)
accept-is k K at E refused e = absurd (let z : ◌≡◌ {A = ℕ} 0 1 = cc in omega arith)

module _ (s : List ℕ) (hs : Bytes s) where
  counts-back : (p k n e : ℕ) → counts_at s p ≡ Counts k n e → (field k ++ field n ++ (code "\n" ∷ []) ≡ between s p e) × (p ≤ e)
  unfolding counts_at
  counts-back p k n e = when_read-cases Q Bad (between_at s p 1 16) _ refusing λ k' q x. when_read-cases Q Bad (between_at s q 1 32) _ refusing λ n' r y.
      when_read-cases Q Bad (line_end_at s r) _ refusing λ v e' z h.
      let a : k' ≡ k = cc in
      let b : n' ≡ n = cc in
      let c : e' ≡ e = cc in
      let f = range_back s p 1 16 k' q x in
      let g = range_back s q 1 32 n' r y in
      let i : r ≤ e' = omega (arith, (line-end-next s r v e' z).0) in
      let all : field k' ++ field n' ++ (code "\n" ∷ []) ≡ between s p e' =
      ap₂ (λ t u. t ++ u ++ (code "\n" ∷ [])) f.0 g.0 ∙ ap₂ ◌++◌ (between_join s p q r f.1 g.1) (line-back s r v e' z)
      ∙ between_join s p r e' (omega (arith, f.1, g.1)) i in (
        subst (λ e. field k ++ field n ++ (code "\n" ∷ []) ≡ between s p e) c
            (subst (λ n. field k ++ field n ++ (code "\n" ∷ []) ≡ between s p e') b
            (subst (λ k. field k ++ field n' ++ (code "\n" ∷ []) ≡ between s p e') a all)),
        omega (arith, f.1, g.1),
      )
    where
      Q : LineOne → Type 0
      Q r = r ≡ Counts k n e → (field k ++ field n ++ (code "\n" ∷ []) ≡ between s p e) × (p ≤ e)

      refusing : (m q : ℕ) → Q (Bad m q)
      refusing m q h = absurd (let z : ◌≡◌ {A = ℕ} 0 1 = cc in omega arith)

  pub line-one-back : (k n e : ℕ) → line_one_at s ≡ Counts k n e → letters "bitml" ++ field k ++ field n ++ (code "\n" ∷ []) ≡ between s 0 e
  unfolding line_one_at packed_of packed ◌&◌
  line-one-back k n e = when_read-cases Q Bad (first_at s 0) _ refusing λ w p x. cond_cases Q (eqb w (spelled "bitml")) _ _
      (λ t h.
      let c = counts-back p k n e h in
      let b : letters "bitml" ≡ between s 0 p = first_back s hs 0 w p (letters "bitml") (spells (letters "bitml") (spelled "bitml") w refl refl refl t) x in
      ap₂ ◌++◌ b c.0 ∙ between_join s 0 p e (omega arith) c.1)
      (λ t h. refusing 3 0 h)
    where
      Q : LineOne → Type 0
      Q r = r ≡ Counts k n e → letters "bitml" ++ field k ++ field n ++ (code "\n" ∷ []) ≡ between s 0 e

      refusing : (m q : ℕ) → Q (Bad m q)
      refusing m q h = absurd (let z : ◌≡◌ {A = ℕ} 0 1 = cc in omega arith)

  -- ---- the whole sheet

  pub from_start : (at : ℕ) → between s 0 at ≡ take at s
  unfolding between
  from_start at = ap (λ n. take n s) (let z : at - 0 ≡ at = omega arith in z)

  pub line-one-is : (k n : ℕ) → line (letters "bitml") (k ∷ n ∷ []) ≡ letters "bitml" ++ field k ++ field n ++ (code "\n" ∷ [])
  unfolding line fields
  line-one-is k n =
      ap (λ t. letters "bitml" ++ (field k ++ t) ++ (code "\n" ∷ [])) (append-nil (field n))
      ∙ ap (λ t. t ++ (code "\n" ∷ [])) (sym (append_assoc (letters "bitml") (field k) (field n)))

  lines-back : (k n p : ℕ) (a : State) → line_one_at s ≡ Counts k n p → Says s n (λ E. repeat n (def_text E k)) (blank p) a → sheet_text k (entries a) ≡ take a.at s
  unfolding sheet_text
  lines-back k n p a e x =
      let i : length a.defs ≡ n = omega (arith, x.more) in
      ap (λ j. line (letters "bitml") (k ∷ j ∷ []) ++ (repeat j (def_text (entries a) k) (place_of (blank p))).0) i
      ∙ ap₂ ◌++◌ (line-one-is k n ∙ line-one-back k n p e) (ap (λ y. y.0) (x.says (entries a) (grown_same (entries a))))
      ∙ between_join s 0 p a.at (omega arith) x.on ∙ from_start a.at

  sheet-back : (l : LineOne) → line_one_at s ≡ l → (K at : ℕ) (E : Entries) → sheet_from s l ≡ accepted K at E → sheet_text K E ≡ take at s
  unfolding sheet_from
  sheet-back (Bad n p) e K at E h = absurd (accept-is 0 K at E (limited-short {s = s} {P = λ a. ⊥} refused) h).1.holds
  sheet-back (Counts k n p) e K at E h =
      let w = accept-is k K at E (limited-short {s = s} (lines-say s hs (sizes k n) n (blank p))) h in
      subst (λ i. sheet_text K E ≡ take i s) w.3 (subst (λ F. sheet_text K F ≡ take w.0.at s) w.4
      (subst (λ i. sheet_text i (entries w.0) ≡ take w.0.at s) w.2 (lines-back k n p w.0 e w.1.holds)))

pub writes_back : (s : List ℕ) → Bytes s → (K at : ℕ) (E : Entries) → read_sheet s ≡ accepted K at E → sheet_text K E ≡ take at s
unfolding read_sheet
writes_back s hs K at E h = sheet-back s hs (line_one_at s) refl K at E h
