-- Every accepted text is that of the sheet that it is read as. Assumes nothing.
use Prim.Native.Nat.{ℕ, ◌-◌}
use mathlib.Core.Path.{◌≡◌, refl, sym, ap, ap₂, ◌∙◌, subst}
use mathlib.Core.List.{List, [], ◌∷◌, ◌++◌, map}
use native.Mathlib.Omega.{arith}
use lib.ListN.{length, take}
use Rattle.bitml.specs.Lists.{gather, All, up_from, below}
use Rattle.bitml.proofs.Lists.{gather-map}
use Rattle.fields.proofs.Words.{Bytes}
use Rattle.tables.specs.Entries.{Entries}
use Rattle.tables.specs.SheetOf.{def_of, sheet_of}
use Rattle.tables.specs.State.{State, entries}
use Rattle.tables.proofs.SheetOf.{participants-are, defs-are}
use Rattle.steps.proofs.Ends.{refused, ends-both}
use Rattle.lines.specs.LineOne.{LineOne}
use Rattle.lines.specs.LineOne.{Counts, Bad}
use Rattle.lines.specs.LineOne.{line_one_at}
use Rattle.lines.specs.Definition.{blank}
use Rattle.lines.specs.Sheet.{accepted, sizes, sheet_from, read_sheet}
use Rattle.reading.specs.Promises.{Promises}
use Rattle.ranges.proofs.Accepted.{limited-short}
use Rattle.promises.specs.Texts.{Promised}
use Rattle.promises.proofs.Promised.{promised}
use Rattle.texts.specs.Text.{letters, line}
use Rattle.writing.proofs.Fields.{between, between_join}
use Rattle.writing.proofs.Says.{Says, grown_same}
use Rattle.writing.proofs.Lines.{lines-say}
use Rattle.writing.proofs.Back.{accept-is, line-one-is, line-one-back, from_start}
use Rattle.spelling.specs.Spelled.{spell_definition, spell_sheet, appearing, all_appearing}
use Rattle.spelling.specs.Legible.{Nests, Legible}
use Rattle.spelling.specs.Spelling.{OfSpelling}
use Rattle.spelling.proofs.Covering.{span}
use Rattle.spelling.proofs.Lines.{Lines, lines-read}
use Rattle.spelling.proofs.Reading.{read-legible}
use Rattle.spelling.proofs.Unique.{one-sheet}

-- a sheet's text is the one that was read, and its nodes appear in their order
record Spelled (s : List ℕ) (K at : ℕ) (E : Entries) : Type 0 where
  text : spell_sheet (sheet_of K E) ≡ take at s
  nodes : all_appearing (sheet_of K E) ≡ below (length E.nodes)
  deep : All (λ i. Nests (sheet_of K E) 32 (def_of K E i).root) (below (length E.defs))

module _ (K : ℕ) (E : Entries) where
  over-definitions : {A : Type 0} (f : _ → List A) → gather f (sheet_of K E).defs ≡ gather (λ i. f (def_of K E i)) (below (length E.defs))
  unfolding sheet_of
  over-definitions f = gather-map f (def_of K E) (below (length E.defs))

span_all : (n : ℕ) → span 0 n ≡ below n
unfolding span
span_all n = ap (λ i. up_from 0 i) (let z : n - 0 ≡ n = omega arith in z)

module _ (s : List ℕ) (hs : Bytes s) where
  lines-spelled : (k n p : ℕ) (a : State) → line_one_at s ≡ Counts k n p → Promises k (entries a) → length a.defs ≡ n → Lines s hs (sizes k n) n (blank p) a
      → Spelled s k a.at (entries a)
  unfolding spell_sheet all_appearing
  lines-spelled k n p a e o len x =
      let E : Entries = entries a in
      let S = sheet_of k E in
      record {
        text = ap₂ (λ i j. line (letters "bitml") (i ∷ j ∷ []) ++ gather (spell_definition S) S.defs) (participants-are k E) (defs-are k E ∙ len)
            ∙ ap₂ (λ t u. t ++ u) (line-one-is s hs k n ∙ line-one-back s hs k n p e)
            (over-definitions k E (spell_definition S) ∙ ap (λ i. gather (λ j. spell_definition S (def_of k E j)) (below i)) len ∙ x.covers.text E (grown_same E) o)
            ∙ between_join s 0 p a.at (omega arith) x.covers.on ∙ from_start s hs a.at;
        nodes = over-definitions k E (λ d. appearing S 32 d.root) ∙ ap (λ i. gather (λ j. appearing S 32 (def_of k E j).root) (below i)) len
            ∙ x.covers.nodes E (grown_same E) o ∙ span_all (length a.nodes);
        deep = subst (λ i. All (λ j. Nests S 32 (def_of k E j).root) (below i)) (sym len) (x.deep E (grown_same E) o);
      }

  sheet-spelled : (l : LineOne) → line_one_at s ≡ l → (K at : ℕ) (E : Entries) → sheet_from s l ≡ accepted K at E → Promises K E → Spelled s K at E
  unfolding sheet_from
  sheet-spelled (Bad n p) e K at E h o = absurd (accept-is 0 K at E (limited-short {s = s} {P = λ a. ⊥} refused) h).1.holds
  sheet-spelled (Counts k n p) e K at E h o =
      let w = accept-is k K at E (limited-short {s = s} (ends-both (lines-read s hs (sizes k n) n (blank p)) (lines-say s hs (sizes k n) n (blank p)))) h in
      let a = w.0 in
      let x = w.1.holds in
      let o' : Promises k (entries a) = subst (λ i. Promises i (entries a)) (sym w.2) (subst (Promises K) (sym w.4) o) in
      let len : length a.defs ≡ n = let m = x.1.more in omega (arith, m) in
      subst (λ i. Spelled s K i E) w.3 (subst (Spelled s K a.at) w.4 (subst (λ i. Spelled s i a.at (entries a)) w.2 (lines-spelled k n p a e o' len x.0)))

read-spelled : (s : List ℕ) → Bytes s → (K at : ℕ) (E : Entries) → read_sheet s ≡ accepted K at E → Spelled s K at E
unfolding read_sheet Promised
read-spelled s hs K at E h = sheet-spelled s hs (line_one_at s) refl K at E h (promised s K at E h)

sheet-legible : (s : List ℕ) → Bytes s → (K at : ℕ) (E : Entries) → read_sheet s ≡ accepted K at E → Legible (sheet_of K E)
unfolding Promised
sheet-legible s hs K at E h = let w = read-spelled s hs K at E h in read-legible K E (promised s K at E h) w.nodes w.deep

pub of_spelling : OfSpelling
of_spelling =
    record {
      spells = λ s hs K at E h. sym (read-spelled s hs K at E h).text;
      legible = sheet-legible;
      one-sheet = one-sheet;
      only = λ s hs K at E h S ok e. one-sheet S (sheet_of K E) ok (sheet-legible s hs K at E h) (sym e ∙ sym (read-spelled s hs K at E h).text);
    }
