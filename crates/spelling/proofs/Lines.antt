-- `def` lines that were read are spelled as they stood. Assumes nothing.
use Prim.Native.Nat.{ℕ, zero, suc, ◌+◌, ◌≤◌, ◌<◌}
use Prim.Native.Char.{code}
use mathlib.Core.Path.{◌≡◌, refl, sym, ap, ap₂, ◌∙◌, subst}
use mathlib.Core.List.{List, [], ◌∷◌, ◌++◌, map, append-nil}
use native.Mathlib.Omega.{arith}
use lib.ListN.{length, length-append}
use Rattle.bitml.specs.Lists.{◌&◌, gather, All, nil, cons, up_from, below}
use Rattle.bitml.specs.Sheet.{Sheet, Definition}
use Rattle.fields.specs.Field.{spelled, packed, packed_of}
use Rattle.fields.proofs.Words.{Bytes}
use Rattle.fields.proofs.Ranges.{first-end, line-end-next}
use Rattle.tables.specs.Entries.{DefEntry, Entries}
use Rattle.tables.specs.SheetOf.{def_entry_at, listed_at, deposit_of, owner_of, def_of, sheet_of}
use Rattle.tables.specs.State.{State, entries, with_def, def_entry}
use Rattle.steps.specs.Steps.{Outcome, to_place, times}
use Rattle.steps.proofs.Ends.{Ends, good, refused, ends-map, ends-field, ends_test, ends_then, ends-both}
use Rattle.contracts.specs.declared.Limits.{Limits}
use Rattle.lines.specs.Definition.{within, root_at, owned_at, define_at}
use Rattle.reading.specs.Promises.{Promises}
use Rattle.texts.specs.Text.{letters, field, fields}
use Rattle.writing.proofs.Says.{starts_trans, starts_at, Grown, grown_trans, says_def}
use Rattle.writing.proofs.Conditions.{spells}
use Rattle.writing.proofs.Lines.{first_back, line-back, define_says}
use Rattle.spelling.specs.Spelled.{spell_contract, spell_definition, appearing}
use Rattle.spelling.specs.Legible.{Nests}
use Rattle.spelling.proofs.Covering.{Covers, covers_then, covers_by, covers-nothing, covers-on, covers-text, covers-number}
use Rattle.spelling.proofs.Listed.{Listed, deposits-listed, owners-listed, listed_grown, listed-covers, listed-are}
use Rattle.spelling.proofs.Contracts.{contract-read}

definition-is : (S : Sheet) (x : Definition) (ds os : List ℕ) (n root : ℕ) → x.deposits ≡ ds → x.owners ≡ os → length os ≡ n → x.root ≡ root
    → spell_definition S x ≡ letters "def" ++ fields ds ++ field n ++ fields os ++ spell_contract S 32 root ++ (code "\n" ∷ [])
unfolding spell_definition
definition-is S x ds os n root d o l r = rw (d, o, l, r)

module _ (s : List ℕ) (hs : Bytes s) (z : Limits) where
  abbrev K : ℕ
  K = z.people

  -- the next definition
  abbrev text_of : ℕ → Entries → List ℕ
  text_of i E = spell_definition (sheet_of K E) (def_of K E i)

  abbrev nodes_of : ℕ → Entries → List ℕ
  nodes_of i E = appearing (sheet_of K E) 32 (def_of K E i).root

  -- within its depth
  abbrev Deep : ℕ → Entries → Type 0
  Deep i E = Nests (sheet_of K E) 32 (def_of K E i).root

  record Line (a b : State) : Type 0 where
    covers : Covers s K (text_of (length a.defs)) (nodes_of (length a.defs)) a b
    deep : (E : Entries) → Grown (entries b) E → Promises K E → Deep (length a.defs) E

  pub record Lines (n : ℕ) (a b : State) : Type 0 where
    pub covers : Covers s K (λ E. gather (λ i. text_of i E) (up_from (length a.defs) n)) (λ E. gather (λ i. nodes_of i E) (up_from (length a.defs) n)) a b
    pub deep : (E : Entries) → Grown (entries b) E → Promises K E → All (λ i. Deep i E) (up_from (length a.defs) n)

  define-read : (a : State) → Ends (Line a) (define_at s z a)
  unfolding define_at owned_at root_at packed_of packed ◌&◌ def_of
  define-read a =
      ends-field a _ _ λ w e q. ends_test _ _ _ (λ t.
      ends_then _ _ (deposits-listed s 0 K (to_place a e)) λ a₁ x.
      ends-field a₁ _ _ λ n e' q'.
      ends_then _ _ (owners-listed s K n (to_place a₁ e')) λ a₂ y.
      let en : DefEntry = def_entry (length a₂.nodes) (length a.listed) n in
      ends_then _ _ (contract-read s hs K (within z n (length a₂.defs)) 32 1024 0 (with_def en a₂)) λ a₃ c.
      ends-field a₃ _ _ λ v e'' q''.
      let same : a₂.defs ≡ a.defs = ap (λ (b : State). b.defs) y.same ∙ ap (λ (b : State). b.defs) x.same in
      let found : (E : Entries) → Grown (entries a₃) E → def_entry_at E (length a.defs) ≡ en
      = λ E k. subst (λ ds. def_entry_at E (length ds) ≡ en) same (starts_at a₂.defs en _ (starts_trans c.covers.grown.defs k.defs)) in
      good (record {
        covers = covers_by s K
            (covers_then s K (covers_then s K (covers-on s K (covers_then s K (covers_then s K (covers_then s K
            (covers-text s K (letters "def") a e (omega (arith, (first-end s a.at w e q).0))
            (first_back s hs a.at w e (letters "def") (spells (letters "def") (spelled "def") w refl refl refl t) q))
            (listed-covers s K x)) (covers-number s K a₁ 8 n e' q')) (listed-covers s K y)) (with_def en a₂) (says_def s en a₂).grown refl refl) c.covers)
            (covers-text s K (code "\n" ∷ []) a₃ e'' (omega (arith, (line-end-next s a₃.at v e'' q'').0)) (line-back s a₃.at v e'' q'')))
            (λ E k o.
            let up : Grown (entries a₂) E = grown_trans (says_def s en a₂).grown (grown_trans c.covers.grown k) in
            let first : (def_entry_at E (length a.defs)).first ≡ length a.listed = ap (λ d. d.first) (found E k) in
            let deposits : map (deposit_of E (length a.defs)) (below K) ≡ x.values
            = listed-are x E (grown_trans (listed_grown y) up) (λ m. (def_entry_at E (length a.defs)).first + m) 0 (λ i m r. omega (arith, first, r)) in
            let behind : length a₁.listed ≡ length a.listed + K
            = ap (λ (b : State). length b.listed) x.same ∙ length-append a.listed x.values ∙ ap (λ i. length a.listed + i) x.count in
            let owners : map (owner_of K E (length a.defs)) (below (def_entry_at E (length a.defs)).secrets) ≡ y.values
            = ap (λ i. map (owner_of K E (length a.defs)) (below i)) (ap (λ d. d.secrets) (found E k))
            ∙ listed-are y E up (λ m. (def_entry_at E (length a.defs)).first + K + m) 0 (λ i m r. omega (arith, first, behind, r)) in
            let root : (def_entry_at E (length a.defs)).root ≡ length a₂.nodes = ap (λ d. d.root) (found E k) in (
              definition-is (sheet_of K E) (def_of K E (length a.defs)) x.values y.values n (length a₂.nodes) deposits owners y.count root,
              ap (λ i. appearing (sheet_of K E) 32 i) root ∙ sym (append-nil (appearing (sheet_of K E) 32 (length a₂.nodes))),
            ));
        deep = λ E k o. subst (Nests (sheet_of K E) 32) (sym (ap (λ d. d.root) (found E k))) (c.nests E k o);
      })) (λ t. refused)

  -- n of them
  pub lines-read : (n : ℕ) (a : State) → Ends (Lines n a) (times n (define_at s z) a)
  unfolding times
  lines-read zero a = good (record { covers = covers-nothing s K a; deep = λ E h o. nil })
  lines-read (suc n) a =
      ends_then _ _ (ends-both (define-read a) (define_says s hs z a)) λ b x.
      let next : length b.defs ≡ suc (length a.defs) = let m = x.1.more in omega (arith, m) in
      ends-map (lines-read n b) λ c y.
      record {
        covers = covers_then s K x.0.covers
            (subst (λ i. Covers s K (λ E. gather (λ j. text_of j E) (up_from i n)) (λ E. gather (λ j. nodes_of j E) (up_from i n)) b c) next y.covers);
        deep = λ E h o. cons (x.0.deep E (grown_trans y.covers.grown h) o) (subst (λ i. All (λ j. Deep j E) (up_from i n)) next (y.deep E h o));
      }
