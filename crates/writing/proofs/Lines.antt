-- A `def` line that was read is written as it stood. Assumes nothing.
use Prim.Native.Nat.{ℕ, zero, suc, ◌+◌, ◌-◌}
use Prim.Native.Char.{code}
use mathlib.Core.Path.{◌≡◌, refl, sym, ap, ◌∙◌, subst}
use mathlib.Core.List.{List, [], ◌∷◌}
use native.Mathlib.Omega.{arith}
use lib.ListN.{length, get_or, take, drop}
use lib.Seq.{drop-cons}
use lib.Dec.{eqb, ltb}
use borrow.Author.Tests.{eqb-true, ltb-true}
use Rattle.bitml.specs.Lists.{◌&◌}
use Rattle.fields.specs.Field.{lf, spelled, packed, packed_of, field_len, text_at, end_at, word_from, first_at, line_end_at, any_number}
use Rattle.fields.specs.Field.{Value, Bad}
use Rattle.fields.proofs.Words.{Bytes, word-own, bytes-text}
use Rattle.fields.proofs.Ranges.{cond_cases, first-end, line-end-next}
use Rattle.tables.specs.Entries.{DefEntry}
use Rattle.tables.specs.SheetOf.{def_entry_at}
use Rattle.tables.specs.State.{State, with_listed, with_def, def_entry}
use Rattle.steps.specs.Steps.{to_place, times}
use Rattle.steps.proofs.Ends.{Ends, good, refused, ends-map, ends-field, ends_test, ends_then}
use Rattle.contracts.specs.declared.Limits.{Limits}
use Rattle.lines.specs.Definition.{within, deposits_at, owner_at, root_at, owned_at, define_at}
use Rattle.texts.specs.Text.{letters, field}
use Rattle.writing.specs.Written.{say, ◌then◌, repeat, def_done, listed_text, contract_text, def_text}
use Rattle.writing.proofs.Fields.{between}
use Rattle.writing.proofs.Says.{place_of, starts_trans, starts_at, Says, says_then, says_by, says_text, says_nothing, says_number, says_def}
use Rattle.writing.proofs.Conditions.{Spells, spells}
use Rattle.writing.proofs.Contracts.{times_says, listed_says, contract_says}

-- ---- the first word of a line, and its end

text-between : (s : List ℕ) (at e : ℕ) → at + field_len (drop at s) ≡ e → text_at s at ≡ between s at e
unfolding text_at between
text-between s at e z = let y : e - at ≡ field_len (drop at s) = omega arith in rw y

pub first_back : (s : List ℕ) → Bytes s → (at w e : ℕ) (u : List ℕ) → Spells u w → first_at s at ≡ Value w e → u ≡ between s at e
unfolding first_at word_from end_at
first_back s hs at w e u sp =
    cond_cases (λ r. r ≡ Value w e → u ≡ between s at e) (ltb at (length s)) (word_from s at) (Bad 2 at)
    (λ h r.
    let p : packed_of (text_at s at) ≡ w = cc in
    let z : at + field_len (drop at s) ≡ e = cc in
    word-own u (text_at s at) sp.bytes (bytes-text s at hs) (λ k. sp.some (sym sp.number ∙ k)) (sp.number ∙ sym p) ∙ text-between s at e z)
    (λ h r. absurd (let z : ◌≡◌ {A = ℕ} 0 1 = cc in omega arith))

pub line-back : (s : List ℕ) (at v e : ℕ) → line_end_at s at ≡ Value v e → (code "\n" ∷ []) ≡ between s at e
unfolding line_end_at between
line-back s at v e =
    cond_cases (λ r. r ≡ Value v e → (code "\n" ∷ []) ≡ take (e - at) (drop at s)) (ltb at (length s)) _ (Bad 2 at)
    (λ h. cond_cases (λ r. r ≡ Value v e → (code "\n" ∷ []) ≡ take (e - at) (drop at s)) (eqb (get_or s at 0) lf) (Value 0 (at + 1)) (Bad 9 at)
    (λ q r.
    let z : at + 1 ≡ e = cc in
    let y : e - at ≡ 1 = omega arith in
    let d : drop at s ≡ lf ∷ drop (suc at) s = drop-cons s at 0 (ltb-true _ _ h) ∙ ap (λ x. x ∷ drop (suc at) s) (eqb-true _ _ q) in
    rw (y, d))
    (λ q r. absurd (let z : ◌≡◌ {A = ℕ} 0 1 = cc in omega arith)))
    (λ h r. absurd (let z : ◌≡◌ {A = ℕ} 0 1 = cc in omega arith))

module _ (s : List ℕ) (hs : Bytes s) where
  deposits_says : (sum n : ℕ) (a : State) → Ends (Says s 0 (λ E. repeat n (listed_text E)) a) (deposits_at s sum n a)
  unfolding deposits_at repeat
  deposits_says sum zero a = good (says_nothing s a)
  deposits_says sum (suc n) a =
      ends-field a _ _ λ v e q. ends_test _ _ _ (λ t. refused) λ t.
      ends-map (deposits_says (sum + v) n (with_listed v (to_place a e))) λ b x.
      says_then s listed_text (λ E. repeat n (listed_text E)) (listed_says s hs v e 2100000000000000 a q) x

  owner_says : (people : ℕ) (a : State) → Ends (Says s 0 listed_text a) (owner_at s people a)
  unfolding owner_at
  owner_says people a = ends-field a _ _ λ v e q. ends_test _ _ _ (λ t. good (listed_says s hs v e any_number a q)) (λ t. refused)

  pub define_says : (z : Limits) (a : State) → Ends (Says s 1 (λ E. def_text E z.people) a) (define_at s z a)
  unfolding define_at owned_at root_at def_text packed_of packed ◌&◌
  define_says z a =
      ends-field a _ _ λ w e q. ends_test _ _ _ (λ t.
      ends_then _ _ (deposits_says 0 z.people (to_place a e)) λ a₁ x.
      ends-field a₁ _ _ λ n e' q'.
      ends_then _ _ (times_says s hs listed_text (owner_at s z.people) (owner_says z.people) n (to_place a₁ e')) λ a₂ y.
      let en : DefEntry = def_entry (length a₂.nodes) (length a.listed) n in
      ends_then _ _ (contract_says s hs (within z n (length a₂.defs)) 32 1024 0 (with_def en a₂)) λ a₃ c.
      ends-field a₃ _ _ λ v e'' q''.
      good (says_by s
      (λ E. say (letters "def") then repeat z.people (listed_text E) then say (field n) then repeat n (listed_text E) then def_done then contract_text E 32 then say (code "\n" ∷ []))
      (λ E. def_text E z.people)
      (says_then s (λ E. say (letters "def")) (λ E. repeat z.people (listed_text E) then say (field n) then repeat n (listed_text E) then def_done then contract_text E 32 then say (code "\n" ∷ []))
      (says_text s (letters "def") a e (omega (arith, (first-end s a.at w e q).0)) (first_back s hs a.at w e (letters "def") (spells (letters "def") (spelled "def") w refl refl refl t) q))
      (says_then s (λ E. repeat z.people (listed_text E)) (λ E. say (field n) then repeat n (listed_text E) then def_done then contract_text E 32 then say (code "\n" ∷ [])) x
      (says_then s (λ E. say (field n)) (λ E. repeat n (listed_text E) then def_done then contract_text E 32 then say (code "\n" ∷ [])) (says_number s a₁ 8 n e' q')
      (says_then s (λ E. repeat n (listed_text E)) (λ E. def_done then contract_text E 32 then say (code "\n" ∷ [])) y
      (says_then s (λ E. def_done) (λ E. contract_text E 32 then say (code "\n" ∷ [])) (says_def s en a₂)
      (says_then s (λ E. contract_text E 32) (λ E. say (code "\n" ∷ [])) c.text
      (says_text s (code "\n" ∷ []) a₃ e'' (omega (arith, (line-end-next s a₃.at v e'' q'').0)) (line-back s a₃.at v e'' q''))))))))
      (λ E k.
      let i : length a₂.defs ≡ length a.defs = omega (arith, x.more, y.more) in
      let found : def_entry_at E (length a.defs) ≡ en = subst (λ j. def_entry_at E j ≡ en) i (starts_at a₂.defs en _ (starts_trans c.text.grown.defs k.defs)) in
      ap (λ j. (say (letters "def") then repeat z.people (listed_text E) then say (field j) then repeat j (listed_text E) then def_done then contract_text E 32 then say (code "\n" ∷ [])) (place_of a))
      (ap (λ d. d.secrets) found)))) (λ t. refused)

  pub lines-say : (z : Limits) (n : ℕ) (a : State) → Ends (Says s n (λ E. repeat n (def_text E z.people)) a) (times n (define_at s z) a)
  unfolding times repeat
  lines-say z zero a = good (says_nothing s a)
  lines-say z (suc n) a =
      ends_then _ _ (define_says z a) λ b x. ends-map (lines-say z n b) λ c y.
      let k : 1 + n ≡ suc n = omega arith in
      subst (λ m. Says s m (λ E. def_text E z.people then repeat n (def_text E z.people)) a c) k
      (says_then s (λ E. def_text E z.people) (λ E. repeat n (def_text E z.people)) x y)
