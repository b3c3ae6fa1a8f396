-- A last part that was read is spelled as it stood. Assumes nothing.
use Prim.Native.Nat.{ℕ, zero, suc, ◌+◌, ◌-◌, ◌≤◌, ◌<◌}
use Prim.Native.Char.{code}
use mathlib.Core.Path.{◌≡◌, refl, sym, ap, ap₂, ◌∙◌, subst}
use mathlib.Core.Bool.{Bool, true, false, cond}
use mathlib.Core.Option.{Option, none}
use mathlib.Core.Option.{some as the}
use mathlib.Core.List.{List, [], ◌∷◌, ◌++◌, append-nil, append_assoc}
use native.Mathlib.Omega.{arith}
use lib.ListN.{length, get_or}
use lib.Dec.{ltb, eqb}
use borrow.Author.Tests.{eqb-true, ltb-true, ltb-false}
use Rattle.bitml.specs.Lists.{◌&◌, gather}
use Rattle.bitml.specs.Rows.{Row}
use Rattle.bitml.specs.Ledger.{wait, sign, tell, fire, renew}
use Rattle.bitml.proofs.Lists.{gather_append}
use Rattle.fields.specs.Field.{comma, spelled, packed, packed_of, when_read, any_number, number_at, below_at, between_at, word_at, first_at, line_end_at}
use Rattle.fields.specs.Field.{Got}
use Rattle.fields.specs.Field.{Value, Bad}
use Rattle.fields.proofs.Laws.{number-end, word_end}
use Rattle.fields.proofs.Words.{Bytes}
use Rattle.fields.proofs.Ranges.{when_read-cases, cond_cases, never, first-end, line-end-next}
use Rattle.buffer.specs.Buffer.{row}
use Rattle.requests.specs.Commitment.{Commitment}
use Rattle.requests.specs.Commitment as commitment
use Rattle.requests.specs.LastPart.{Part}
use Rattle.requests.specs.LastPart as part
use Rattle.requests.specs.RowLine.{RowLine}
use Rattle.requests.specs.RowLine as rowline
use Rattle.requests.specs.Part.{most_value, value_at, past_of, past_value_at, past_values_at, participant_at, last_participant_at, make_at, make_all_at, why_at, check_at, play_at, last_part_at}
use Rattle.requests.specs.Rows.{most_rank, Rows, rows_with, row_numbers_at, row_at, no_room_at, with_line, rows_from, rows_at}
use Rattle.events.specs.Event.{Event}
use Rattle.events.specs.Event as event
use Rattle.events.specs.Pair.{Pair}
use Rattle.events.specs.Pair as pair
use Rattle.events.specs.Lines.{Lines}
use Rattle.events.specs.Lines as lines
use Rattle.events.specs.Events.{most_wait, most_field, most_values, pair_at, after_pair, last_pair_at, wait_at, sign_at, tell_at, fire_at, values_from, values_at, renew_at, event_at, next_of, events_from, events_at}
use Rattle.events.proofs.Sound.{pair_cases, values-sound, event_ahead}
use Rattle.ledger.specs.Values.{value_of, behind, values_of}
use Rattle.plays.specs.Events.{event_of, events_up_to, events_of}
use Rattle.texts.specs.Text.{letters, field, fields, line}
use Rattle.writing.specs.Written.{word}
use Rattle.writing.proofs.Fields.{between, between_join, field_back, word_back}
use Rattle.writing.proofs.Says.{between_none}
use Rattle.writing.proofs.Conditions.{Spells, spells}
use Rattle.writing.proofs.Lines.{first_back, line-back}
use Rattle.writing.proofs.Back.{range_back}
use Rattle.spelling.specs.Requests.{spell_value, spell_event, spell_row}

-- from a to b the request has the bytes t
pub record Stretch (s : List ℕ) (a : ℕ) (t : List ℕ) (b : ℕ) : Type 0 where
  pub on : a ≤ b
  pub text : t ≡ between s a b

-- a line's end
abbrev ending : List ℕ
ending = code "\n" ∷ []

module _ (s : List ℕ) where
  pub stretch_then : {a b c : ℕ} {t u : List ℕ} → Stretch s a t b → Stretch s b u c → Stretch s a (t ++ u) c
  stretch_then {a} {b} {c} x y = record { on = omega (arith, x.on, y.on); text = ap₂ (λ p q. p ++ q) x.text y.text ∙ between_join s a b c x.on y.on }

  pub stretch_none : (a : ℕ) → Stretch s a [] a
  stretch_none a = record { on = omega arith; text = between_none s a }

  -- ---- fields

  number_stretch : (at max v e : ℕ) → number_at s at max ≡ Value v e → Stretch s at (field v) e
  number_stretch at max v e q = record { on = omega (arith, (number-end s at max v e q).0); text = field_back s at max v e q }

  range_stretch : (at low high v e : ℕ) → between_at s at low high ≡ Value v e → Stretch s at (field v) e
  range_stretch at low high v e q = let w = range_back s at low high v e q in record { on = w.1; text = w.0 }

  below_stretch : (at n v e : ℕ) → below_at s at n ≡ Value v e → Stretch s at (field v) e
  unfolding below_at
  below_stretch at n v e = when_read-cases (λ r. r ≡ Value v e → Stretch s at (field v) e) Bad (number_at s at any_number) _ (λ m p h. never m p v e h) λ w f q.
      cond_cases (λ r. r ≡ Value v e → Stretch s at (field v) e) (ltb w n) (Value w f) (Bad 6 at)
      (λ t h.
      let i : w ≡ v = cc in
      let j : f ≡ e = cc in
      subst (λ v. Stretch s at (field v) e) i (subst (Stretch s at (field w)) j (number_stretch at any_number w f q)))
      (λ t h. never 6 at v e h)

  end_stretch : (at v e : ℕ) → line_end_at s at ≡ Value v e → Stretch s at ending e
  end_stretch at v e q = record { on = omega (arith, (line-end-next s at v e q).0); text = line-back s at v e q }

  -- so many fields
  fields-none : (a : ℕ) → Stretch s a (fields []) a
  unfolding fields
  fields-none a = stretch_none a

  fields-more : (v : ℕ) (vs : List ℕ) {a b c : ℕ} → Stretch s a (field v) b → Stretch s b (fields vs) c → Stretch s a (fields (v ∷ vs)) c
  unfolding fields
  fields-more v vs x y = stretch_then x y

  -- a word, fields and the line's end
  line_stretch : (ns : List ℕ) {a b c d : ℕ} {w : List ℕ} → Stretch s a w b → Stretch s b (fields ns) c → Stretch s c ending d → Stretch s a (line w ns) d
  unfolding line
  line_stretch ns x y z = stretch_then (stretch_then x y) z

  module _ (hs : Bytes s) where
    first_stretch : (at w e : ℕ) (u : List ℕ) → Spells u w → first_at s at ≡ Value w e → Stretch s at u e
    first_stretch at w e u sp q = record { on = omega (arith, (first-end s at w e q).0); text = first_back s hs at w e u sp q }

    -- ---- values

    unfoldable ValueText : ℕ → Commitment → Type 0
    ValueText at (commitment.Number v e) = Stretch s at (spell_value (the v)) e
    ValueText at (commitment.Ill e) = Stretch s at (spell_value none) e
    ValueText at (commitment.Bad n p) = Unit {0}

    value-text : (at : ℕ) → ValueText at (value_at s at)
    unfolding value_at ValueText spell_value packed_of packed ◌&◌
    value-text at =
        when_read-cases (ValueText at) commitment.Bad (word_at s at) _ (λ n p. tt) λ w e q.
        cond_cases (ValueText at) (eqb w (spelled "x")) (commitment.Ill e) _
        (λ t.
        let sp : Spells (letters "x") w = spells (letters "x") (spelled "x") w refl refl refl t in
        record { on = omega (arith, (word_end s at w e q).0); text = word_back s at w e (letters "x") hs sp.bytes q sp.number sp.some }) λ t.
        when_read-cases (ValueText at) commitment.Bad (number_at s at most_value) commitment.Number (λ n p. tt) λ v f r. number_stretch at most_value v f r

    value_stretch : (at v e : ℕ) → past_value_at s at ≡ Value v e → Stretch s at (spell_value (value_of (value_at s at))) e × (behind (value_at s at) ≡ e)
    unfolding past_value_at past_of value_of behind ValueText
    value_stretch at v e = go (value_at s at) (value-text at)
      where
        go : (c : Commitment) → ValueText at c → past_of c ≡ Value v e → Stretch s at (spell_value (value_of c)) e × (behind c ≡ e)
        go (commitment.Number n f) h q = let i : f ≡ e = cc in (subst (Stretch s at (spell_value (the n))) i h, i)
        go (commitment.Ill f) h q = let i : f ≡ e = cc in (subst (Stretch s at (spell_value none)) i h, i)
        go (commitment.Bad n p) h q = never n p v e q

    -- a value, and those behind it
    values-more : (at v e k f : ℕ) → past_value_at s at ≡ Value v e → Stretch s e (gather spell_value (values_of s e k)) f → Stretch s at (gather spell_value (values_of s at (suc k))) f
    unfolding values_of
    values-more at v e k f q x =
        let w = value_stretch at v e q in
        stretch_then w.0 (subst (λ i. Stretch s e (gather spell_value (values_of s i k)) f) (sym w.1) x)

    values-none : (at : ℕ) → Stretch s at (gather spell_value (values_of s at 0)) at
    unfolding values_of
    values-none at = stretch_none at

    values_stretch : (n at v e : ℕ) → past_values_at s n at ≡ Value v e → Stretch s at (gather spell_value (values_of s at n)) e
    unfolding past_values_at
    values_stretch zero at v e q = let i : at ≡ e = cc in subst (Stretch s at (gather spell_value (values_of s at 0))) i (values-none at)
    values_stretch (suc n) at v e q =
        when_read-cases (λ r. r ≡ Value v e → Stretch s at (gather spell_value (values_of s at (suc n))) e) Bad (past_value_at s at) _ (λ m p h. never m p v e h)
        (λ w f r h. values-more at w f n e r (values_stretch n f v e h)) q

    -- ---- the last part's first line

    -- fields, and the line's end behind them
    record Rest (at : ℕ) (ns : List ℕ) (e : ℕ) : Type 0 where
      middle : ℕ
      numbers : Stretch s at (fields ns) middle
      end : Stretch s middle ending e
      inside : e ≤ length s

    rest-line : {at b e : ℕ} {w ns : List ℕ} → Stretch s at w b → Rest b ns e → Stretch s at (line w ns) e
    rest-line {ns = ns} x r = line_stretch ns x r.numbers r.end

    participant_rest : (people at p q : ℕ) → participant_at s people at ≡ Value p q → Rest at (p ∷ []) q
    unfolding participant_at
    participant_rest people at p q =
        when_read-cases (λ r. r ≡ Value p q → Rest at (p ∷ []) q) Bad (below_at s at people) _ (λ m o h. never m o p q h) λ w e g.
        when_read-cases (λ r. r ≡ Value p q → Rest at (p ∷ []) q) Bad (line_end_at s e) _ (λ m o h. never m o p q h) λ v f k h.
        let i : w ≡ p = cc in
        let j : f ≡ q = cc in
        let x = below_stretch at people w e g in
        record {
          middle = e;
          numbers = fields-more p [] (subst (λ v. Stretch s at (field v) e) i x) (fields-none e);
          end = subst (Stretch s e ending) j (end_stretch e v f k);
          inside = let l = (line-end-next s e v f k).1 in omega (arith, l, j);
        }

    -- and nothing behind it
    last_rest : (people at p q : ℕ) → last_participant_at s people at ≡ Value p q → Rest at (p ∷ []) (length s)
    unfolding last_participant_at
    last_rest people at p q =
        when_read-cases (λ r. r ≡ Value p q → Rest at (p ∷ []) (length s)) Bad (participant_at s people at) _ (λ m o h. never m o p q h) λ w e g.
        cond_cases (λ r. r ≡ Value p q → Rest at (p ∷ []) (length s)) (ltb e (length s)) (Bad 9 e) (Value w e) (λ t h. never 9 e p q h) λ t h.
        let i : w ≡ p = cc in
        let x = participant_rest people at w e g in
        let j : e ≡ length s = let l = ltb-false e (length s) t in let k = x.inside in omega (arith, l, k) in
        subst (λ v. Rest at (v ∷ []) (length s)) i (subst (Rest at (w ∷ [])) j x)

    unfoldable pub PartText : ℕ → ℕ → Part → Type 0
    PartText secrets at (part.Make p) = Stretch s at (line (letters "make") (p ∷ [])) (length s)
    PartText secrets at part.MakeAll = Stretch s at (line (letters "makeall") []) (length s)
    PartText secrets at (part.Why p) = Stretch s at (line (letters "why") (p ∷ [])) (length s)
    PartText secrets at (part.Check p e) = Stretch s at (line (letters "check") (p ∷ [])) e × (e ≤ length s)
    PartText secrets at (part.Play v e) = Stretch s at (letters "play" ++ gather spell_value (values_of s v secrets) ++ ending) e × (e ≤ length s)
    PartText secrets at (part.Bad n p) = Unit {0}

    no_text : (secrets at n p : ℕ) → PartText secrets at (part.Bad n p)
    unfolding PartText
    no_text secrets at n p = tt

    module _ (people secrets at e : ℕ) where
      make-text : Stretch s at (letters "make") e → PartText secrets at (make_at s people e)
      unfolding make_at PartText
      make-text x = when_read-cases (PartText secrets at) part.Bad (last_participant_at s people e) _ (λ n p. tt) λ p f g. rest-line x (last_rest people e p f g)

      why-text : Stretch s at (letters "why") e → PartText secrets at (why_at s people e)
      unfolding why_at PartText
      why-text x = when_read-cases (PartText secrets at) part.Bad (last_participant_at s people e) _ (λ n p. tt) λ p f g. rest-line x (last_rest people e p f g)

      check-text : Stretch s at (letters "check") e → PartText secrets at (check_at s people e)
      unfolding check_at PartText
      check-text x = when_read-cases (PartText secrets at) part.Bad (participant_at s people e) _ (λ n p. tt) λ p f g.
          let r = participant_rest people e p f g in (rest-line x r, r.inside)

      all-text : Stretch s at (letters "makeall") e → PartText secrets at (make_all_at s e)
      unfolding make_all_at PartText
      all-text x = when_read-cases (PartText secrets at) part.Bad (line_end_at s e) _ (λ n p. tt) λ v f g.
          cond_cases (PartText secrets at) (ltb f (length s)) (part.Bad 9 f) part.MakeAll (λ t. tt) λ t.
          let j : f ≡ length s = let l = ltb-false f (length s) t in let k = (line-end-next s e v f g).1 in omega (arith, l, k) in
          line_stretch [] x (fields-none e) (subst (Stretch s e ending) j (end_stretch e v f g))

      play-text : Stretch s at (letters "play") e → PartText secrets at (play_at s secrets e)
      unfolding play_at PartText
      play-text x = when_read-cases (PartText secrets at) part.Bad (past_values_at s secrets e) _ (λ n p. tt) λ v f g.
          when_read-cases (PartText secrets at) part.Bad (line_end_at s f) _ (λ n p. tt) λ w z k.
          (stretch_then (stretch_then x (values_stretch secrets e v f g)) (end_stretch f w z k), (line-end-next s f w z k).1)

    pub part_text_lem : (people secrets at : ℕ) → PartText secrets at (last_part_at s people secrets at)
    unfolding last_part_at packed_of packed ◌&◌
    part_text_lem people secrets at = when_read-cases Q part.Bad (first_at s at) _ bad λ w e q.
        cond_cases Q (eqb w (spelled "make")) _ _
        (λ t. make-text people secrets at e (first_stretch at w e (letters "make") (spells (letters "make") (spelled "make") w refl refl refl t) q)) λ t.
        cond_cases Q (eqb w (spelled "makeall")) _ _
        (λ t. all-text people secrets at e (first_stretch at w e (letters "makeall") (spells (letters "makeall") (spelled "makeall") w refl refl refl t) q)) λ t.
        cond_cases Q (eqb w (spelled "why")) _ _
        (λ t. why-text people secrets at e (first_stretch at w e (letters "why") (spells (letters "why") (spelled "why") w refl refl refl t) q)) λ t.
        cond_cases Q (eqb w (spelled "check")) _ _
        (λ t. check-text people secrets at e (first_stretch at w e (letters "check") (spells (letters "check") (spelled "check") w refl refl refl t) q)) λ t.
        cond_cases Q (eqb w (spelled "play")) _ _
        (λ t. play-text people secrets at e (first_stretch at w e (letters "play") (spells (letters "play") (spelled "play") w refl refl refl t) q)) λ t. bad 3 at
      where
        Q : Part → Type 0
        Q = PartText secrets at

        bad : (n p : ℕ) → PartText secrets at (part.Bad n p)
        bad n p = no_text secrets at n p

    -- ---- rows

    unfoldable RowText : ℕ → RowLine → Type 0
    RowText at (rowline.Row n b k e) = Stretch s at (spell_row (row n b k)) e × (e ≤ length s)
    RowText at (rowline.Bad n p) = Unit {0}

    module _ (counts : ℕ → ℕ) (nodes : ℕ) where
      row-text : (at : ℕ) → RowText at (row_at s counts nodes at)
      unfolding row_at row_numbers_at RowText spell_row packed_of packed ◌&◌
      row-text at =
          when_read-cases (RowText at) rowline.Bad (first_at s at) _ (λ n p. tt) λ w e q.
          cond_cases (RowText at) (eqb w (spelled "row")) _ _ (λ t.
          when_read-cases (RowText at) rowline.Bad (below_at s e nodes) _ (λ n p. tt) λ n f x.
          when_read-cases (RowText at) rowline.Bad (below_at s f (counts n)) _ (λ n p. tt) λ b g y.
          when_read-cases (RowText at) rowline.Bad (between_at s g 1 most_rank) _ (λ n p. tt) λ k h z.
          when_read-cases (RowText at) rowline.Bad (line_end_at s h) _ (λ n p. tt) λ v i u. (
            line_stretch (n ∷ b ∷ k ∷ []) (first_stretch at w e (letters "row") (spells (letters "row") (spelled "row") w refl refl refl t) q)
                (fields-more n (b ∷ k ∷ []) (below_stretch e nodes n f x)
                (fields-more b (k ∷ []) (below_stretch f (counts n) b g y) (fields-more k [] (range_stretch g 1 most_rank k h z) (fields-none h))))
                (end_stretch h v i u),
            (line-end-next s h v i u).1,
          )) (λ t. tt)

      -- the rows that were read behind xs, up to the request's end
      pub record More (xs : List Row) (at : ℕ) (R : List Row) : Type 0 where
        pub rows : List Row
        pub are : R ≡ xs ++ rows
        pub text : Stretch s at (gather spell_row rows) (length s)

      none_more : (xs : List Row) (at : ℕ) → at ≤ length s → ltb at (length s) ≡ false → More xs at xs
      none_more xs at h t =
          let j : at ≡ length s = let l = ltb-false at (length s) t in omega (arith, l, h) in
          record { rows = []; are = sym (append-nil xs); text = subst (Stretch s at []) j (stretch_none at) }

      no_room : (at n e : ℕ) → no_room_at s at ≡ Value n e → ⊥
      unfolding no_room_at
      no_room at n e = when_read-cases (λ r. r ≡ Value n e → ⊥) Bad (first_at s at) _ (λ m p h. never m p n e h) λ w f q.
          cond_cases (λ r. r ≡ Value n e → ⊥) (eqb w (spelled "row")) (Bad 7 at) (Bad 3 at) (λ t h. never 7 at n e h) (λ t h. never 3 at n e h)

      with_line_lem : (left : ℕ) (xs : List Row) (at n e : ℕ) (l : RowLine) → RowText at l
          → ((r : Row) (f : ℕ) → f ≤ length s → (rows_from s counts nodes left (xs ++ (r ∷ [])) f).answer ≡ Value n e
          → More (xs ++ (r ∷ [])) f (rows_from s counts nodes left (xs ++ (r ∷ [])) f).rows)
          → (with_line xs (rows_from s counts nodes left) l).answer ≡ Value n e → More xs at (with_line xs (rows_from s counts nodes left) l).rows
      unfolding with_line RowText
      with_line_lem left xs at n e (rowline.Bad m p) x f q = never m p n e q
      with_line_lem left xs at n e (rowline.Row a b k g) x f q =
          let w = f (row a b k) g x.1 q in
          record { rows = row a b k ∷ w.rows; are = w.are ∙ append_assoc xs (row a b k ∷ []) w.rows; text = stretch_then x.0 w.text }

      pub rows-text : (left : ℕ) (xs : List Row) (at : ℕ) → at ≤ length s → (n e : ℕ) → (rows_from s counts nodes left xs at).answer ≡ Value n e
          → More xs at (rows_from s counts nodes left xs at).rows
      unfolding rows_from
      rows-text zero xs at h n e =
          cond_cases (λ (r : Rows). r.answer ≡ Value n e → More xs at r.rows) (ltb at (length s)) _ _ (λ t q. absurd (no_room at n e q)) (λ t q. none_more xs at h t)
      rows-text (suc left) xs at h n e =
          cond_cases (λ (r : Rows). r.answer ≡ Value n e → More xs at r.rows) (ltb at (length s)) _ _
          (λ t. with_line_lem left xs at n e (row_at s counts nodes at) (row-text at) (λ r f g. rows-text left (xs ++ (r ∷ [])) f g n e)) (λ t q. none_more xs at h t)

    -- ---- events

    -- two numbers, and the line's end behind them
    unfoldable PairText : ℕ → Pair → Type 0
    PairText at (pair.Two a b e) = Stretch s at (fields (a ∷ b ∷ [])) e
    PairText at (pair.Bad n p) = Unit {0}

    pair_text : (at : ℕ) → PairText at (pair_at s at)
    unfolding pair_at PairText
    pair_text at =
        when_read-cases (PairText at) pair.Bad (number_at s at most_field) _ (λ n p. tt) λ a e x.
        when_read-cases (PairText at) pair.Bad (number_at s e most_field) _ (λ n p. tt) λ b f y.
        fields-more a (b ∷ []) (number_stretch at most_field a e x) (fields-more b [] (number_stretch e most_field b f y) (fields-none f))

    pair_stretch : (at a b e : ℕ) → pair_at s at ≡ pair.Two a b e → Stretch s at (fields (a ∷ b ∷ [])) e
    unfolding PairText
    pair_stretch at a b e q = subst (PairText at) q (pair_text at)

    unfoldable LastPair : ℕ → Pair → Type 0
    LastPair at (pair.Two a b e) = Rest at (a ∷ b ∷ []) e
    LastPair at (pair.Bad n p) = Unit {0}

    last_pair : (at : ℕ) → LastPair at (last_pair_at s at)
    unfolding last_pair_at LastPair
    last_pair at =
        pair_cases (LastPair at) pair.Bad (pair_at s at) _ (λ n p. tt) λ a b e x.
        when_read-cases (LastPair at) pair.Bad (line_end_at s e) _ (λ n p. tt) λ v f y.
        record { middle = e; numbers = pair_stretch at a b e x; end = end_stretch e v f y; inside = (line-end-next s e v f y).1 }

    last_pair_rest : (at a b e : ℕ) → last_pair_at s at ≡ pair.Two a b e → Rest at (a ∷ b ∷ []) e
    unfolding LastPair
    last_pair_rest at a b e q = subst (LastPair at) q (last_pair at)

    unfoldable EventText : ℕ → Event → Type 0
    EventText at (event.Wait d e) = Stretch s at (spell_event (wait d)) e
    EventText at (event.Sign p c b e) = Stretch s at (spell_event (sign p c b)) e
    EventText at (event.Tell i j e) = Stretch s at (spell_event (tell i j)) e
    EventText at (event.Fire c b e) = Stretch s at (spell_event (fire c b)) e
    EventText at (event.Renew c b f n e) = Stretch s at (spell_event (renew c b (values_of s f n))) e
    EventText at (event.Bad n p) = Unit {0}

    no_event : (at n p : ℕ) → EventText at (event.Bad n p)
    unfolding EventText
    no_event at n p = tt

    module _ (people at e : ℕ) where
      wait-text : Stretch s at (letters "wait") e → EventText at (wait_at s e)
      unfolding wait_at EventText spell_event
      wait-text x =
          when_read-cases (EventText at) event.Bad (between_at s e 1 most_wait) _ (no_event at) λ d f y.
          when_read-cases (EventText at) event.Bad (line_end_at s f) _ (no_event at) λ v g z.
          line_stretch (d ∷ []) x (fields-more d [] (range_stretch e 1 most_wait d f y) (fields-none f)) (end_stretch f v g z)

      sign_text : Stretch s at (letters "sign") e → EventText at (sign_at s people e)
      unfolding sign_at EventText spell_event
      sign_text x =
          when_read-cases (EventText at) event.Bad (below_at s e people) _ (no_event at) λ p f y.
          pair_cases (EventText at) event.Bad (last_pair_at s f) _ (no_event at) λ c b g z.
          let r = last_pair_rest f c b g z in
          line_stretch (p ∷ c ∷ b ∷ []) x (fields-more p (c ∷ b ∷ []) (below_stretch e people p f y) r.numbers) r.end

      tell-text : Stretch s at (letters "tell") e → EventText at (tell_at s e)
      unfolding tell_at EventText spell_event
      tell-text x = pair_cases (EventText at) event.Bad (last_pair_at s e) _ (no_event at) λ i j f z. rest-line x (last_pair_rest e i j f z)

      fire-text : Stretch s at (letters "fire") e → EventText at (fire_at s e)
      unfolding fire_at EventText spell_event
      fire-text x = pair_cases (EventText at) event.Bad (last_pair_at s e) _ (no_event at) λ c b f z. rest-line x (last_pair_rest e c b f z)

      renew-text : Stretch s at (letters "renew") e → EventText at (renew_at s e)
      unfolding renew_at values_at EventText spell_event
      renew-text x =
          pair_cases (EventText at) event.Bad (pair_at s e) _ (no_event at) λ c b f y.
          when_read-cases (EventText at) event.Bad (values_from s most_values 0 f) _ (no_event at) λ n g z.
          when_read-cases (EventText at) event.Bad (line_end_at s g) _ (no_event at) λ v h u.
          let i : n - 0 ≡ n = omega arith in
          let w : past_values_at s n f ≡ Value 0 g = subst (λ k. past_values_at s k f ≡ Value 0 g) i (values-sound s most_values 0 f n g z).2 in
          stretch_then (stretch_then (stretch_then x (pair_stretch e c b f y)) (values_stretch n f 0 g w)) (end_stretch g v h u)

    event_text : (people at : ℕ) → EventText at (event_at s people at)
    unfolding event_at packed_of packed ◌&◌
    event_text people at = when_read-cases (EventText at) event.Bad (first_at s at) _ (no_event at) λ w e q.
        cond_cases (EventText at) (eqb w (spelled "wait")) _ _
        (λ t. wait-text people at e (first_stretch at w e (letters "wait") (spells (letters "wait") (spelled "wait") w refl refl refl t) q)) λ t.
        cond_cases (EventText at) (eqb w (spelled "sign")) _ _
        (λ t. sign_text people at e (first_stretch at w e (letters "sign") (spells (letters "sign") (spelled "sign") w refl refl refl t) q)) λ t.
        cond_cases (EventText at) (eqb w (spelled "tell")) _ _
        (λ t. tell-text people at e (first_stretch at w e (letters "tell") (spells (letters "tell") (spelled "tell") w refl refl refl t) q)) λ t.
        cond_cases (EventText at) (eqb w (spelled "fire")) _ _
        (λ t. fire-text people at e (first_stretch at w e (letters "fire") (spells (letters "fire") (spelled "fire") w refl refl refl t) q)) λ t.
        cond_cases (EventText at) (eqb w (spelled "renew")) _ _
        (λ t. renew-text people at e (first_stretch at w e (letters "renew") (spells (letters "renew") (spelled "renew") w refl refl refl t) q)) λ t. no_event at 3 at

    event_stretch : (people at v e : ℕ) → next_of (event_at s people at) ≡ Value v e → Stretch s at (spell_event (event_of s (event_at s people at))) e
    unfolding next_of event_of EventText
    event_stretch people at v e = go (event_at s people at) (event_text people at)
      where
        go : (r : Event) → EventText at r → next_of r ≡ Value v e → Stretch s at (spell_event (event_of s r)) e
        go (event.Wait d f) h q = let i : f ≡ e = cc in subst (Stretch s at (spell_event (wait d))) i h
        go (event.Sign p c b f) h q = let i : f ≡ e = cc in subst (Stretch s at (spell_event (sign p c b))) i h
        go (event.Tell j k f) h q = let i : f ≡ e = cc in subst (Stretch s at (spell_event (tell j k))) i h
        go (event.Fire c b f) h q = let i : f ≡ e = cc in subst (Stretch s at (spell_event (fire c b))) i h
        go (event.Renew c b g n f) h q = let i : f ≡ e = cc in subst (Stretch s at (spell_event (renew c b (values_of s g n)))) i h
        go (event.Bad n p) h q = never n p v e q

    -- every event line up to the request's end
    events-text : (people n at : ℕ) → at ≤ length s → length s ≤ at + n → events_from s people n at ≡ lines.Good
        → Stretch s at (gather spell_event (events_up_to s people n at)) (length s)
    unfolding events_from events_up_to when_read
    events-text people zero at h k g = subst (Stretch s at []) (let z : at ≡ length s = omega (arith, h, k) in z) (stretch_none at)
    events-text people (suc n) at h k g = go (ltb at (length s)) refl (next_of (event_at s people at)) refl (events-text people n) g
      where
        go : (b : Bool) → ltb at (length s) ≡ b → (r : Got) → next_of (event_at s people at) ≡ r
            → ((e : ℕ) → e ≤ length s → length s ≤ e + n → events_from s people n e ≡ lines.Good → Stretch s e (gather spell_event (events_up_to s people n e)) (length s))
            → cond b (when_read lines.Bad r λ v e. events_from s people n e) lines.Good ≡ lines.Good
            → Stretch s at (gather spell_event (cond b (when_read (λ m p. []) r λ v e. event_of s (event_at s people at) ∷ events_up_to s people n e) [])) (length s)
        go true t (Value v e) r f q =
            let l = event_ahead s people at v e r in
            stretch_then (event_stretch people at v e r) (f e l.1 (omega (arith, l.0, k)) q)
        go true t (Bad m p) r f q = absurd (let z : ◌≡◌ {A = ℕ} 0 1 = cc in omega arith)
        go false t r e f q = subst (Stretch s at []) (let l = ltb-false at (length s) t in let z : at ≡ length s = omega (arith, h, l) in z) (stretch_none at)

    pub all-events-text : (people at : ℕ) → at ≤ length s → events_at s people at ≡ lines.Good → Stretch s at (gather spell_event (events_of s people at)) (length s)
    unfolding events_at events_of
    all-events-text people at h g = events-text people (length s - at) at h (omega (arith, h)) g
