-- Every request that is read whole is the text of the request that is answered. Assumes nothing.
use Prim.Native.Nat.{ℕ, ◌≤◌}
use Prim.Native.Char.{code}
use mathlib.Core.Path.{◌≡◌, refl, sym, ap, ◌∙◌, subst}
use mathlib.Core.List.{List, [], ◌∷◌, ◌++◌}
use native.Mathlib.Omega.{arith}
use lib.ListN.{length}
use lib.Seq.{take_all}
use borrow.Author.Tests.{le-leb}
use Rattle.bitml.specs.Lists.{gather}
use Rattle.bitml.specs.Rows.{Row}
use Rattle.bitml.specs.Answers.{making, making_all, explaining, checking, playing, answer}
use Rattle.fields.specs.Field.{Got}
use Rattle.fields.specs.Field as got
use Rattle.fields.proofs.Words.{Bytes}
use Rattle.tables.specs.Entries.{Entries}
use Rattle.tables.specs.SheetOf.{node_entry_at, def_entry_at, sheet_of}
use Rattle.buffer.specs.Buffer.{places_of_all}
use Rattle.lines.specs.Sheet.{SheetRead, accepted, read_sheet}
use Rattle.lines.specs.Sheet.{refused as unread}
use Rattle.requests.specs.LastPart.{Part}
use Rattle.requests.specs.LastPart as part
use Rattle.requests.specs.Part.{last_part_at}
use Rattle.requests.specs.Rows.{most_rows, rows_at}
use Rattle.events.specs.Lines.{Lines}
use Rattle.events.specs.Lines as lines
use Rattle.events.specs.Events.{events_at}
use Rattle.reading.specs.Request.{Reading, LastPart, make, make_all, why, check, play, request, refused, refused_at, from_rows, from_lines, from_part, from_sheet, read_request}
use Rattle.ledger.specs.Values.{values_of}
use Rattle.plays.specs.Events.{events_of}
use Rattle.texts.specs.Text.{letters, line}
use Rattle.writing.proofs.Back.{from_start}
use Rattle.checker.specs.Entry.{answer_for, answer_for_all, answer_to}
use Rattle.checker.specs.Demands.{Room}
use Rattle.checker.proofs.Demands.{answer-read}
use Rattle.spelling.specs.Spelled.{spell_sheet}
use Rattle.spelling.specs.Requests.{spell_value, spell_event, spell_row, spell_request, Asked, OfRequests}
use Rattle.spelling.proofs.Spelling.{of_spelling}
use Rattle.spelling.proofs.Asked.{Stretch, stretch_then, PartText, part_text_lem, More, rows-text, all-events-text}

no_request : {Q : Type 0} (s : List ℕ) (n p K : ℕ) (E : Entries) (l : LastPart) → refused_at s n p ≡ request K E l → Q
unfolding refused_at
no_request s n p K E l h = absurd (let z : ◌≡◌ {A = ℕ} 0 1 = cc in omega arith)

module _ (s : List ℕ) (hs : Bytes s) (places text : ℕ) (room : Room s places text) where
  whole : (t : List ℕ) → Stretch s 0 t (length s) → s ≡ t
  whole t x = sym (x.text ∙ from_start s hs (length s) ∙ take_all (length s) s (omega arith))

  sheet_stretch : (K at : ℕ) (E : Entries) → read_sheet s ≡ accepted K at E → Stretch s 0 (spell_sheet (sheet_of K E)) at
  sheet_stretch K at E h = record { on = omega arith; text = sym (of_spelling.spells s hs K at E h) ∙ sym (from_start s hs at) }

  -- behind a sheet that was read up to `at`
  module _ (K at : ℕ) (E : Entries) (sheet : Stretch s 0 (spell_sheet (sheet_of K E)) at) where
    -- as many branches as each node has
    abbrev counts : ℕ → ℕ
    counts n = (node_entry_at E n).count

    rows-asked : (p e : ℕ) (R : List Row) (g : Got) → Stretch s at (line (letters "check") (p ∷ [])) e
        → ((n f : ℕ) → g ≡ got.Value n f → More s hs counts (length E.nodes) [] e R)
        → read_request s ≡ from_rows s K E p R g → {L : ℕ} {F : Entries} {l : LastPart} → from_rows s K E p R g ≡ request L F l → Asked s places text
    unfolding from_rows answer_for spell_request
    rows-asked p e R (got.Bad n q) x m r {L} {F} {l} h = no_request s n q L F l h
    rows-asked p e R (got.Value n f) x m r h =
        let w = m n f refl in
        record {
          asked = checking (sheet_of K E) p R;
          spelled = whole _ (stretch_then s (stretch_then s sheet x) (subst (λ rs. Stretch s e (gather spell_row rs) (length s)) (sym w.are) w.text));
          answered = answer-read s places text room K E (check p R) r;
        }

    events-asked : (v e : ℕ) (g : Lines) → Stretch s at (letters "play" ++ gather spell_value (values_of s v (def_entry_at E 0).secrets) ++ (code "\n" ∷ [])) e
        → (g ≡ lines.Good → Stretch s e (gather spell_event (events_of s K e)) (length s))
        → read_request s ≡ from_lines s K E v e g → {L : ℕ} {F : Entries} {l : LastPart} → from_lines s K E v e g ≡ request L F l → Asked s places text
    unfolding from_lines answer_for spell_request
    events-asked v e (lines.Bad n q) x m r {L} {F} {l} h = no_request s n q L F l h
    events-asked v e lines.Good x m r h =
        record {
          asked = playing (sheet_of K E) (values_of s v (def_entry_at E 0).secrets) (events_of s K e);
          spelled = whole _ (stretch_then s (stretch_then s sheet x) (m refl));
          answered = answer-read s places text room K E (play v e) r;
        }

    part_asked : (o : Part) → PartText s hs (def_entry_at E 0).secrets at o → read_request s ≡ from_part s K E o
        → {L : ℕ} {F : Entries} {l : LastPart} → from_part s K E o ≡ request L F l → (l ≡ make_all → places_of_all ≤ places) → Asked s places text
    unfolding from_part PartText rows_at answer_for answer_for_all spell_request
    part_asked (part.Make p) x r h all =
        record { asked = making (sheet_of K E) p; spelled = whole _ (stretch_then s sheet x); answered = answer-read s places text room K E (make p) r }
    part_asked part.MakeAll x r {l = l} h all =
        let e : l ≡ make_all = cc in
        record {
          asked = making_all (sheet_of K E);
          spelled = whole _ (stretch_then s sheet x);
          answered = answer-read s places text room K E make_all r ∙ rw (le-leb _ _ (all e));
        }
    part_asked (part.Why p) x r h all =
        record { asked = explaining (sheet_of K E) p; spelled = whole _ (stretch_then s sheet x); answered = answer-read s places text room K E (why p) r }
    part_asked (part.Check p e) x r h all = rows-asked p e _ _ x.0 (λ n f q. rows-text s hs counts (length E.nodes) most_rows [] e x.1 n f q) r h
    part_asked (part.Play v e) x r h all = events-asked v e (events_at s K e) x.0 (λ q. all-events-text s hs K e x.1 q) r h
    part_asked (part.Bad n q) x r {L} {F} {l} h all = no_request s n q L F l h

  read_asked : (w : SheetRead) → read_sheet s ≡ w → read_request s ≡ from_sheet s w
      → {L : ℕ} {F : Entries} {l : LastPart} → from_sheet s w ≡ request L F l → (l ≡ make_all → places_of_all ≤ places) → Asked s places text
  unfolding from_sheet
  read_asked (unread n q) e r {L} {F} {l} h all = no_request s n q L F l h
  read_asked (accepted K at E) e r h all =
      part_asked K at E (sheet_stretch K at E e) (last_part_at s K (def_entry_at E 0).secrets at) (part_text_lem s hs K (def_entry_at E 0).secrets at) r h all

pub of_requests : OfRequests
unfolding OfRequests read_request
of_requests s hs places text room K E l h all = read_asked s hs places text room (read_sheet s) refl refl h all
