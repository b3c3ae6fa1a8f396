-- Where the line `makeall` stands: it is the last line of its request, and the word is all of it. Assumes nothing.
use Prim.Native.Nat.{ℕ, ◌+◌, ◌-◌, ◌≤◌}
use mathlib.Core.Path.{◌≡◌, refl, subst}
use mathlib.Core.List.{List}
use native.Mathlib.Omega.{arith}
use lib.ListN.{length, drop}
use lib.Seq.{length-take-le}
use lib.Dec.{ltb, eqb, lit≤}
use borrow.Author.Tests.{eqb-true, ltb-false}
use Rattle.bitml.specs.Rows.{Row}
use Rattle.fields.specs.Field.{spelled, field_len, text_at, packed_of, end_at, word_from, first_at, line_end_at}
use Rattle.fields.specs.Field.{Got}
use Rattle.fields.specs.Field as got
use Rattle.fields.proofs.Laws.{field_len-le}
use Rattle.fields.proofs.Ranges.{when_read-cases, cond_cases, never, line-end-next}
use Rattle.fields.proofs.Words.{Bytes, first-long}
use Rattle.tables.specs.Entries.{Entries}
use Rattle.tables.specs.SheetOf.{def_entry_at}
use Rattle.lines.specs.Sheet.{SheetRead, accepted, read_sheet}
use Rattle.lines.specs.Sheet.{refused as unread}
use Rattle.requests.specs.LastPart.{Part}
use Rattle.requests.specs.LastPart as part
use Rattle.requests.specs.Part.{participant_at, last_participant_at, past_values_at, make_at, make_all_at, why_at, check_at, play_at, last_part_at}
use Rattle.events.specs.Lines.{Lines}
use Rattle.events.specs.Lines as lines
use Rattle.events.specs.Events.{events_at}
use Rattle.reading.specs.Request.{make, make_all, why, check, play, Reading, request, refused, refused_at, from_rows, from_lines, from_part, from_sheet, read_request}

-- ---- a word

-- it has seven letters at the most
few-letters : (t : List ℕ) → (packed_of t ≡ 0 → ⊥) → length t ≤ 7
unfolding packed_of
few-letters t =
    cond_cases (λ n. (n ≡ 0 → ⊥) → length t ≤ 7) (eqb (length t) 0) 0 _ (λ a f. absurd (f refl)) λ a.
    cond_cases (λ n. (n ≡ 0 → ⊥) → length t ≤ 7) (ltb 7 (length t)) 0 _ (λ b f. absurd (f refl)) (λ b f. ltb-false 7 (length t) b)

-- a field has all its bytes
text-length : (s : List ℕ) (p : ℕ) → length (text_at s p) ≡ field_len (drop p s)
unfolding text_at
text-length s p = length-take-le (field_len (drop p s)) (drop p s) (field_len-le (drop p s))

-- a line's word ends after seven bytes at the most
first_short : (s : List ℕ) (at w q : ℕ) → first_at s at ≡ got.Value w q → (w ≡ 0 → ⊥) → q ≤ at + 7
unfolding first_at word_from end_at
first_short s at w q =
    cond_cases (λ r. r ≡ got.Value w q → (w ≡ 0 → ⊥) → q ≤ at + 7) (ltb at (length s)) (word_from s at) (got.Bad 2 at)
    (λ b h f.
    let i : packed_of (text_at s at) ≡ w = cc in
    let j : at + field_len (drop at s) ≡ q = cc in
    omega (arith, few-letters (text_at s at) (λ z. f (omega arith)), text-length s at))
    (λ b h f. never 2 at w q h)

-- ---- the last part

-- the word `makeall` at this place, and its LF at the request's end
record Line (s : List ℕ) (at : ℕ) : Type 0 where
  end : ℕ
  word : first_at s at ≡ got.Value (spelled "makeall") end
  last : end + 1 ≡ length s

-- what is known of a part, where it is `makeall`
unfoldable WhereAll : List ℕ → ℕ → Part → Type 0
WhereAll s at part.MakeAll = Line s at
WhereAll s at (part.Make p) = Unit {0}
WhereAll s at (part.Why p) = Unit {0}
WhereAll s at (part.Check p e) = Unit {0}
WhereAll s at (part.Play f e) = Unit {0}
WhereAll s at (part.Bad n p) = Unit {0}

module _ (s : List ℕ) (at : ℕ) where
  part_bad : (n p : ℕ) → WhereAll s at (part.Bad n p)
  unfolding WhereAll
  part_bad n p = tt

  part_make : (people e : ℕ) → WhereAll s at (make_at s people e)
  unfolding make_at WhereAll
  part_make people e = when_read-cases (WhereAll s at) part.Bad (last_participant_at s people e) _ part_bad λ p f g. tt

  part_all : (e : ℕ) → first_at s at ≡ got.Value (spelled "makeall") e → WhereAll s at (make_all_at s e)
  unfolding make_all_at WhereAll
  part_all e h =
      when_read-cases (WhereAll s at) part.Bad (line_end_at s e) _ part_bad λ v f g.
      cond_cases (WhereAll s at) (ltb f (length s)) (part.Bad 9 f) part.MakeAll (λ b. tt)
      (λ b. record { end = e; word = h; last = let l = line-end-next s e v f g in omega (arith, ltb-false f (length s) b) })

  part_why_lem : (people e : ℕ) → WhereAll s at (why_at s people e)
  unfolding why_at WhereAll
  part_why_lem people e = when_read-cases (WhereAll s at) part.Bad (last_participant_at s people e) _ part_bad λ p f g. tt

  part_check : (people e : ℕ) → WhereAll s at (check_at s people e)
  unfolding check_at WhereAll
  part_check people e = when_read-cases (WhereAll s at) part.Bad (participant_at s people e) part.Check part_bad λ p f g. tt

  part_play : (secrets e : ℕ) → WhereAll s at (play_at s secrets e)
  unfolding play_at WhereAll
  part_play secrets e =
      when_read-cases (WhereAll s at) part.Bad (past_values_at s secrets e) _ part_bad λ v f g.
      when_read-cases (WhereAll s at) part.Bad (line_end_at s f) _ part_bad λ w z k. tt

  part_line : (people secrets : ℕ) → WhereAll s at (last_part_at s people secrets at)
  unfolding last_part_at
  part_line people secrets =
      when_read-cases (WhereAll s at) part.Bad (first_at s at) _ part_bad λ w e g.
      cond_cases (WhereAll s at) (eqb w (spelled "make")) (make_at s people e) _ (λ t. part_make people e) λ t.
      cond_cases (WhereAll s at) (eqb w (spelled "makeall")) (make_all_at s e) _
      (λ t. part_all e (subst (λ v. first_at s at ≡ got.Value v e) (eqb-true w (spelled "makeall") t) g)) λ t.
      cond_cases (WhereAll s at) (eqb w (spelled "why")) (why_at s people e) _ (λ t. part_why_lem people e) λ t.
      cond_cases (WhereAll s at) (eqb w (spelled "check")) (check_at s people e) _ (λ t. part_check people e) λ t.
      cond_cases (WhereAll s at) (eqb w (spelled "play")) (play_at s secrets e) (part.Bad 3 at) (λ t. part_play secrets e) λ t.
      part_bad 3 at

-- ---- the request

-- the sheet ends before the last eight bytes, and they are the word and its LF
pub record AllLast (s : List ℕ) (K : ℕ) (E : Entries) : Type 0 where
  pub room : 8 ≤ length s
  pub sheet : read_sheet s ≡ accepted K (length s - 8) E
  pub word : first_at s (length s - 8) ≡ got.Value (spelled "makeall") (length s - 1)

-- the word has seven letters
line-last : (s : List ℕ) → Bytes s → (K at : ℕ) (E : Entries) → read_sheet s ≡ accepted K at E → Line s at → AllLast s K E
line-last s h K at E e l =
    let few = first_short s at (spelled "makeall") l.end l.word (λ z. absurd (omega arith)) in
    let many = first-long s at (spelled "makeall") l.end 6 h l.word (lit≤ tt) in
    let i : at ≡ length s - 8 = omega (arith, l.last) in
    let j : l.end ≡ length s - 1 = omega (arith, l.last) in
    record {
      room = omega (arith, l.last);
      sheet = subst (λ n. read_sheet s ≡ accepted K n E) i e;
      word = subst (λ n. first_at s n ≡ got.Value (spelled "makeall") (length s - 1)) i (subst (λ n. first_at s at ≡ got.Value (spelled "makeall") n) j l.word);
    }

-- what is known of a reading, where it is `makeall`
unfoldable ReadAll : List ℕ → Reading → Type 0
ReadAll s (request K E make_all) = AllLast s K E
ReadAll s (request K E (make p)) = Unit {0}
ReadAll s (request K E (why p)) = Unit {0}
ReadAll s (request K E (check p R)) = Unit {0}
ReadAll s (request K E (play v e)) = Unit {0}
ReadAll s (refused n l f) = Unit {0}

read-refused : (s : List ℕ) (n p : ℕ) → ReadAll s (refused_at s n p)
unfolding refused_at ReadAll
read-refused s n p = tt

module _ (s : List ℕ) (K : ℕ) (E : Entries) where
  read-rows : (p : ℕ) (R : List Row) (g : Got) → ReadAll s (from_rows s K E p R g)
  unfolding from_rows ReadAll
  read-rows p R (got.Value n e) = tt
  read-rows p R (got.Bad n e) = read-refused s n e

  read-lines : (v e : ℕ) (l : Lines) → ReadAll s (from_lines s K E v e l)
  unfolding from_lines ReadAll
  read-lines v e lines.Good = tt
  read-lines v e (lines.Bad n p) = read-refused s n p

  read_part : (at : ℕ) (o : Part) → (Line s at → AllLast s K E) → WhereAll s at o → ReadAll s (from_part s K E o)
  unfolding from_part ReadAll WhereAll
  read_part at (part.Make p) f h = tt
  read_part at part.MakeAll f h = f h
  read_part at (part.Why p) f h = tt
  read_part at (part.Check p e) f h = read-rows p _ _
  read_part at (part.Play v e) f h = read-lines v e (events_at s K e)
  read_part at (part.Bad n p) f h = read-refused s n p

read-sheet : (s : List ℕ) → Bytes s → (w : SheetRead) → read_sheet s ≡ w → ReadAll s (from_sheet s w)
unfolding from_sheet
read-sheet s h (accepted K at E) e = read_part s K E at _ (line-last s h K at E e) (part_line s at K (def_entry_at E 0).secrets)
read-sheet s h (unread n p) e = read-refused s n p

-- the theorem: where `makeall` stands
pub all-last : (s : List ℕ) → Bytes s → (K : ℕ) (E : Entries) → read_request s ≡ request K E make_all → AllLast s K E
unfolding read_request ReadAll
all-last s h K E e = subst (ReadAll s) e (read-sheet s h (read_sheet s) refl)
