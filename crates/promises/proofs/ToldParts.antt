-- A last part that is refused is refused by one of the numbers 2 to 9. Assumes nothing.
use Prim.Native.Nat.{ℕ, zero, suc, ◌+◌, ◌-◌}
use mathlib.Core.Path.{refl}
use mathlib.Core.Bool.{◌&&◌}
use mathlib.Core.List.{List, [], ◌∷◌, ◌++◌}
use lib.ListN.{length, get_or}
use lib.Dec.{ltb, eqb}
use Rattle.bitml.specs.Rows.{Row}
use Rattle.buffer.specs.Buffer.{row}
use Rattle.fields.specs.Field.{comma, spelled}
use Rattle.fields.specs.Field.{Value, Bad}
use Rattle.requests.specs.Commitment.{Commitment}
use Rattle.requests.specs.Commitment as commitment
use Rattle.requests.specs.LastPart.{Part}
use Rattle.requests.specs.LastPart as part
use Rattle.requests.specs.RowLine.{RowLine}
use Rattle.requests.specs.RowLine as line
use Rattle.requests.specs.Part.{most_value, value_at, past_of, past_value_at, past_values_at, participant_at, last_participant_at, make_at, make_all_at, why_at, check_at, play_at, last_part_at}
use Rattle.requests.specs.Rows.{most_rank, most_rows, Rows, rows_with, row_numbers_at, row_at, no_room_at, with_line, rows_from, rows_at}
use Rattle.events.specs.Event.{Event}
use Rattle.events.specs.Event as event
use Rattle.events.specs.Pair.{Pair}
use Rattle.events.specs.Pair as pair
use Rattle.events.specs.Lines.{Lines}
use Rattle.events.specs.Lines as lines
use Rattle.events.specs.Events.{most_wait, most_field, most_values, pair_at, after_pair, last_pair_at, wait_at, sign_at, tell_at, fire_at, values_from, values_at, renew_at, event_at, next_of, events_from, events_at}
use Rattle.promises.specs.Refusals.{ReadNumber}
use Rattle.promises.proofs.Told.{due, FieldTold, read, unread, field-bad, read_told, cond-told, number-told, word-told, first-told, line-end-told, below-told, between-told}

-- ---- values

unfoldable ValueTold : Commitment → Type 0
ValueTold (commitment.Number v e) = Unit {0}
ValueTold (commitment.Ill e) = Unit {0}
ValueTold (commitment.Bad n p) = ReadNumber n

value-bad : (n p : ℕ) → ReadNumber n → ValueTold (commitment.Bad n p)
unfolding ValueTold
value-bad n p h = h

past_of_lem : (c : Commitment) → ValueTold c → FieldTold (past_of c)
unfolding past_of ValueTold
past_of_lem (commitment.Number v e) h = read
past_of_lem (commitment.Ill e) h = read
past_of_lem (commitment.Bad n p) h = unread h

module _ (s : List ℕ) where
  value-told : (at : ℕ) → ValueTold (value_at s at)
  unfolding value_at ValueTold
  value-told at =
      read_told ValueTold commitment.Bad value-bad (word-told s at) _ λ w e.
      cond-told ValueTold (eqb w (spelled "x")) (commitment.Ill e) _ tt
      (read_told ValueTold commitment.Bad value-bad (number-told s at most_value) commitment.Number λ v f. tt)

  past_told : (at : ℕ) → FieldTold (past_value_at s at)
  unfolding past_value_at
  past_told at = past_of_lem (value_at s at) (value-told at)

  pasts_told : (n at : ℕ) → FieldTold (past_values_at s n at)
  unfolding past_values_at
  pasts_told zero at = read
  pasts_told (suc n) at = read_told FieldTold Bad field-bad (past_told at) _ λ v e. pasts_told n e

-- ---- the first line

unfoldable pub PartTold : Part → Type 0
PartTold (part.Make p) = Unit {0}
PartTold part.MakeAll = Unit {0}
PartTold (part.Why p) = Unit {0}
PartTold (part.Check p e) = Unit {0}
PartTold (part.Play v e) = Unit {0}
PartTold (part.Bad n p) = ReadNumber n

part_bad : (n p : ℕ) → ReadNumber n → PartTold (part.Bad n p)
unfolding PartTold
part_bad n p h = h

module _ (s : List ℕ) where
  participant_told : (people at : ℕ) → FieldTold (participant_at s people at)
  unfolding participant_at
  participant_told people at =
      read_told FieldTold Bad field-bad (below-told s at people) _ λ p e.
      read_told FieldTold Bad field-bad (line-end-told s e) _ λ v f. read

  last_participant_told : (people at : ℕ) → FieldTold (last_participant_at s people at)
  unfolding last_participant_at
  last_participant_told people at =
      read_told FieldTold Bad field-bad (participant_told people at) _ λ p e.
      cond-told FieldTold (ltb e (length s)) (Bad 9 e) (Value p e) (unread (due 9 refl refl)) read

  make-told : (people at : ℕ) → PartTold (make_at s people at)
  unfolding make_at PartTold
  make-told people at = read_told PartTold part.Bad part_bad (last_participant_told people at) _ λ p e. tt

  make-all-told : (at : ℕ) → PartTold (make_all_at s at)
  unfolding make_all_at PartTold
  make-all-told at =
      read_told PartTold part.Bad part_bad (line-end-told s at) _ λ v e.
      cond-told PartTold (ltb e (length s)) (part.Bad 9 e) part.MakeAll (due 9 refl refl) tt

  why-told : (people at : ℕ) → PartTold (why_at s people at)
  unfolding why_at PartTold
  why-told people at = read_told PartTold part.Bad part_bad (last_participant_told people at) _ λ p e. tt

  check-told : (people at : ℕ) → PartTold (check_at s people at)
  unfolding check_at PartTold
  check-told people at = read_told PartTold part.Bad part_bad (participant_told people at) part.Check λ p e. tt

  play-told : (secrets at : ℕ) → PartTold (play_at s secrets at)
  unfolding play_at PartTold
  play-told secrets at =
      read_told PartTold part.Bad part_bad (pasts_told s secrets at) _ λ v e.
      read_told PartTold part.Bad part_bad (line-end-told s e) _ λ v f. tt

  pub part_told : (people secrets at : ℕ) → PartTold (last_part_at s people secrets at)
  unfolding last_part_at
  part_told people secrets at =
      read_told PartTold part.Bad part_bad (first-told s at) _ λ w e.
      cond-told PartTold (eqb w (spelled "make")) (make_at s people e) _ (make-told people e)
      (cond-told PartTold (eqb w (spelled "makeall")) (make_all_at s e) _ (make-all-told e)
      (cond-told PartTold (eqb w (spelled "why")) (why_at s people e) _ (why-told people e)
      (cond-told PartTold (eqb w (spelled "check")) (check_at s people e) _ (check-told people e)
      (cond-told PartTold (eqb w (spelled "play")) (play_at s secrets e) (part.Bad 3 at) (play-told secrets e)
      (part_bad 3 at (due 3 refl refl))))))

-- ---- rows

unfoldable RowTold : RowLine → Type 0
RowTold (line.Row n b k e) = Unit {0}
RowTold (line.Bad n p) = ReadNumber n

row-bad : (n p : ℕ) → ReadNumber n → RowTold (line.Bad n p)
unfolding RowTold
row-bad n p h = h

abbrev RowsTold : Rows → Type 0
RowsTold w = FieldTold w.answer

no_room-told : (s : List ℕ) (at : ℕ) → FieldTold (no_room_at s at)
unfolding no_room_at
no_room-told s at =
    read_told FieldTold Bad field-bad (first-told s at) _ λ w e.
    cond-told FieldTold (eqb w (spelled "row")) (Bad 7 at) (Bad 3 at) (unread (due 7 refl refl)) (unread (due 3 refl refl))

with_line_lem : (xs : List Row) (go : List Row → ℕ → Rows) (l : RowLine) → RowTold l → ((ys : List Row) (e : ℕ) → RowsTold (go ys e)) → RowsTold (with_line xs go l)
unfolding with_line RowTold
with_line_lem xs go (line.Row n b k e) h f = f (xs ++ (row n b k ∷ [])) e
with_line_lem xs go (line.Bad n p) h f = unread h

module _ (s : List ℕ) (counts : ℕ → ℕ) (nodes : ℕ) where
  numbers-told : (at : ℕ) → RowTold (row_numbers_at s counts nodes at)
  unfolding row_numbers_at RowTold
  numbers-told at =
      read_told RowTold line.Bad row-bad (below-told s at nodes) _ λ n e.
      read_told RowTold line.Bad row-bad (below-told s e (counts n)) _ λ b f.
      read_told RowTold line.Bad row-bad (between-told s f 1 most_rank) _ λ k q.
      read_told RowTold line.Bad row-bad (line-end-told s q) _ λ v z. tt

  row_told : (at : ℕ) → RowTold (row_at s counts nodes at)
  unfolding row_at
  row_told at =
      read_told RowTold line.Bad row-bad (first-told s at) _ λ w e.
      cond-told RowTold (eqb w (spelled "row")) (row_numbers_at s counts nodes e) (line.Bad 3 at) (numbers-told e) (row-bad 3 at (due 3 refl refl))

  rows_from_lem : (left : ℕ) (xs : List Row) (at : ℕ) → RowsTold (rows_from s counts nodes left xs at)
  unfolding rows_from
  rows_from_lem zero xs at = cond-told RowsTold (ltb at (length s)) (rows_with xs (no_room_at s at)) (rows_with xs (Value (length xs) at)) (no_room-told s at) read
  rows_from_lem (suc left) xs at =
      cond-told RowsTold (ltb at (length s)) (with_line xs (rows_from s counts nodes left) (row_at s counts nodes at)) (rows_with xs (Value (length xs) at))
      (with_line_lem xs (rows_from s counts nodes left) (row_at s counts nodes at) (row_told at) (rows_from_lem left)) read

  pub rows_told : (at : ℕ) → FieldTold (rows_at s counts nodes at).answer
  unfolding rows_at
  rows_told at = rows_from_lem most_rows [] at

-- ---- events

unfoldable PairTold : Pair → Type 0
PairTold (pair.Two a b e) = Unit {0}
PairTold (pair.Bad n p) = ReadNumber n

pair_bad : (n p : ℕ) → ReadNumber n → PairTold (pair.Bad n p)
unfolding PairTold
pair_bad n p h = h

-- what follows two fields
after-told : {A : Type 0} (Q : A → Type 0) (told : ℕ → ℕ → A) → ((n p : ℕ) → ReadNumber n → Q (told n p))
    → (g : Pair) → PairTold g → (go : ℕ → ℕ → ℕ → A) → ((a b e : ℕ) → Q (go a b e)) → Q (after_pair told g go)
unfolding after_pair PairTold
after-told Q told b (pair.Two x y e) h go k = k x y e
after-told Q told b (pair.Bad n p) h go k = b n p h

unfoldable EventTold : Event → Type 0
EventTold (event.Wait d e) = Unit {0}
EventTold (event.Sign p c b e) = Unit {0}
EventTold (event.Tell i j e) = Unit {0}
EventTold (event.Fire c b e) = Unit {0}
EventTold (event.Renew c b f n e) = Unit {0}
EventTold (event.Bad n p) = ReadNumber n

event_bad : (n p : ℕ) → ReadNumber n → EventTold (event.Bad n p)
unfolding EventTold
event_bad n p h = h

next-told : (x : Event) → EventTold x → FieldTold (next_of x)
unfolding next_of EventTold
next-told (event.Wait d e) h = read
next-told (event.Sign p c b e) h = read
next-told (event.Tell i j e) h = read
next-told (event.Fire c b e) h = read
next-told (event.Renew c b f n e) h = read
next-told (event.Bad n p) h = unread h

module _ (s : List ℕ) where
  pair_told : (at : ℕ) → PairTold (pair_at s at)
  unfolding pair_at PairTold
  pair_told at =
      read_told PairTold pair.Bad pair_bad (number-told s at most_field) _ λ a e.
      read_told PairTold pair.Bad pair_bad (number-told s e most_field) _ λ b f. tt

  last_pair_told : (at : ℕ) → PairTold (last_pair_at s at)
  unfolding last_pair_at PairTold
  last_pair_told at =
      after-told PairTold pair.Bad pair_bad (pair_at s at) (pair_told at) _ λ a b e.
      read_told PairTold pair.Bad pair_bad (line-end-told s e) _ λ v f. tt

  wait-told : (at : ℕ) → EventTold (wait_at s at)
  unfolding wait_at EventTold
  wait-told at =
      read_told EventTold event.Bad event_bad (between-told s at 1 most_wait) _ λ d e.
      read_told EventTold event.Bad event_bad (line-end-told s e) _ λ v f. tt

  sign-told : (people at : ℕ) → EventTold (sign_at s people at)
  unfolding sign_at EventTold
  sign-told people at =
      read_told EventTold event.Bad event_bad (below-told s at people) _ λ p e.
      after-told EventTold event.Bad event_bad (last_pair_at s e) (last_pair_told e) _ λ c b f. tt

  tell-told : (at : ℕ) → EventTold (tell_at s at)
  unfolding tell_at EventTold
  tell-told at = after-told EventTold event.Bad event_bad (last_pair_at s at) (last_pair_told at) event.Tell λ i j e. tt

  fire-told : (at : ℕ) → EventTold (fire_at s at)
  unfolding fire_at EventTold
  fire-told at = after-told EventTold event.Bad event_bad (last_pair_at s at) (last_pair_told at) event.Fire λ c b e. tt

  values_from_lem : (left n at : ℕ) → FieldTold (values_from s left n at)
  unfolding values_from
  values_from_lem zero n at = read
  values_from_lem (suc left) n at =
      cond-told FieldTold (ltb at (length s) && eqb (get_or s at 0) comma) _ (Value n at)
      (read_told FieldTold Bad field-bad (past_told s at) _ λ v e. values_from_lem left (n + 1) e)
      read

  renew-told : (at : ℕ) → EventTold (renew_at s at)
  unfolding renew_at values_at EventTold
  renew-told at =
      after-told EventTold event.Bad event_bad (pair_at s at) (pair_told at) _ λ c b e.
      read_told EventTold event.Bad event_bad (values_from_lem most_values 0 e) _ λ n f.
      read_told EventTold event.Bad event_bad (line-end-told s f) _ λ v z. tt

  event_told : (people at : ℕ) → EventTold (event_at s people at)
  unfolding event_at
  event_told people at =
      read_told EventTold event.Bad event_bad (first-told s at) _ λ w e.
      cond-told EventTold (eqb w (spelled "wait")) (wait_at s e) _ (wait-told e)
      (cond-told EventTold (eqb w (spelled "sign")) (sign_at s people e) _ (sign-told people e)
      (cond-told EventTold (eqb w (spelled "tell")) (tell_at s e) _ (tell-told e)
      (cond-told EventTold (eqb w (spelled "fire")) (fire_at s e) _ (fire-told e)
      (cond-told EventTold (eqb w (spelled "renew")) (renew_at s e) (event.Bad 3 at) (renew-told e)
      (event_bad 3 at (due 3 refl refl))))))

unfoldable pub LinesTold : Lines → Type 0
LinesTold lines.Good = Unit {0}
LinesTold (lines.Bad n p) = ReadNumber n

lines-bad : (n p : ℕ) → ReadNumber n → LinesTold (lines.Bad n p)
unfolding LinesTold
lines-bad n p h = h

lines_from : (s : List ℕ) (people n at : ℕ) → LinesTold (events_from s people n at)
unfolding events_from LinesTold
lines_from s people zero at = tt
lines_from s people (suc n) at =
    cond-told LinesTold (ltb at (length s)) _ lines.Good
    (read_told LinesTold lines.Bad lines-bad (next-told (event_at s people at) (event_told s people at)) _ λ v e. lines_from s people n e)
    tt

pub lines-told : (s : List ℕ) (people at : ℕ) → LinesTold (events_at s people at)
unfolding events_at
lines-told s people at = lines_from s people (length s - at) at
