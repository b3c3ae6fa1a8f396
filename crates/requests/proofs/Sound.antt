-- What is known of a last part that was read: its participant, where its lines go on, and that its rows fit.
use Prim.Native.Nat.{ℕ, zero, suc, ◌+◌, ◌-◌, ◌<◌, ◌≤◌}
use mathlib.Core.List.{List, [], ◌∷◌, ◌++◌}
use mathlib.Core.Logic.{by_cases}
use mathlib.Core.Path.{◌≡◌, refl}
use native.Mathlib.Decide.{dec_le}
use native.Mathlib.Omega.{arith}
use lib.Dec.{ltb, eqb}
use lib.ListN.{length, get_or, length-append, get_or-append}
use lib.Seq.{get_or_at}
use Rattle.fields.proofs.Ranges.{when_read-cases, cond_cases, never, below_end, between-end, line-end-next}
use Rattle.fields.specs.Field.{spelled, below_at, between_at, first_at, line_end_at}
use Rattle.fields.specs.Field.{Value, Bad}
use Rattle.requests.proofs.Laws.{past_end}
use Rattle.requests.specs.Part.{participant_at, last_participant_at, past_value_at, past_values_at, make_at, make_all_at, why_at, check_at, play_at, last_part_at}
use Rattle.bitml.specs.Rows.{Row}
use Rattle.buffer.specs.Buffer.{row}
use Rattle.requests.specs.Rows.{most_rank, most_rows, RowFits, Rows, rows_with, row_numbers_at, row_at, no_room_at, with_line, rows_from, rows_at}
use Rattle.requests.specs.LastPart.{Part}
use Rattle.requests.specs.RowLine.{RowLine}
use Rattle.requests.specs.LastPart as part
use Rattle.requests.specs.RowLine as line

-- ---- the last part's first line

-- the participant is one of them, the values of secrets are there up to the LF, and the lines go on within the request
unfoldable pub PartSound : List ℕ → ℕ → ℕ → Part → Type 0
PartSound s people secrets (part.Make p) = p < people
PartSound s people secrets part.MakeAll = Unit {0}
PartSound s people secrets (part.Why p) = p < people
PartSound s people secrets (part.Check p e) = (p < people) × (e ≤ length s)
PartSound s people secrets (part.Play f e) = (past_values_at s secrets f ≡ Value 0 (e - 1)) × (f < e) × (e ≤ length s)
PartSound s people secrets (part.Bad n p) = Unit {0}

participant_end : (s : List ℕ) (people at p q : ℕ) → participant_at s people at ≡ Value p q → (p < people) × (q ≤ length s)
unfolding participant_at
participant_end s people at p q =
    when_read-cases (λ r. r ≡ Value p q → (p < people) × (q ≤ length s)) Bad (below_at s at people) _ (λ m o h. never m o p q h) λ w e g.
    when_read-cases (λ r. r ≡ Value p q → (p < people) × (q ≤ length s)) Bad (line_end_at s e) _ (λ m o h. never m o p q h) λ v f k h.
    let i : w ≡ p = cc in let j : f ≡ q = cc in
    let field = below_end s at people w e g in
    let end = line-end-next s e v f k in
    (omega arith, omega arith)

last_participant_end : (s : List ℕ) (people at p q : ℕ) → last_participant_at s people at ≡ Value p q → p < people
unfolding last_participant_at
last_participant_end s people at p q =
    when_read-cases (λ r. r ≡ Value p q → p < people) Bad (participant_at s people at) _ (λ m o h. never m o p q h) λ w e g.
    cond_cases (λ r. r ≡ Value p q → p < people) (ltb e (length s)) (Bad 9 e) (Value w e) (λ t h. never 9 e p q h) λ t h.
    let i : w ≡ p = cc in
    let field = participant_end s people at w e g in
    omega arith

values-ahead : (s : List ℕ) (n at v q : ℕ) → past_values_at s n at ≡ Value v q → (v ≡ 0) × (at ≤ q)
unfolding past_values_at
values-ahead s zero at v q = λ h. let i : 0 ≡ v = cc in let j : at ≡ q = cc in (omega arith, omega arith)
values-ahead s (suc n) at v q =
    when_read-cases (λ r. r ≡ Value v q → (v ≡ 0) × (at ≤ q)) Bad (past_value_at s at) _ (λ m o h. never m o v q h) λ w e g h.
    let one = past_end s at w e g in
    let rest = values-ahead s n e v q h in
    (rest.0, omega arith)

module _ (s : List ℕ) (people secrets : ℕ) where
  bad : (n q : ℕ) → PartSound s people secrets (part.Bad n q)
  unfolding PartSound
  bad n q = tt

  make-sound : (e : ℕ) → PartSound s people secrets (make_at s people e)
  unfolding make_at PartSound
  make-sound e = when_read-cases (PartSound s people secrets) part.Bad (last_participant_at s people e) _ bad λ p f g. last_participant_end s people e p f g

  make-all-sound : (e : ℕ) → PartSound s people secrets (make_all_at s e)
  unfolding make_all_at PartSound
  make-all-sound e =
      when_read-cases (PartSound s people secrets) part.Bad (line_end_at s e) _ bad λ v f g.
      cond_cases (PartSound s people secrets) (ltb f (length s)) (part.Bad 9 f) part.MakeAll (λ t. bad 9 f) (λ t. tt)

  why-sound : (e : ℕ) → PartSound s people secrets (why_at s people e)
  unfolding why_at PartSound
  why-sound e = when_read-cases (PartSound s people secrets) part.Bad (last_participant_at s people e) _ bad λ p f g. last_participant_end s people e p f g

  check_sound : (e : ℕ) → PartSound s people secrets (check_at s people e)
  unfolding check_at PartSound
  check_sound e = when_read-cases (PartSound s people secrets) part.Bad (participant_at s people e) _ bad λ p f g. participant_end s people e p f g

  play-sound : (e : ℕ) → PartSound s people secrets (play_at s secrets e)
  unfolding play_at PartSound
  play-sound e =
      when_read-cases (PartSound s people secrets) part.Bad (past_values_at s secrets e) _ bad λ v f g.
      when_read-cases (PartSound s people secrets) part.Bad (line_end_at s f) _ bad λ w z h.
      let values = values-ahead s secrets e v f g in
      let end = line-end-next s f w z h in
      (let k : z - 1 ≡ f = omega arith in rw (g, k, values.0), omega arith, omega arith)

  pub part_sound : (at : ℕ) → PartSound s people secrets (last_part_at s people secrets at)
  unfolding last_part_at
  part_sound at =
      when_read-cases (PartSound s people secrets) part.Bad (first_at s at) _ bad λ w e g.
      cond_cases (PartSound s people secrets) (eqb w (spelled "make")) (make_at s people e) _ (λ t. make-sound e) λ t.
      cond_cases (PartSound s people secrets) (eqb w (spelled "makeall")) (make_all_at s e) _ (λ t. make-all-sound e) λ t.
      cond_cases (PartSound s people secrets) (eqb w (spelled "why")) (why_at s people e) _ (λ t. why-sound e) λ t.
      cond_cases (PartSound s people secrets) (eqb w (spelled "check")) (check_at s people e) _ (λ t. check_sound e) λ t.
      cond_cases (PartSound s people secrets) (eqb w (spelled "play")) (play_at s secrets e) (part.Bad 3 at) (λ t. play-sound e) λ t.
      bad 3 at

-- ---- rows

module _ (counts : ℕ → ℕ) (nodes : ℕ) where
  unfoldable LineSound : RowLine → Type 0
  LineSound (line.Row n b k e) = RowFits counts nodes (row n b k)
  LineSound (line.Bad n p) = Unit {0}

  Fit : List Row → Type 0
  Fit xs = (i : ℕ) → i < length xs → RowFits counts nodes (get_or xs i (row 0 0 0))

-- what was read fits, is no more than there was room for, and is counted
record RowsSound (counts : ℕ → ℕ) (nodes room : ℕ) (w : Rows) : Type 0 where
  fit : Fit counts nodes w.rows
  few : length w.rows ≤ room
  counted : (n e : ℕ) → w.answer ≡ Value n e → n ≡ length w.rows

module _ (s : List ℕ) (counts : ℕ → ℕ) (nodes : ℕ) where
  line-sound : (at : ℕ) → LineSound counts nodes (row_at s counts nodes at)
  unfolding row_at row_numbers_at LineSound
  line-sound at =
      when_read-cases (LineSound counts nodes) line.Bad (first_at s at) _ (λ m p. tt) λ w e g.
      cond_cases (LineSound counts nodes) (eqb w (spelled "row")) _ (line.Bad 3 at)
      (λ x. when_read-cases (LineSound counts nodes) line.Bad (below_at s e nodes) _ (λ m p. tt) λ n f h.
      when_read-cases (LineSound counts nodes) line.Bad (below_at s f (counts n)) _ (λ m p. tt) λ b q i.
      when_read-cases (LineSound counts nodes) line.Bad (between_at s q 1 most_rank) _ (λ m p. tt) λ k z j.
      when_read-cases (LineSound counts nodes) line.Bad (line_end_at s z) _ (λ m p. tt) λ v y l.
      let rank = between-end s q 1 most_rank k z j in
      record {
        has-node = (below_end s e nodes n f h).0;
        has-branch = (below_end s f (counts n) b q i).0;
        has-rank = rank.0;
        rank_most = rank.1;
      })
      (λ x. tt)

  fit-more : (xs : List Row) (r : Row) → Fit counts nodes xs → RowFits counts nodes r → Fit counts nodes (xs ++ (r ∷ []))
  unfolding Fit
  fit-more xs r h k i l =
      by_cases (dec_le (length xs) i)
      (λ o. let e : i ≡ length xs = omega (arith, simp length-append at l) in rw (e, get_or_at xs r [] (row 0 0 0) (length xs) refl) k)
      (λ o. let j : i < length xs = omega arith in rw (get_or-append xs (r ∷ []) (row 0 0 0) i j) (h i j))

  ended : (xs : List Row) (at room : ℕ) → Fit counts nodes xs → length xs ≤ room → RowsSound counts nodes room (rows_with xs (Value (length xs) at))
  ended xs at room h l = record { fit = h; few = l; counted = λ n e z. cc }

  full : {Q : Type 0} (at n e : ℕ) → no_room_at s at ≡ Value n e → Q
  unfolding no_room_at
  full {Q} at n e =
      when_read-cases (λ r. r ≡ Value n e → Q) Bad (first_at s at) _ (λ m p h. never m p n e h) λ w f g.
      cond_cases (λ r. r ≡ Value n e → Q) (eqb w (spelled "row")) (Bad 7 at) (Bad 3 at) (λ b h. never 7 at n e h) (λ b h. never 3 at n e h)

  line_on : (xs : List Row) (left : ℕ) (go : List Row → ℕ → Rows) (l : RowLine) → LineSound counts nodes l → Fit counts nodes xs
      → ((ys : List Row) (e : ℕ) → Fit counts nodes ys → RowsSound counts nodes (length ys + left) (go ys e))
      → RowsSound counts nodes (length xs + suc left) (with_line xs go l)
  unfolding with_line LineSound
  line_on xs left go (line.Row n b k e) f h more =
      let w = more (xs ++ (row n b k ∷ [])) e (fit-more xs (row n b k) h f) in
      record { fit = w.fit; few = omega (arith, w.few, length-append xs (row n b k ∷ [])); counted = w.counted }
  line_on xs left go (line.Bad m p) f h more = record { fit = h; few = omega arith; counted = λ n e z. never m p n e z }

  rows-sound : (left : ℕ) (xs : List Row) (at : ℕ) → Fit counts nodes xs → RowsSound counts nodes (length xs + left) (rows_from s counts nodes left xs at)
  unfolding rows_from
  rows-sound zero xs at h =
      cond_cases (RowsSound counts nodes (length xs + 0)) (ltb at (length s)) _ _
      (λ b. record { fit = h; few = omega arith; counted = λ n e z. full at n e z })
      (λ b. ended xs at (length xs + 0) h (omega arith))
  rows-sound (suc left) xs at h =
      cond_cases (RowsSound counts nodes (length xs + suc left)) (ltb at (length s)) _ _
      (λ b. line_on xs left (rows_from s counts nodes left) (row_at s counts nodes at) (line-sound at) h (rows-sound left))
      (λ b. ended xs at (length xs + suc left) h (omega arith))

-- the rows that were read are those that document 01 allows
pub rows_fit : (s : List ℕ) (counts : ℕ → ℕ) (nodes from : ℕ)
    → (length (rows_at s counts nodes from).rows ≤ most_rows)
    × ((i : ℕ) → i < length (rows_at s counts nodes from).rows → RowFits counts nodes (get_or (rows_at s counts nodes from).rows i (row 0 0 0)))
unfolding rows_at Fit
rows_fit s counts nodes from =
    let w = rows-sound s counts nodes most_rows [] from (λ i l. absurd (omega arith)) in
    (omega (arith, w.few), w.fit)

-- the count that was answered is that of the rows
pub rows-count : (s : List ℕ) (counts : ℕ → ℕ) (nodes from n e : ℕ) → (rows_at s counts nodes from).answer ≡ Value n e → n ≡ length (rows_at s counts nodes from).rows
unfolding rows_at Fit
rows-count s counts nodes from n e h = (rows-sound s counts nodes most_rows [] from (λ i l. absurd (omega arith))).counted n e h
