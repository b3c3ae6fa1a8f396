-- The last part's first line, and the values of secrets. A refusal is a number of document 01 and the position before its field.
use Rattle.std.specs.Prelude.{ℕ, zero, suc, cond, List, ltb, eqb, length}
use Rattle.fields.specs.Field.{spelled, when_read, number_at, below_at, word_at, first_at, line_end_at}
use Rattle.fields.specs.Field.{Got}
use Rattle.fields.specs.Field.{Value, Bad}
use Rattle.requests.specs.Commitment.{Commitment}
use Rattle.requests.specs.LastPart.{Part}
use Rattle.requests.specs.LastPart as part
use Rattle.requests.specs.Commitment as commitment

-- ---- values of secrets

abbrev pub most_value : ℕ
most_value = 1_000_000_000

-- "a value for each secret (0 to 1,000,000,000, or `x`, an ill-formed commitment)"
unfoldable pub value_at : List ℕ → ℕ → Commitment
value_at s at =
    when_read commitment.Bad (word_at s at) λ w e.
    cond (eqb w (spelled "x")) (commitment.Ill e)
    (when_read commitment.Bad (number_at s at most_value) commitment.Number)

-- the position after it
unfoldable pub past_of : Commitment → Got
past_of (commitment.Number v e) = Value 0 e
past_of (commitment.Ill e) = Value 0 e
past_of (commitment.Bad n p) = Bad n p

unfoldable pub past_value_at : List ℕ → ℕ → Got
past_value_at s at = past_of (value_at s at)

-- the position after n of them
unfoldable pub past_values_at : List ℕ → ℕ → ℕ → Got
past_values_at s zero at = Value 0 at
past_values_at s (suc n) at = when_read Bad (past_value_at s at) λ v e. past_values_at s n e

-- ---- "Then one last part: `make`,P; or `check`,P and [..] lines `row` [..]; or `play` with a value for each secret of definition 0 [..] and event lines."
-- And `makeall`, of "All parties in a single call", and `why`,P, of "Telling the drafter why"

-- P, and the position after the line
unfoldable pub participant_at : List ℕ → ℕ → ℕ → Got
participant_at s people at =
    when_read Bad (below_at s at people) λ p e.
    when_read Bad (line_end_at s e) λ v f. Value p f

-- and no line follows: "a field too many, or a line (at its field 1)"
unfoldable pub last_participant_at : List ℕ → ℕ → ℕ → Got
last_participant_at s people at =
    when_read Bad (participant_at s people at) λ p e.
    cond (ltb e (length s)) (Bad 9 e) (Value p e)

unfoldable pub make_at : List ℕ → ℕ → ℕ → Part
make_at s people at = when_read part.Bad (last_participant_at s people at) λ p e. part.Make p

-- "`makeall` takes no field after the word", nor does a line follow
unfoldable pub make_all_at : List ℕ → ℕ → Part
make_all_at s at =
    when_read part.Bad (line_end_at s at) λ v e.
    cond (ltb e (length s)) (part.Bad 9 e) part.MakeAll

unfoldable pub why_at : List ℕ → ℕ → ℕ → Part
why_at s people at = when_read part.Bad (last_participant_at s people at) λ p e. part.Why p

unfoldable pub check_at : List ℕ → ℕ → ℕ → Part
check_at s people at = when_read part.Bad (participant_at s people at) part.Check

unfoldable pub play_at : List ℕ → ℕ → ℕ → Part
play_at s secrets at =
    when_read part.Bad (past_values_at s secrets at) λ v e.
    when_read part.Bad (line_end_at s e) λ v f. part.Play at f

unfoldable pub last_part_at : List ℕ → ℕ → ℕ → ℕ → Part
last_part_at s people secrets at =
    when_read part.Bad (first_at s at) λ w e.
    cond (eqb w (spelled "make")) (make_at s people e)
    (cond (eqb w (spelled "makeall")) (make_all_at s e)
    (cond (eqb w (spelled "why")) (why_at s people e)
    (cond (eqb w (spelled "check")) (check_at s people e)
    (cond (eqb w (spelled "play")) (play_at s secrets e)
    (part.Bad 3 at)))))
