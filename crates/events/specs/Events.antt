-- The event lines of `play`. A refusal is a number of document 01 and the position before its field.
use Rattle.std.specs.Prelude.{ℕ, zero, suc, ◌+◌, ◌-◌, List, cond, ◌&&◌, length, get_or, ltb, eqb}
use Rattle.fields.specs.Field.{Got}
use Rattle.fields.specs.Field.{Value, Bad}
use Rattle.fields.specs.Field.{comma, spelled, when_read, number_at, below_at, between_at, first_at, line_end_at}
use Rattle.requests.specs.Part.{past_value_at}
use Rattle.events.specs.Event.{Event}
use Rattle.events.specs.Event as event
use Rattle.events.specs.Pair.{Pair}
use Rattle.events.specs.Pair as pair
use Rattle.events.specs.Lines.{Lines}
use Rattle.events.specs.Lines as lines

abbrev pub most_wait : ℕ
most_wait = 4_294_967_295

abbrev pub most_field : ℕ
most_field = 65_535

abbrev pub most_values : ℕ
most_values = 8

-- ---- two fields

-- "Fields c, b, i, j are at most 65,535."
unfoldable pub pair_at : List ℕ → ℕ → Pair
pair_at s at =
    when_read pair.Bad (number_at s at most_field) λ a e.
    when_read pair.Bad (number_at s e most_field) λ b f. pair.Two a b f

-- goes on with both and the position after them; a refusal is told by `bad`
unfoldable pub after_pair : {A : Type 0} → (ℕ → ℕ → A) → Pair → (ℕ → ℕ → ℕ → A) → A
after_pair bad (pair.Two a b e) go = go a b e
after_pair bad (pair.Bad n p) go = bad n p

-- with the line's end after them
unfoldable pub last_pair_at : List ℕ → ℕ → Pair
last_pair_at s at =
    after_pair pair.Bad (pair_at s at) λ a b e.
    when_read pair.Bad (line_end_at s e) λ v f. pair.Two a b f

-- ---- the lines, each after its word

-- "`wait`,d (1 to 4,294,967,295)"
unfoldable pub wait_at : List ℕ → ℕ → Event
wait_at s at =
    when_read event.Bad (between_at s at 1 most_wait) λ d e.
    when_read event.Bad (line_end_at s e) λ v f. event.Wait d f

-- "`sign`,p,c,b"; "(while reading; in event lines only the p of `sign`)" gets 6
unfoldable pub sign_at : List ℕ → ℕ → ℕ → Event
sign_at s people at =
    when_read event.Bad (below_at s at people) λ p e.
    after_pair event.Bad (last_pair_at s e) λ c b f. event.Sign p c b f

-- "`tell`,i,j"
unfoldable pub tell_at : List ℕ → ℕ → Event
tell_at s at = after_pair event.Bad (last_pair_at s at) event.Tell

-- "`fire`,c,b"
unfoldable pub fire_at : List ℕ → ℕ → Event
fire_at s at = after_pair event.Bad (last_pair_at s at) event.Fire

-- after so many values, how many there are with up to so many more, and the position after them
unfoldable pub values_from : List ℕ → ℕ → ℕ → ℕ → Got
values_from s zero n at = Value n at
values_from s (suc left) n at =
    cond (ltb at (length s) && eqb (get_or s at 0) comma) (when_read Bad (past_value_at s at) λ v e. values_from s left (n + 1) e) (Value n at)

-- "up to 8 values"
unfoldable pub values_at : List ℕ → ℕ → Got
values_at s at = values_from s most_values 0 at

-- "`renew`,c,b, up to 8 values"
unfoldable pub renew_at : List ℕ → ℕ → Event
renew_at s at =
    after_pair event.Bad (pair_at s at) λ c b e.
    when_read event.Bad (values_at s e) λ n f.
    when_read event.Bad (line_end_at s f) λ v z. event.Renew c b e n z

-- an event line, whole
unfoldable pub event_at : List ℕ → ℕ → ℕ → Event
event_at s people at =
    when_read event.Bad (first_at s at) λ w e.
    cond (eqb w (spelled "wait")) (wait_at s e)
    (cond (eqb w (spelled "sign")) (sign_at s people e)
    (cond (eqb w (spelled "tell")) (tell_at s e)
    (cond (eqb w (spelled "fire")) (fire_at s e)
    (cond (eqb w (spelled "renew")) (renew_at s e)
    (event.Bad 3 at)))))

-- ---- all lines

-- the position after an event's line
unfoldable pub next_of : Event → Got
next_of (event.Wait d e) = Value 0 e
next_of (event.Sign p c b e) = Value 0 e
next_of (event.Tell i j e) = Value 0 e
next_of (event.Fire c b e) = Value 0 e
next_of (event.Renew c b f n e) = Value 0 e
next_of (event.Bad n p) = Bad n p

-- up to so many lines; a line takes a byte or more, so as many as there are bytes left are all
unfoldable pub events_from : List ℕ → ℕ → ℕ → ℕ → Lines
events_from s people zero at = lines.Good
events_from s people (suc n) at =
    cond (ltb at (length s)) (when_read lines.Bad (next_of (event_at s people at)) λ v e. events_from s people n e) lines.Good

-- "The reader goes field by field over the whole request before anything is judged": every event line from `at` to the end
unfoldable pub events_at : List ℕ → ℕ → ℕ → Lines
events_at s people at = events_from s people (length s - at) at
