-- How many numbers of its own the entry lends for the rows of a request, before it is read. Assumes nothing.
use Rattle.std.specs.Prelude.{◌≡◌, ℕ, ◌-◌, ◌≤◌, Bool, false, cond, List, length, eqb, ltb, leb}
use Rattle.bitml.specs.Lists.{◌&◌}
use Rattle.fields.specs.Field.{spelled, first_at}
use Rattle.fields.specs.Field.{Got}
use Rattle.fields.specs.Field.{Value, Bad}
use Rattle.tables.specs.Entries.{Entries}
use Rattle.buffer.specs.Buffer.{places_of_all, numbers_of_all}
use Rattle.reading.specs.Request.{request, make_all, read_request}

-- n numbers are enough for the request s with places for so many rows, if it is a `makeall`
unfoldable pub Wide : List ℕ → ℕ → ℕ → Type 0
Wide s rows n = (K : ℕ) (E : Entries) → read_request s ≡ request K E make_all → places_of_all ≤ rows → numbers_of_all ≤ n

-- the request ends in the line `makeall`, as one that is read so does
unfoldable pub names_all : Got → Bool
names_all (Value w e) = eqb w (spelled "makeall")
names_all (Bad n p) = false

unfoldable pub ends_in_all : List ℕ → Bool
ends_in_all s = cond (ltb (length s) 8) false (names_all (first_at s (length s - 8)))

-- and there are places for the rows of all
unfoldable pub wants_all : List ℕ → ℕ → Bool
wants_all s rows = leb places_of_all rows & ends_in_all s
