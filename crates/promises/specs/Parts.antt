-- What is promised of the last part of a request that is read whole. Assumes nothing.
use Rattle.std.specs.Prelude.{◌≡◌, List, ℕ, ◌-◌, ◌≤◌, ◌<◌, length, get_or}
use Rattle.bitml.specs.Rows.{Row}
use Rattle.fields.specs.Field as got
use Rattle.tables.specs.Entries.{Entries}
use Rattle.tables.specs.SheetOf.{node_entry_at, def_entry_at}
use Rattle.buffer.specs.Buffer.{row}
use Rattle.requests.specs.Part.{past_values_at}
use Rattle.requests.specs.Rows.{RowFits, most_rows}
use Rattle.events.specs.Lines as lines
use Rattle.events.specs.Events.{events_at}
use Rattle.reading.specs.Request.{LastPart, make, make_all, why, check, play}

-- "up to 512 lines `row`,node,branch,rank (1 to 65,535)", of nodes and branches that there are
pub record RowsPromise (E : Entries) (R : List Row) : Type 0 where
  pub few : length R ≤ most_rows
  pub each : (i : ℕ) → i < length R → RowFits (λ n. (node_entry_at E n).count) (length E.nodes) (get_or R i (row 0 0 0))

-- "`play` with a value for each secret of definition 0 .. and event lines": from v on the values, and from e on the event lines
pub record PlayPromise (s : List ℕ) (K : ℕ) (E : Entries) (v e : ℕ) : Type 0 where
  pub values : past_values_at s (def_entry_at E 0).secrets v ≡ got.Value 0 (e - 1)
  pub ahead : v < e
  pub inside : e ≤ length s
  pub events : events_at s K e ≡ lines.Good

-- "one last part: `make`,P; or `check`,P ..; or `play` ..", and `why`,P: P is a participant
unfoldable pub PartPromise : List ℕ → ℕ → Entries → LastPart → Type 0
PartPromise s K E (make p) = p < K
PartPromise s K E make_all = Unit {0}
PartPromise s K E (why p) = p < K
PartPromise s K E (check p R) = (p < K) × RowsPromise E R
PartPromise s K E (play v e) = PlayPromise s K E v e
