-- What is claimed of tables, for every text and every table: of reading into one and of writing from one. Assumes nothing.
use Rattle.std.specs.Prelude.{ℕ, ◌≤◌, ◌<◌, ◌≡◌, ◌↔◌, List, length}
use Rattle.tables.specs.Entries.{Entries, held, people, table_long}
use Rattle.lines.specs.Sheet.{accepted, read_sheet}
use Rattle.loading.specs.Table.{table_of}
use Rattle.loading.specs.Loading.{loaded, loading}
use Rattle.writing.specs.Back.{Text}
use Rattle.saving.specs.Saving.{saved, refused, saving}

pub record OfTables : Type 0 where
  -- "writing what the reader accepted gives those same bytes": from the table that they were read into, into any buffer that they fit
  pub write-after-read : (s : List ℕ) → Text s → (n K : ℕ) (E : Entries) → loading s n ≡ loaded K E
      → (m : ℕ) → length s ≤ m → saving (table_of n K E) m ≡ saved s
  -- "Reading what the writer made gives that sheet": into any table that is long enough
  pub read-after-write : (t s : List ℕ) (m : ℕ) → saving t m ≡ saved s → (n : ℕ) → table_long ≤ n → loading s n ≡ loaded (people t) (held t)
  -- "A sheet that reading no text gives is refused first, as 3", whatever the buffer; fewer cells than a table has hold none
  pub refused_exactly : (t : List ℕ) (m : ℕ)
      → (saving t m ≡ refused 3) ↔ (table_long ≤ length t → (s : List ℕ) → Text s → (at : ℕ) → read_sheet s ≡ accepted (people t) at (held t) → ⊥)
  -- "20 .. when the buffer is too short" for the text that reads to it
  pub short_exactly : (t : List ℕ) (m : ℕ)
      → (saving t m ≡ refused 20) ↔ ((s : List ℕ) × (table_long ≤ length t) × Text s × (read_sheet s ≡ accepted (people t) (length s) (held t)) × (m < length s))
