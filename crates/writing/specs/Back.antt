-- What is claimed of writing, for every text and all entries. Assumes nothing.
use Rattle.std.specs.Prelude.{ℕ, ◌<◌, ◌≡◌, ◌↔◌, List, length, get_or, take}
use Rattle.std.proofs.Math.Option.{some, none}
use Rattle.tables.specs.Entries.{Entries}
use Rattle.lines.specs.Sheet.{accepted, read_sheet}
use Rattle.writing.specs.Writable.{written}

-- A text is bytes
abbrev pub Text : List ℕ → Type 0
Text s = (i : ℕ) → get_or s i 0 < 256

pub record Back : Type 0 where
  -- "writing what the reader accepted gives those same bytes": of every request, up to the position after its last `def` line
  pub write-after-read : (s : List ℕ) → Text s → (K at : ℕ) (E : Entries) → read_sheet s ≡ accepted K at E → written K E ≡ some (take at s)
  -- "Reading what the writer made gives that sheet", and nothing stands behind it
  pub read-after-write : (K : ℕ) (E : Entries) (s : List ℕ) → written K E ≡ some s → read_sheet s ≡ accepted K (length s) E
  -- "A sheet that reading no text gives is refused", and no other is
  pub refused_exactly : (K : ℕ) (E : Entries) → (written K E ≡ none) ↔ ((s : List ℕ) → Text s → (at : ℕ) → read_sheet s ≡ accepted K at E → ⊥)
