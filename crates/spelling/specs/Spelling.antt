-- What is claimed of texts and the sheets that they are read as. Assumes nothing.
use Rattle.std.specs.Prelude.{ℕ, ◌≡◌, List, take}
use Rattle.bitml.specs.Sheet.{Sheet}
use Rattle.tables.specs.Entries.{Entries}
use Rattle.tables.specs.SheetOf.{sheet_of}
use Rattle.lines.specs.Sheet.{accepted, read_sheet}
use Rattle.writing.specs.Back.{Text}
use Rattle.spelling.specs.Spelled.{spell_sheet}
use Rattle.spelling.specs.Legible.{Legible}

-- The sheet that is judged is the one that its text spells
pub record OfSpelling : Type 0 where
  -- Every accepted text is, byte for byte, the text of the sheet that it is read as
  pub spells : (s : List ℕ) → Text s → (K at : ℕ) (E : Entries) → read_sheet s ≡ accepted K at E → take at s ≡ spell_sheet (sheet_of K E)
  -- which its text tells: "numbered over the whole sheet in order of appearance"
  pub legible : (s : List ℕ) → Text s → (K at : ℕ) (E : Entries) → read_sheet s ≡ accepted K at E → Legible (sheet_of K E)
  -- Two such sheets that differ have different texts
  pub one-sheet : (S T : Sheet) → Legible S → Legible T → spell_sheet S ≡ spell_sheet T → S ≡ T
  -- So no other of them has the text that was read
  pub only : (s : List ℕ) → Text s → (K at : ℕ) (E : Entries) → read_sheet s ≡ accepted K at E
      → (S : Sheet) → Legible S → take at s ≡ spell_sheet S → S ≡ sheet_of K E
