-- "Reading what the writer made gives that sheet", and "A sheet that reading no text gives is refused": which sheets are written. Assumes nothing.
use Rattle.std.specs.Prelude.{ℕ, Bool, true, false, cond, List, [], ◌∷◌, length, eqb}
use Rattle.std.proofs.Math.Option.{Option, some, none}
use Rattle.bitml.specs.Lists.{◌&◌}
use Rattle.tables.specs.Entries.{NodeEntry, BranchEntry, DefEntry, Entries}
use Rattle.lines.specs.Sheet.{SheetRead, accepted, refused, read_sheet}
use Rattle.writing.specs.Written.{sheet_text}

-- ---- the same entries, number by number

unfoldable pub same_all : {A : Type 0} → (A → A → Bool) → List A → List A → Bool
same_all same [] [] = true
same_all same [] (y ∷ ys) = false
same_all same (x ∷ xs) [] = false
same_all same (x ∷ xs) (y ∷ ys) = same x y & same_all same xs ys

unfoldable pub same_node : NodeEntry → NodeEntry → Bool
same_node a b = eqb a.definition b.definition & eqb a.parent b.parent & eqb a.weight b.weight & eqb a.count b.count

unfoldable pub same_branch : BranchEntry → BranchEntry → Bool
same_branch a b =
    eqb a.node b.node & eqb a.signers b.signers & eqb a.opens b.opens & eqb a.kind b.kind
    & eqb a.arg b.arg & eqb a.first b.first & eqb a.count b.count & eqb a.cond b.cond

unfoldable pub same_def : DefEntry → DefEntry → Bool
same_def a b = eqb a.root b.root & eqb a.first b.first & eqb a.secrets b.secrets

unfoldable pub same_entries : Entries → Entries → Bool
same_entries E F =
    same_all same_node E.nodes F.nodes & same_all same_branch E.branches F.branches & same_all same_def E.defs F.defs
    & same_all eqb E.listed F.listed & same_all eqb E.cells F.cells

-- ---- what is written

-- A text of n bytes was read to K and E, and nothing stands behind them
unfoldable pub read_as : ℕ → ℕ → Entries → SheetRead → Bool
read_as n K E (accepted k at F) = eqb k K & eqb at n & same_entries F E
read_as n K E (refused m p) = false

unfoldable pub writable : ℕ → Entries → Bool
writable K E = read_as (length (sheet_text K E)) K E (read_sheet (sheet_text K E))

-- The text, where it reads to that sheet
unfoldable pub written : ℕ → Entries → Option (List ℕ)
written K E = cond (writable K E) (some (sheet_text K E)) none
