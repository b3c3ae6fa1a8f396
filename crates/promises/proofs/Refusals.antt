-- A request that is not read whole is refused by 2 to 9, at a line and a field from 1. Assumes nothing.
use Prim.Native.Nat.{ℕ, ◌+◌, ◌≤◌}
use mathlib.Core.Path.{subst}
use native.Mathlib.Omega.{arith}
use mathlib.Core.List.{List, [], ◌∷◌}
use lib.ListN.{length, take}
use lib.Dec.{ltb, eqb}
use Rattle.bitml.specs.Rows.{Row}
use Rattle.fields.specs.Field.{comma, lf}
use Rattle.fields.specs.Field.{Got}
use Rattle.places.specs.declared.Place.{Place}
use Rattle.places.specs.Places.{step_of, walk, place_of}
use Rattle.tables.specs.Entries.{Entries}
use Rattle.tables.specs.SheetOf.{node_entry_at, def_entry_at}
use Rattle.lines.specs.Sheet.{SheetRead, accepted, read_sheet}
use Rattle.lines.specs.Sheet.{refused as unread}
use Rattle.requests.specs.LastPart.{Part}
use Rattle.requests.specs.LastPart as part
use Rattle.requests.specs.Part.{last_part_at}
use Rattle.events.specs.Lines.{Lines}
use Rattle.events.specs.Lines as lines
use Rattle.events.specs.Events.{events_at}
use Rattle.reading.specs.Request.{Reading, request, refused, refused_at, from_rows, from_lines, from_part, from_sheet, read_request}
use Rattle.promises.specs.Refusals.{ReadNumber, WhileReading, OfReadings}
use Rattle.promises.proofs.Told as told
use Rattle.promises.proofs.Told.{FieldTold, cond-told}
use Rattle.promises.proofs.ToldSheets.{SheetTold, sheet-told}
use Rattle.promises.proofs.ToldParts.{PartTold, part_told, rows_told, LinesTold, lines-told}

-- ---- lines and fields count from 1

record FromOne (p : Place) : Type 0 where
  line : 1 ≤ p.line
  field : 1 ≤ p.field

step_from : (b : ℕ) (p : Place) → FromOne p → FromOne (step_of b p)
unfolding step_of
step_from b p h =
    cond-told FromOne (eqb b lf) (record { line = p.line + 1; field = 1 }) _ (record { line = omega arith; field = omega arith })
    (cond-told FromOne (eqb b comma) _ _
    (cond-told FromOne (ltb p.field 2) (record { line = p.line; field = 3 }) (record { line = p.line; field = p.field + 1 })
    (record { line = h.line; field = omega arith }) (record { line = h.line; field = omega arith }))
    (cond-told FromOne (ltb p.field 2) (record { line = p.line; field = 2 }) p (record { line = h.line; field = omega arith }) h))

walk_from : (s : List ℕ) (p : Place) → FromOne p → FromOne (walk s p)
unfolding walk
walk_from [] p h = h
walk_from (b ∷ r) p h = walk_from r (step_of b p) (step_from b p h)

-- ---- the request

unfoldable ReadingTold : Reading → Type 0
ReadingTold (request K E l) = Unit {0}
ReadingTold (refused n l f) = WhileReading n l f

at_told : (s : List ℕ) (n p : ℕ) → ReadNumber n → ReadingTold (refused_at s n p)
unfolding refused_at place_of ReadingTold
at_told s n p h =
    let w = walk_from (take p s) (record { line = 1; field = 1 }) (record { line = omega arith; field = omega arith }) in
    record { number = h; line = w.line; field = w.field }

module _ (s : List ℕ) (K : ℕ) (E : Entries) where
  from_rows_lem : (p : ℕ) (R : List Row) {g : Got} → FieldTold g → ReadingTold (from_rows s K E p R g)
  unfolding from_rows ReadingTold
  from_rows_lem p R told.read = tt
  from_rows_lem p R (told.unread {n} {p = q} h) = at_told s n q h

  from_lines_lem : (v e : ℕ) (l : Lines) → LinesTold l → ReadingTold (from_lines s K E v e l)
  unfolding from_lines LinesTold ReadingTold
  from_lines_lem v e lines.Good h = tt
  from_lines_lem v e (lines.Bad n q) h = at_told s n q h

  from_part_lem : (o : Part) → PartTold o → ReadingTold (from_part s K E o)
  unfolding from_part PartTold ReadingTold
  from_part_lem (part.Make p) h = tt
  from_part_lem part.MakeAll h = tt
  from_part_lem (part.Why p) h = tt
  from_part_lem (part.Check p e) h = from_rows_lem p _ (rows_told s (λ n. (node_entry_at E n).count) (length E.nodes) e)
  from_part_lem (part.Play v e) h = from_lines_lem v e (events_at s K e) (lines-told s K e)
  from_part_lem (part.Bad n q) h = at_told s n q h

from_sheet_lem : (s : List ℕ) (w : SheetRead) → SheetTold w → ReadingTold (from_sheet s w)
unfolding from_sheet SheetTold
from_sheet_lem s (accepted K at E) h = from_part_lem s K E (last_part_at s K (def_entry_at E 0).secrets at) (part_told s K (def_entry_at E 0).secrets at)
from_sheet_lem s (unread n p) h = at_told s n p h

pub of_readings : OfReadings
unfolding OfReadings read_request ReadingTold
of_readings s n l f e = subst ReadingTold e (from_sheet_lem s (read_sheet s) (sheet-told s))
