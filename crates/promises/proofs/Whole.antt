-- A request that is read whole has a sheet that is read, and a last part. Assumes nothing.
use mathlib.Core.Path.{◌≡◌, refl, subst}
use mathlib.Core.List.{List}
use Prim.Native.Nat.{ℕ, ◌*◌, ◌≤◌, ◌<◌}
use lib.ListN.{length}
use Rattle.bitml.specs.Rows.{Row}
use Rattle.fields.specs.Field.{Got}
use Rattle.fields.specs.Field as got
use Rattle.tables.specs.Entries.{Entries}
use Rattle.tables.specs.SheetOf.{node_entry_at, def_entry_at}
use Rattle.lines.specs.Sheet.{SheetRead, accepted, read_sheet}
use Rattle.lines.specs.Sheet.{refused as unread}
use Rattle.requests.specs.LastPart.{Part}
use Rattle.requests.specs.LastPart as part
use Rattle.requests.proofs.Sound.{PartSound, part_sound, rows_fit}
use Rattle.events.specs.Lines.{Lines}
use Rattle.events.specs.Lines as lines
use Rattle.events.specs.Events.{events_at}
use Rattle.reading.specs.Promises.{Promises}
use Rattle.reading.specs.Request.{Reading, LastPart, request, refused, refused_at, from_rows, from_lines, from_part, from_sheet, read_request}
use Rattle.ranges.proofs.Reading.{sheet-paid}
use Rattle.promises.specs.Parts.{RowsPromise, PlayPromise, PartPromise}
use Rattle.promises.specs.Texts.{Promised, PromisedWhole}
use Rattle.promises.proofs.Promised.{promised}

-- what is promised of a request, where it is one; and each cell took two of its bytes
unfoldable Kept : List ℕ → Reading → Type 0
Kept s (request K E l) = Promises K E × PartPromise s K E l × (2 * length E.cells ≤ length s)
Kept s (refused n l f) = Unit {0}

refused_kept : (s : List ℕ) (n p : ℕ) → Kept s (refused_at s n p)
unfolding refused_at Kept
refused_kept s n p = tt

module _ (s : List ℕ) (K : ℕ) (E : Entries) (q : Promises K E) (c : 2 * length E.cells ≤ length s) where
  rows_kept : (p : ℕ) (R : List Row) (g : Got) → p < K → RowsPromise E R → Kept s (from_rows s K E p R g)
  unfolding from_rows Kept PartPromise
  rows_kept p R (got.Value n e) h k = (q, (h, k), c)
  rows_kept p R (got.Bad n e) h k = refused_kept s n e

  lines_kept : (v e : ℕ) (l : Lines) → (l ≡ lines.Good → PlayPromise s K E v e) → Kept s (from_lines s K E v e l)
  unfolding from_lines Kept PartPromise
  lines_kept v e lines.Good h = (q, h refl, c)
  lines_kept v e (lines.Bad n p) h = refused_kept s n p

  part_kept : (o : Part) → PartSound s K (def_entry_at E 0).secrets o → Kept s (from_part s K E o)
  unfolding from_part Kept PartPromise PartSound
  part_kept (part.Make p) h = (q, h, c)
  part_kept part.MakeAll h = (q, h, c)
  part_kept (part.Why p) h = (q, h, c)
  part_kept (part.Check p e) h =
      let fit = rows_fit s (λ n. (node_entry_at E n).count) (length E.nodes) e in
      rows_kept p _ _ h.0 (record { few = fit.0; each = fit.1 })
  part_kept (part.Play v e) h = lines_kept v e (events_at s K e) λ g. record { values = h.0; ahead = h.1; inside = h.2; events = g }
  part_kept (part.Bad n p) h = refused_kept s n p

sheet_kept : (s : List ℕ) (w : SheetRead) → read_sheet s ≡ w → Kept s (from_sheet s w)
unfolding from_sheet Promised
sheet_kept s (accepted K at E) e = part_kept s K E (promised s K at E e) (sheet-paid s K at E e) _ (part_sound s K (def_entry_at E 0).secrets at)
sheet_kept s (unread n p) e = refused_kept s n p

whole_kept : (s : List ℕ) (K : ℕ) (E : Entries) (l : LastPart) → read_request s ≡ request K E l → Kept s (request K E l)
unfolding read_request
whole_kept s K E l e = subst (Kept s) e (sheet_kept s (read_sheet s) refl)

pub promised_whole : PromisedWhole
unfolding PromisedWhole Kept
promised_whole s K E l e = let k = whole_kept s K E l e in (k.0, k.1)

pub whole_paid : (s : List ℕ) (K : ℕ) (E : Entries) (l : LastPart) → read_request s ≡ request K E l → 2 * length E.cells ≤ length s
unfolding Kept
whole_paid s K E l e = (whole_kept s K E l e).2
