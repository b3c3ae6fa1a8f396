-- What is proved of every sheet that some text reads to. Assumes nothing.
use Rattle.std.specs.Prelude.{◌≡◌, ◌⊎◌, List, ℕ}
use Rattle.std.proofs.Math.Option.{Option}
use Rattle.bitml.specs.Sheet.{Sheet}
use Rattle.bitml.specs.Runs.{Liquid}
use Rattle.bitml.specs.Rows.{Row, check}
use Rattle.bitml.specs.Rule.{rows, liquid, frozen, make}
use Rattle.bitml.specs.Ledger.{Event, play, stipulated}
use Rattle.bitml.specs.Liquidity.{Numbers, NumbersAlong, NoneLive, live_rank, Way}
use Rattle.bitml.specs.Demands.{Frozen}
use Rattle.tables.specs.Entries.{Entries}
use Rattle.tables.specs.SheetOf.{sheet_of}
use Rattle.lines.specs.Sheet.{accepted, read_sheet}
use Rattle.reading.specs.Promises.{Promises}
use Rattle.reading.specs.Request.{request, LastPart, read_request}
use Rattle.promises.specs.Parts.{PartPromise}

-- "The judging part knows a sheet only by what the reader promises": every sheet that is read keeps all promises
unfoldable pub Promised : Type 0
Promised = (s : List ℕ) (K at : ℕ) (E : Entries) → read_sheet s ≡ accepted K at E → Promises K E

-- and so does the sheet of every request that is read whole, and its last part keeps its own
unfoldable pub PromisedWhole : Type 0
PromisedWhole = (s : List ℕ) (K : ℕ) (E : Entries) (l : LastPart) → read_request s ≡ request K E l → Promises K E × PartPromise s K E l

-- The demands of one sheet and one participant
pub record OfSheet (s : Sheet) (p : ℕ) : Type 0 where
  -- Demand 2, the verdict: liquid with the published rows exactly when every reached node has an exit, else the lowest that has none
  pub verdict : ((make s p ≡ liquid (rows s p)) × Liquid s p) ⊎ ((n : ℕ) × (make s p ≡ frozen n) × Frozen s p n)
  -- Demand 3, first half: from wherever a list of events leads, P alone can empty all contracts within the ranks of rows that `check` takes
  pub leave : (R : List Row) → (check s p R).number ≡ 0
      → (vs : List (Option ℕ)) → Numbers s p 0 vs
      → (es : List Event) → NumbersAlong s p (stipulated s vs) es
      → Way s p (play s (stipulated s vs) es) NoneLive (live_rank R (play s (stipulated s vs) es).contracts)
  -- Second half: on a liquid sheet `make` gives exactly the published rows, which `check` takes
  pub published : Liquid s p → (make s p ≡ liquid (rows s p)) × ((check s p (rows s p)).number ≡ 0)

-- of every sheet that some text reads to, and every participant
unfoldable pub OfTexts : Type 0
OfTexts = (s : List ℕ) (K at : ℕ) (E : Entries) → read_sheet s ≡ accepted K at E → (p : ℕ) → OfSheet (sheet_of K E) p
