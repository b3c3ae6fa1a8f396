-- The whole sheet: "line 1 and its `def` lines", and "32,768 bytes up to the last `def` line's LF". Assumes nothing.
use Rattle.std.specs.Prelude.{ℕ, ◌^◌, ◌≤◌, List, length, get_or, ltb, leb}
use Rattle.fields.specs.Field.{Got}
use Rattle.fields.specs.Field as got
use Rattle.places.specs.Places.{passing_of}
use Rattle.tables.specs.Entries.{Entries, held, people, most_nodes, most_defs}
use Rattle.tables.specs.State.{entries}
use Rattle.steps.specs.Steps.{Outcome, next, bad, either, times}
use Rattle.contracts.specs.declared.Limits.{Limits}
use Rattle.lines.specs.LineOne.{LineOne}
use Rattle.lines.specs.LineOne.{Counts, Bad}
use Rattle.lines.specs.LineOne.{line_one_at}
use Rattle.lines.specs.Definition.{define_at, blank}

-- ---- the limit on bytes: it is put on what a reading without it gives

-- q is the position before "the first field that ends beyond, its comma or LF counted". What is refused before that field stays; at
-- it the lower number stands; and nothing is read after it
unfoldable pub beyond : ℕ → Outcome → Outcome
beyond q (next a) = either (leb a.at 32768) (next a) (bad 7 q)
beyond q (bad n p) = either (ltb p q) (bad n p) (either (ltb q p) (bad 7 q) (either (ltb n 7) (bad n p) (bad 7 p)))

unfoldable pub limited : List ℕ → Outcome → Outcome
limited s w = either (leb (length s) 32768) w (beyond (passing_of s 32768) w)

-- ---- the sheet

-- K, the position after the last `def` line and the entries; or a refusal's number and the position before its field
pub data SheetRead : Type 0 where
  accepted : ℕ → ℕ → Entries → SheetRead
  refused : ℕ → ℕ → SheetRead

unfoldable pub accept : ℕ → Outcome → SheetRead
accept k (next a) = accepted k a.at (entries a)
accept k (bad n p) = refused n p

-- for K participants and F definitions
abbrev pub sizes : ℕ → ℕ → Limits
sizes k n = record { all = 2 ^ k; people = k; defs = n; def = 0; secrets = 0 }

unfoldable pub sheet_from : List ℕ → LineOne → SheetRead
sheet_from s (Counts k n p) = accept k (limited s (times n (define_at s (sizes k n)) (blank p)))
sheet_from s (Bad n p) = accept 0 (limited s (bad n p))

-- "A sheet .. is accepted if none of the numbers 2 to 9 below applies in them"
unfoldable pub read_sheet : List ℕ → SheetRead
read_sheet s = sheet_from s (line_one_at s)

-- ---- what the code answers: with the position after the sheet, the table holds K and the entries

unfoldable pub answered : Got → List ℕ → SheetRead
answered (got.Value v at) t = accepted (people t) at (held t)
answered (got.Bad n p) t = refused n p

-- what is known of an accepted sheet without looking into its entries
pub record Sized (s : List ℕ) (at : ℕ) (t : List ℕ) : Type 0 where
  pub inside : at ≤ length s
  pub some-people : 1 ≤ people t
  pub few-people : people t ≤ 16
  pub some-defs : 1 ≤ get_or t 1 0
  pub few-defs : get_or t 1 0 ≤ most_defs
  pub few-nodes : get_or t 2 0 ≤ most_nodes

unfoldable pub WhenAccepted : List ℕ → Got → List ℕ → Type 0
WhenAccepted s (got.Value v at) t = Sized s at t
WhenAccepted s (got.Bad n p) t = Unit {0}
