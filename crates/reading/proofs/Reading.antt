-- How what the code read gives what the definition says. Assumes nothing.
use Rattle.std.specs.Prelude.{Result, Ok, Err, MatchResult, IsErrAnd}
use Prim.Native.Nat.{ℕ, zero, suc, ◌<◌, ◌+◌}
use mathlib.Core.Path.{◌≡◌, refl, sym, ap, ◌∙◌}
use mathlib.Core.List.{List, []}
use mathlib.Core.Bool.{cond}
use native.Mathlib.Omega.{arith}
use lib.ListN.{length, get_or}
use lib.Dec.{ltb}
use Rattle.fields.specs.declared.Refused.{Refused}
use Rattle.fields.specs.Field.{Got}
use Rattle.fields.specs.Field.{Value, Bad}
use Rattle.fields.specs.Field.{when_read, below_at, first_at}
use Rattle.fields.proofs.Ranges.{below_end}
use Rattle.places.specs.Places.{place_of}
use Rattle.tables.specs.Entries.{held, people, defs_from}
use Rattle.tables.specs.SheetOf.{node_entry_at, def_entry_at}
use Rattle.tables.proofs.Held.{held-nodes, held-defs, node-held, def-held}
use Rattle.lines.specs.Sheet.{Sized, accepted}
use Rattle.requests.specs.LastPart.{Part}
use Rattle.requests.specs.Part.{last_part_at}
use Rattle.requests.specs.LastPart as part
use Rattle.requests.specs.RowLine.{RowLine}
use Rattle.requests.specs.RowLine as line
use Rattle.bitml.specs.Rows.{Row}
use Rattle.buffer.specs.Buffer.{rows_of}
use Rattle.requests.specs.Rows.{count_in, row_numbers_at, row_at, Rows, rows_with, with_line, most_rows, rows_from, rows_at, RowsHeld}
use Rattle.requests.proofs.Sound.{rows-count}
use Rattle.reading.specs.declared.Declined.{Declined}
use Rattle.reading.specs.declared.Request.{Request}
use Rattle.reading.specs.declared.Request.TheVariants as code
use Rattle.reading.specs.Request.{Reading, refused_at, from_rows, from_part, from_sheet, asked, told, answered}

-- ---- rows are read by the counts of branches of nodes that there are

when_read-same : {A : Type 0} (bad : ℕ → ℕ → A) (g : Got) (go go' : ℕ → ℕ → A) → ((v e : ℕ) → g ≡ Value v e → go v e ≡ go' v e) → when_read bad g go ≡ when_read bad g go'
unfolding when_read
when_read-same bad (Value v e) go go' h = h v e refl
when_read-same bad (Bad n p) go go' h = refl

module _ (s : List ℕ) (f g : ℕ → ℕ) (nodes : ℕ) (same : (n : ℕ) → n < nodes → f n ≡ g n) where
  numbers-same : (at : ℕ) → row_numbers_at s f nodes at ≡ row_numbers_at s g nodes at
  unfolding row_numbers_at
  numbers-same at = when_read-same line.Bad (below_at s at nodes) _ _ λ n e h. rw (same n (below_end s at nodes n e h).0)

  row_same : (at : ℕ) → row_at s f nodes at ≡ row_at s g nodes at
  unfolding row_at
  row_same at = when_read-same line.Bad (first_at s at) _ _ λ w e h. rw (numbers-same e)

  line_same : (xs : List Row) (go go' : List Row → ℕ → Rows) (l : RowLine) → ((ys : List Row) (e : ℕ) → go ys e ≡ go' ys e) → with_line xs go l ≡ with_line xs go' l
  unfolding with_line
  line_same xs go go' (line.Row n b k e) h = h _ e
  line_same xs go go' (line.Bad n p) h = refl

  rows_from_same : (left : ℕ) (xs : List Row) (at : ℕ) → rows_from s f nodes left xs at ≡ rows_from s g nodes left xs at
  unfolding rows_from
  rows_from_same zero xs at = refl
  rows_from_same (suc left) xs at =
      ap (λ x. cond (ltb at (length s)) x (rows_with xs (Value (length xs) at)))
      (ap (with_line xs (rows_from s f nodes left)) (row_same at) ∙ line_same xs _ _ (row_at s g nodes at) (rows_from_same left))

  rows_same : (at : ℕ) → rows_at s f nodes at ≡ rows_at s g nodes at
  unfolding rows_at
  rows_same at = rows_from_same most_rows [] at

-- the same rows by the table and by its entries
rows-held : (s t : List ℕ) (at : ℕ) → rows_at s (count_in t) (get_or t 2 0) at ≡ rows_at s (λ n. (node_entry_at (held t) n).count) (length (held t).nodes) at
rows-held s t at =
    rw (held-nodes t)
    (rows_same s (count_in t) (λ n. (node_entry_at (held t) n).count) (get_or t 2 0) (λ n h. sym (ap (λ e. e.count) (node-held t n (omega (arith, held-nodes t))))) at)

-- ---- the last part

module _ (s t : List ℕ) (p from : ℕ) (u₀ u : List ℕ) where
  pub check_is : (n e : ℕ) → RowsHeld (rows_at s (count_in t) (get_or t 2 0) from) (Value n e) u₀ u
      → asked (code.Check p n) t u ≡ from_part s (people t) (held t) (part.Check p from)
  unfolding asked from_part from_rows
  check_is n e h =
      let w = rows_at s (count_in t) (get_or t 2 0) from in
      let a : w.answer ≡ Value n e = sym h.answer in
      let c : rows_of n u ≡ w.rows = rw (rows-count s (count_in t) (get_or t 2 0) from n e a) h.rows in
      rw (← rows-held s t from, a, c)

  pub check_refused : (n q : ℕ) → RowsHeld (rows_at s (count_in t) (get_or t 2 0) from) (Bad n q) u₀ u
      → refused_at s n q ≡ from_part s (people t) (held t) (part.Check p from)
  unfolding from_part from_rows
  check_refused n q h = rw (← rows-held s t from, ← h.answer)

-- the secrets of definition 0, as the code finds them
secrets-are : (s t : List ℕ) (at : ℕ) → Sized s at t → (def_entry_at (held t) 0).secrets ≡ get_or t (defs_from + 2) 0
secrets-are s t at z = ap (λ e. e.secrets) (def-held t 0 (omega (arith, held-defs t, z.some-defs)))

pub from_sheet_lem : (s t : List ℕ) (at : ℕ) → Sized s at t → (o x : Part) (r : Reading) → o ≡ last_part_at s (people t) (get_or t (defs_from + 2) 0) at → o ≡ x
    → r ≡ from_part s (people t) (held t) x → r ≡ from_sheet s (accepted (people t) at (held t))
unfolding from_sheet
from_sheet_lem s t at z o x r h i j = rw (secrets-are s t at z, ← h, i) j

-- ---- the whole request

-- a refusal's position becomes its place
abbrev placed : List ℕ → Refused → Declined
placed s e = record { refusal = e.refusal; place = place_of s e.at }

pub placed_is : (s t u : List ℕ) (x : Result Request Refused) (r : Result Request Declined) (P : Refused → Declined → Type 0)
    → ((e : Refused) (d : Declined) → P e d → d ≡ placed s e) → MatchResult x (λ v. r ≡ Ok v) (λ e. IsErrAnd r (P e)) → answered r t u ≡ told s x t u
unfolding refused_at
placed_is s t u (Ok v) r P f h = rw h
placed_is s t u (Err e) (Err d) P f h = rw (f e d h)
placed_is s t u (Err e) (Ok v) P f h = absurd h
