-- Laws of the definitions: one value more, one row more.
use Rattle.std.specs.Prelude.{Option, Some, None}
use Prim.Native.Nat.{ℕ, zero, suc, ◌+◌, ◌-◌, ◌<◌, ◌≤◌}
use mathlib.Core.List.{List, [], ◌∷◌, ◌++◌}
use mathlib.Core.Path.{◌≡◌, refl}
use native.Mathlib.Omega.{arith}
use lib.Dec.{eqb}
use lib.ListN.{length}
use borrow.Author.Tests.{lt-ltb, le-ltb, ne_eqb}
use Rattle.fields.proofs.Laws.{number-end, word_end}
use Rattle.fields.proofs.Ranges.{when_read-cases, cond_cases, never}
use Rattle.fields.specs.Field.{spelled, when_read, number_at, word_at, first_at}
use Rattle.fields.specs.Field.{Got}
use Rattle.fields.specs.Field.{Value, Bad}
use Rattle.requests.specs.Part.{most_value, value_at, past_of, past_value_at, past_values_at}
use Rattle.bitml.specs.Rows.{Row}
use Rattle.buffer.specs.Buffer.{row, rows_of, past_rows}
use Rattle.buffer.proofs.Buffer.{rows-length}
use Rattle.requests.specs.Rows.{most_rows, Rows, rows_with, row_numbers_at, row_at, no_room_at, with_line, rows_from, RowsHeld}
use Rattle.requests.specs.Commitment.{committed}
use Rattle.requests.specs.Commitment as commitment
use Rattle.requests.specs.RowLine as line

-- ---- values of secrets

-- a value or `x`: the reading goes on after it
pub past_committed : (o : Option ℕ) (e : ℕ) → Value 0 e ≡ past_of (committed o e)
unfolding past_of
past_committed (Some v) e = refl
past_committed None e = refl

module _ (s : List ℕ) (n i at : ℕ) (more : i < n) where
  pub values_on : (v e : ℕ) → Value v e ≡ past_value_at s at → past_values_at s (n - (i + 1)) e ≡ past_values_at s (n - i) at
  unfolding past_values_at when_read
  values_on v e h = let k : n - i ≡ suc (n - (i + 1)) = omega arith in rw (k, ← h)

  pub values_bad : (m p : ℕ) → Bad m p ≡ past_value_at s at → Bad m p ≡ past_values_at s (n - i) at
  unfolding past_values_at when_read
  values_bad m p h = let k : n - i ≡ suc (n - (i + 1)) = omega arith in rw (k, ← h)

pub values_end : (s : List ℕ) (n at : ℕ) → n ≤ 0 → past_values_at s n at ≡ Value 0 at
unfolding past_values_at
values_end s zero at h = refl
values_end s (suc n) at h = absurd (omega arith)

-- a value ends after its comma, within the request
pub past_end : (s : List ℕ) (at v q : ℕ) → past_value_at s at ≡ Value v q → (at < q) × (q ≤ length s)
unfolding past_value_at value_at past_of
past_end s at v q =
    when_read-cases (λ c. past_of c ≡ Value v q → (at < q) × (q ≤ length s)) commitment.Bad (word_at s at) _ (λ m p h. never m p v q h) λ w e g.
    cond_cases (λ c. past_of c ≡ Value v q → (at < q) × (q ≤ length s)) (eqb w (spelled "x")) (commitment.Ill e) _
    (λ b h. let j : e ≡ q = cc in let k = word_end s at w e g in (omega arith, omega arith))
    (λ b. when_read-cases (λ c. past_of c ≡ Value v q → (at < q) × (q ≤ length s)) commitment.Bad (number_at s at most_value) commitment.Number (λ m p h. never m p v q h)
    λ u f i h. let j : f ≡ q = cc in let k = number-end s at most_value u f i in (omega arith, omega arith))

-- ---- the lines of rows

-- a line with its word
pub row-numbers : (s : List ℕ) (counts : ℕ → ℕ) (nodes at w e : ℕ) → Value w e ≡ first_at s at → w ≡ spelled "row"
    → row_numbers_at s counts nodes e ≡ row_at s counts nodes at
unfolding row_at when_read
row-numbers s counts nodes at w e k r = rw (← k, r)

module _ (s : List ℕ) (counts : ℕ → ℕ) (nodes : ℕ) (xs : List Row) (at : ℕ) where
  pub rows_end : (left n : ℕ) → length xs ≡ n → length s ≤ at → rows_with xs (Value n at) ≡ rows_from s counts nodes left xs at
  unfolding rows_from
  rows_end zero n l h = rw (le-ltb _ _ h, l)
  rows_end (suc left) n l h = rw (le-ltb _ _ h, l)

  -- a line that is no row, whatever room is left
  pub rows-none : (left m p : ℕ) → at < length s → Bad m p ≡ first_at s at → rows_with xs (Bad m p) ≡ rows_from s counts nodes left xs at
  unfolding rows_from no_room_at row_at with_line when_read
  rows-none zero m p h k = rw (lt-ltb _ _ h, ← k)
  rows-none (suc left) m p h k = rw (lt-ltb _ _ h, ← k)

  pub rows-other : (left w e : ℕ) → at < length s → Value w e ≡ first_at s at → (w ≡ spelled "row" → ⊥)
      → rows_with xs (Bad 3 at) ≡ rows_from s counts nodes left xs at
  unfolding rows_from no_room_at row_at with_line when_read
  rows-other zero w e h k n = rw (lt-ltb _ _ h, ← k, ne_eqb _ _ n)
  rows-other (suc left) w e h k n = rw (lt-ltb _ _ h, ← k, ne_eqb _ _ n)

  pub rows-full : (w e i : ℕ) → at < length s → Value w e ≡ first_at s at → w ≡ spelled "row" → i ≡ most_rows
      → rows_with xs (Bad 7 at) ≡ rows_from s counts nodes (most_rows - i) xs at
  unfolding rows_from no_room_at when_read
  rows-full w e i h k r j = rw (j, lt-ltb _ _ h, ← k, r)

  module _ (i : ℕ) (room : i < most_rows) (more : at < length s) where
    pub rows_on : (n b k e : ℕ) → line.Row n b k e ≡ row_at s counts nodes at
        → rows_from s counts nodes (most_rows - (i + 1)) (xs ++ (row n b k ∷ [])) e ≡ rows_from s counts nodes (most_rows - i) xs at
    unfolding rows_from with_line
    rows_on n b k e h = let j : most_rows - i ≡ suc (most_rows - (i + 1)) = omega arith in rw (j, lt-ltb _ _ more, ← h)

    pub rows-bad : (m p : ℕ) → line.Bad m p ≡ row_at s counts nodes at → rows_with xs (Bad m p) ≡ rows_from s counts nodes (most_rows - i) xs at
    unfolding rows_from with_line
    rows-bad m p h = let j : most_rows - i ≡ suc (most_rows - (i + 1)) = omega arith in rw (j, lt-ltb _ _ more, ← h)

-- what the buffer holds where the reading ends
pub holds : (want : Rows) (r : Got) (u₀ u : List ℕ) (i : ℕ) → rows_with (rows_of i u) r ≡ want → past_rows i u ≡ past_rows i u₀ → RowsHeld want r u₀ u
holds want r u₀ u i e d = rw (← e) (record { answer = refl; rows = rw (rows-length i u); rest = rw (rows-length i u) d })
