-- "Line 1: `bitml`, K participants (1 to 16), F definitions (1 to 32)". Assumes nothing.
use Rattle.std.specs.Prelude.{ℕ, List, cond, eqb, Result, Ok, Err}
use Rattle.refusals.specs.Numbers.{number}
use Rattle.fields.specs.declared.Refused.{Refused}
use Rattle.fields.specs.Field.{spelled, when_read, between_at, first_at, line_end_at}

-- K, F and the position after line 1; or a refusal's number and the position before its field
pub data LineOne : Type 0 where
  Counts : ℕ → ℕ → ℕ → LineOne
  Bad : ℕ → ℕ → LineOne

-- K, F and the position of the next line
unfoldable pub counts_at : List ℕ → ℕ → LineOne
counts_at s p =
    when_read Bad (between_at s p 1 16) λ k q.
    when_read Bad (between_at s q 1 32) λ n r.
    when_read Bad (line_end_at s r) λ v e. Counts k n e

unfoldable pub line_one_at : List ℕ → LineOne
line_one_at s = when_read Bad (first_at s 0) λ w p. cond (eqb w (spelled "bitml")) (counts_at s p) (Bad 3 0)

-- what the code answers
abbrev pub told_line : Result (ℕ × ℕ × ℕ) Refused → LineOne
told_line (Ok r) = Counts r.0 r.1 r.2
told_line (Err e) = Bad (number e.refusal) e.at
