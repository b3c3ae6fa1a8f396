-- A line `row`, and what the code answers for it.
use Rattle.std.specs.Prelude.{ℕ, Result, Ok, Err}
use Rattle.refusals.specs.Numbers.{number}
use Rattle.fields.specs.declared.Refused.{Refused}
use Rattle.buffer.specs.declared.Row.{Row as Code}

-- node, branch, rank and the position after the line; or a refusal's number and the position before its field
pub data RowLine : Type 0 where
  Row : ℕ → ℕ → ℕ → ℕ → RowLine
  Bad : ℕ → ℕ → RowLine

abbrev pub told : Result (Code × ℕ) Refused → RowLine
told (Ok r) = Row r.0.node r.0.branch r.0.rank r.1
told (Err e) = Bad (number e.refusal) e.at
