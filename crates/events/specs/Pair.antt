-- Two fields, and what the code answers for them.
use Rattle.std.specs.Prelude.{ℕ, Result, Ok, Err}
use Rattle.refusals.specs.Numbers.{number}
use Rattle.fields.specs.declared.Refused.{Refused}

-- two numbers and the position after them; or a refusal's number and the position before its field
pub data Pair : Type 0 where
  Two : ℕ → ℕ → ℕ → Pair
  Bad : ℕ → ℕ → Pair

abbrev pub told : Result (ℕ × ℕ × ℕ) Refused → Pair
told (Ok r) = Two r.0 r.1 r.2
told (Err e) = Bad (number e.refusal) e.at
