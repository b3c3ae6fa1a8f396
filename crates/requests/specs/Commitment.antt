-- A value of a secret, and what the code answers for one.
use Rattle.std.specs.Prelude.{ℕ, Option, Some, None, Result, Ok, Err}
use Rattle.refusals.specs.Numbers.{number}
use Rattle.fields.specs.declared.Refused.{Refused}

-- a value and the position after its field; `x` and the position after it; or a refusal's number and the position before its field
pub data Commitment : Type 0 where
  Number : ℕ → ℕ → Commitment
  Ill : ℕ → Commitment
  Bad : ℕ → ℕ → Commitment

-- none: `x`
abbrev pub committed : Option ℕ → ℕ → Commitment
committed (Some v) e = Number v e
committed None e = Ill e

abbrev pub told : Result (Option ℕ × ℕ) Refused → Commitment
told (Ok r) = committed r.0 r.1
told (Err e) = Bad (number e.refusal) e.at
