-- Whether event lines can be read, all to the request's end, and what the code answers for them.
use Rattle.std.specs.Prelude.{ℕ, Result, Ok, Err}
use Rattle.refusals.specs.Numbers.{number}
use Rattle.fields.specs.declared.Refused.{Refused}

-- or a refusal's number and the position before its field
pub data Lines : Type 0 where
  Good : Lines
  Bad : ℕ → ℕ → Lines

abbrev pub told : Result (Unit {0}) Refused → Lines
told (Ok r) = Good
told (Err e) = Bad (number e.refusal) e.at
