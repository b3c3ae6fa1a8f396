-- What the code answers, in the words of Field: a refusal by its number.
use Rattle.std.specs.Prelude.{ℕ, Result, Ok, Err}
use Rattle.refusals.specs.Numbers.{number}
use Rattle.fields.specs.declared.Refused.{Refused}
use Rattle.fields.specs.Field.{Got, Value, Bad}

-- a value, and the position after its field
abbrev pub told : Result (ℕ × ℕ) Refused → Got
told (Ok r) = Value r.0 r.1
told (Err e) = Bad (number e.refusal) e.at

-- the position after a line, or after a comma
abbrev pub told_end : Result ℕ Refused → Got
told_end (Ok p) = Value 0 p
told_end (Err e) = Bad (number e.refusal) e.at
