-- The last part's first line, and what the code answers for it.
use Rattle.std.specs.Prelude.{ℕ, Result, Ok, Err}
use Rattle.refusals.specs.Numbers.{number}
use Rattle.fields.specs.declared.Refused.{Refused}
use Rattle.requests.specs.declared.Part.{Part as Code}
use Rattle.requests.specs.declared.Part.TheVariants as code

-- P; of `check` where the rows start; of `play` where the values start, and where the events do; or a refusal's number and the position
-- before its field
pub data Part : Type 0 where
  Make : ℕ → Part
  MakeAll : Part
  Why : ℕ → Part
  Check : ℕ → ℕ → Part
  Play : ℕ → ℕ → Part
  Bad : ℕ → ℕ → Part

abbrev pub part : Code → Part
part (code.Make p) = Make p
part code.MakeAll = MakeAll
part (code.Why p) = Why p
part (code.Check p e) = Check p e
part (code.Play f e) = Play f e

abbrev pub told : Result Code Refused → Part
told (Ok c) = part c
told (Err e) = Bad (number e.refusal) e.at
