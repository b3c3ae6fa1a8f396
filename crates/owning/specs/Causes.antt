-- The numbers of the causes of change request 6/13, "Telling the drafter why". Assumes nothing.
use Rattle.std.specs.Prelude.{ℕ, Option, None, Some}
use Rattle.owning.specs.declared.Cause.{Cause}
use Rattle.owning.specs.declared.Cause.TheVariants.{Signer, Secret, Condition, Renewal, Contract}

-- "1 another must sign, 2 a secret is another's, 3 a condition that doesn't count as `t`, 4 a renewal, 5 a contract in it lacks an exit"
abbrev pub number : Cause → ℕ
number Signer = 1
number Secret = 2
number Condition = 3
number Renewal = 4
number Contract = 5

-- 0 where there is none
abbrev pub told : Option Cause → ℕ
told None = 0
told (Some k) = number k
