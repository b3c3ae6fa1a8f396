-- No refusal has the number that stands for none. Assumes nothing.
use mathlib.Core.Path.{◌≡◌}
use native.Mathlib.Omega.{arith}
use Rattle.refusals.specs.Numbers.{number}
use Rattle.refusals.specs.declared.Refusal.{Refusal}
use Rattle.refusals.specs.declared.Refusal.TheVariants.{TooLong, Missing, NotDue, OutOfRange, Repeated, Unknown, OverLimit, NoWeight, TooMany, SecondRow, MissingRow, NotOwn, RankTooLow, NoBranch, TooEarly, Signature, Secret, ValueCount, LedgerLimit, ShortText, OutOfOrder}

pub number-some : (r : Refusal) → number r ≡ 0 → ⊥
number-some TooLong e = omega arith
number-some Missing e = omega arith
number-some NotDue e = omega arith
number-some OutOfRange e = omega arith
number-some Repeated e = omega arith
number-some Unknown e = omega arith
number-some OverLimit e = omega arith
number-some NoWeight e = omega arith
number-some TooMany e = omega arith
number-some SecondRow e = omega arith
number-some MissingRow e = omega arith
number-some NotOwn e = omega arith
number-some RankTooLow e = omega arith
number-some NoBranch e = omega arith
number-some TooEarly e = omega arith
number-some Signature e = omega arith
number-some Secret e = omega arith
number-some ValueCount e = omega arith
number-some LedgerLimit e = omega arith
number-some ShortText e = omega arith
number-some OutOfOrder e = omega arith
