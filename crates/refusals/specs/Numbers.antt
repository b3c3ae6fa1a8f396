-- The numbers by which requests and events are declined.
use Rattle.std.specs.Prelude.{ℕ, Option, None, Some}
use Rattle.refusals.specs.declared.Refusal.{Refusal}
use Rattle.refusals.specs.declared.Refusal.TheVariants.{TooLong, Missing, NotDue, OutOfRange, Repeated, Unknown, OverLimit, NoWeight, TooMany, SecondRow, MissingRow, NotOwn, RankTooLow, NoBranch, TooEarly, Signature, Secret, ValueCount, LedgerLimit, ShortText, OutOfOrder}

-- document 01, "When a request is declined", by its column "No"; 20 is that of 1/13, 21 that of 4/13
abbrev pub number : Refusal → ℕ
number TooLong = 1
number Missing = 2
number NotDue = 3
number OutOfRange = 4
number Repeated = 5
number Unknown = 6
number OverLimit = 7
number NoWeight = 8
number TooMany = 9
number SecondRow = 10
number MissingRow = 11
number NotOwn = 12
number RankTooLow = 13
number NoBranch = 14
number TooEarly = 15
number Signature = 16
number Secret = 17
number ValueCount = 18
number LedgerLimit = 19
number ShortText = 20
number OutOfOrder = 21

-- 0 where nothing is declined
abbrev pub told : Option Refusal → ℕ
told None = 0
told (Some r) = number r
