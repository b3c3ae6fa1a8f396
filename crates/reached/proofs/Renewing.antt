-- Which kind of action renews. Assumes nothing.
use mathlib.Core.Path.{◌≡◌, refl, sym}
use mathlib.Core.Bool.{true, false, true≢false}
use native.Mathlib.Omega.{arith}
use denote.Enum.Bare.{sameb}
use Rattle.tables.specs.contracts.Kind.{the_type}
use Rattle.tables.specs.declared.Kind.{Kind}
use Rattle.tables.specs.declared.Kind.TheVariants.{Withdraw, Split, Reveal, Renew}
use Rattle.tables.specs.Kinds.{code}

pub renew-code : (k : Kind) → sameb the_type k Renew ≡ true → code k ≡ 3
renew-code Withdraw e = absurd (true≢false (sym e))
renew-code Split e = absurd (true≢false (sym e))
renew-code Reveal e = absurd (true≢false (sym e))
renew-code Renew e = refl

pub other-code : (k : Kind) → sameb the_type k Renew ≡ false → code k ≡ 3 → ⊥
other-code Withdraw e h = omega arith
other-code Split e h = omega arith
other-code Reveal e h = omega arith
other-code Renew e h = true≢false e
