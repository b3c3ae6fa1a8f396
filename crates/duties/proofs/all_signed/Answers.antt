use Rattle.std.proofs.Common.{rules, tests, refl, ◌∙◌, ◌-◌, ◌/◌, ◌%◌, ◌^◌, arith, not, bit_and}
use lib.Dec.{eqb}
use Rattle.std.proofs.lemmas.Iterator.{YieldsList-from_range}
use Rattle.std.proofs.lemmas.Iterator.Search.{all_from_yields_List}
use Rattle.duties.proofs.Signing.{covered, none-missing}
use Rattle.duties.proofs.all_signed.Goals as goal

pub returns-then-missing-eq0 : goal.returns-then-missing-eq0
returns-then-missing-eq0 c = let a = c.args in none-missing a.people a.signers a.mask c.requires c.ranges.mask.fits c.if-missing-eq0.true

pub returns-else-missing-eq0 : goal.returns-else-missing-eq0
returns-else-missing-eq0 c = let a = c.args in
    all_from_yields_List (λ p. not (eqb (bit_and a.signers (18446744073709551615 - a.mask) / 2 ^ p % 2) 1)) _ _ c.all.result c.all.ensures.ran
    (YieldsList-from_range 0 a.people a.people refl (omega arith)) (λ x b q k. search (rules, tests))
    ∙ covered a.people a.signers a.mask c.requires c.ranges.mask.fits
