use native.Mathlib.Omega.{arith}
use mathlib.Core.Path.{◌∙◌}
use lib.ListN.{length}
use Rattle.ledger.proofs.Reading.{filled_more, filled_all}
use Rattle.ledger.proofs.values.Goals as goal

pub loop-value-preserved : goal.loop-value-preserved
loop-value-preserved c = let l = c.loop-value in
    filled_more _ (length c.args.out.now) l.out _ l.value-index _ _ c.loop-value-test.true (omega (arith, l.auto.out)) c.one_value-v.ensures ∙ l.invariant

pub returns : goal.returns
returns c = let l = c.loop-value in filled_all c.args.s.now (length c.args.out.now) l.out l.at l.value-index (omega (arith, l.auto.value-index-end)) l.auto.out ∙ l.invariant
