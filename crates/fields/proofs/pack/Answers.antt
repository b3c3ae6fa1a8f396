use mathlib.Core.Path.{sym, ◌∙◌}
use native.Mathlib.Omega.{arith}
use Rattle.fields.proofs.Laws.{packed-end, packed_more, byte_more}
use Rattle.fields.proofs.pack.Goals as goal

pub loop-b-preserved : goal.loop-b-preserved
loop-b-preserved c = let i = c.loop-b.b-index in
    let inv = c.loop-b.invariant in (
      byte_more i inv.0 (omega (arith, c.from.ensures, c.type_inv.text i)),
      rw c.from.ensures (sym (packed_more _ i _ c.loop-b-test.true) ∙ inv.1),
    )

pub returns : goal.returns
returns c = sym (packed-end _ _ _ c.loop-b-test.false) ∙ c.loop-b.invariant.1
