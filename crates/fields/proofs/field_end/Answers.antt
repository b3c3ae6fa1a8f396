use native.Mathlib.Omega.{arith}
use Rattle.fields.proofs.Laws.{field_len-end, field_len-comma, field_len-lf, field_len-more}
use Rattle.fields.proofs.field_end.Goals.{then-s-i-eq-COMMA-via-then-s-i-eq-COMMA, then-s-i-eq-COMMA-via-else-s-i-eq-COMMA+then-s-i-eq-LF}
use Rattle.fields.proofs.field_end.Goals as goal

pub returns-then-s-i-eq-COMMA : goal.returns-then-s-i-eq-COMMA
returns-then-s-i-eq-COMMA c = elim c.then-s-i-eq-COMMA.branch [
  | then-s-i-eq-COMMA-via-then-s-i-eq-COMMA w ↦ omega (arith, c.loop-i.invariant, field_len-comma c.args.s.now c.loop-i.i c.loop-i-test.true w.if-s-i-eq-COMMA.true)
  | then-s-i-eq-COMMA-via-else-s-i-eq-COMMA+then-s-i-eq-LF w ↦ omega (arith, c.loop-i.invariant, field_len-lf c.args.s.now c.loop-i.i c.loop-i-test.true w.if-s-i-eq-LF.true)
]

pub loop-i-preserved : goal.loop-i-preserved
loop-i-preserved c = omega (arith, c.loop-i.invariant, field_len-more c.args.s.now c.loop-i.i c.loop-i-test.true c.if-s-i-eq-COMMA.false c.if-s-i-eq-LF.false)

pub returns : goal.returns
returns c = omega (arith, c.loop-i.invariant, field_len-end c.args.s.now c.loop-i.i c.loop-i-test.false)
