use native.Mathlib.Omega.{arith}
use Rattle.fields.proofs.Runs.{running_start, running_more, running_below, running_above, running_small, running_end}
use Rattle.fields.proofs.digits.Goals as goal

pub loop-i-init : goal.loop-i-init
loop-i-init c = running_start _ _ _ c.latest-stop.ensures.0

pub overflow_mul-v : goal.overflow_mul-v
overflow_mul-v c = let l = c.loop-i in let w = c.latest-stop.ensures in let z = running_small c.args.s.now c.args.from c.latest-stop.result l.v l.i l.invariant w.1 c.loop-i-test.true w.2 in omega arith

pub overflow_add-v : goal.overflow_add-v
overflow_add-v c = let l = c.loop-i in let w = c.latest-stop.ensures in let z = running_small c.args.s.now c.args.from c.latest-stop.result l.v l.i l.invariant w.1 c.loop-i-test.true w.2 in omega (arith, c.from.ensures)

pub loop-i-preserved : goal.loop-i-preserved
loop-i-preserved c = let l = c.loop-i in let w = c.latest-stop.ensures in running_more c.args.s.now c.args.from c.latest-stop.result l.v l.i l.invariant w.1 c.loop-i-test.true w.2 c.from.ensures c.in-48-to-57.if-b-lt48-own.false (omega (arith, c.in-48-to-57.if-b-lt58-own.true))

pub returns-in_default : goal.returns-in_default
returns-in_default c = let l = c.loop-i in let w = c.latest-stop.ensures in running_below c.args.s.now c.args.from c.latest-stop.result l.v l.i l.invariant w.1 c.loop-i-test.true w.2 c.in_default.if-b-lt48-own.true

pub returns-in_default-2 : goal.returns-in_default-2
returns-in_default-2 c = let l = c.loop-i in let w = c.latest-stop.ensures in running_above c.args.s.now c.args.from c.latest-stop.result l.v l.i l.invariant w.1 c.loop-i-test.true w.2 c.in_default.if-b-lt48-own.false c.in_default.if-b-lt58-own.false

pub returns : goal.returns
returns c = let l = c.loop-i in let w = c.latest-stop.ensures in running_end c.args.s.now c.args.from c.latest-stop.result l.v l.i l.invariant w.1 c.loop-i-test.false w.3
