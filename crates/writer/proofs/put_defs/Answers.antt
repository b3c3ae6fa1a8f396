use Rattle.writer.proofs.Putting.{room-on, repeat-none, repeat-more, repeat-all, repeat-full}
use native.Mathlib.Omega.{arith}
use Rattle.writer.proofs.put_defs.Goals as goal

pub loop-init : goal.loop-init
loop-init c = repeat-none _ c.requires.room.small

pub put_def-requires : goal.put_def-requires
put_def-requires c = record { room = room-on (omega arith) c.loop.invariant }

pub returns-in_err-cur : goal.returns-in_err-cur
returns-in_err-cur c = repeat-full _ _ c.loop-test.true (repeat-more _ _ _ c.loop.invariant c.in_err-cur.ensures) c.from_residual.ensures

pub loop-preserved : goal.loop-preserved
loop-preserved c = repeat-more _ _ _ c.loop.invariant c.in_ok-cur.ensures

pub returns : goal.returns
returns c = repeat-all _ _ c.loop.auto.counter-end c.loop-test.false c.loop.invariant
