use Rattle.writer.proofs.Putting.{on_then, full_then, room-on}
use native.Mathlib.Omega.{arith}
use Rattle.writer.proofs.both_expressions.Goals as goal

pub returns-in_err-q : goal.returns-in_err-q
returns-in_err-q c = full_then _ _ _ c.in_err-q.ensures c.from_residual.ensures

pub put_expression-requires-2 : goal.put_expression-requires-2
put_expression-requires-2 c = record { room = room-on (omega arith) c.in_ok-q.ensures }

pub returns : goal.returns
returns c = on_then _ _ _ c.in_ok-q.ensures c.put_expression-2.ensures
