use Rattle.writer.proofs.Putting.{on_then, full_then, small, room-on, stay, expression_word-some, cell-is, cell-next}
use Rattle.writer.proofs.Rules.{operands_number, operands_two, expression_none, expression_more}
use native.Mathlib.Omega.{arith}
use Rattle.writer.proofs.+put_expression.Goals as goal

pub returns-then-depth-eq0 : goal.returns-then-depth-eq0
returns-then-depth-eq0 t c = expression_none _ _ _ c.if-depth-eq0.true (stay c.requires.room.small)

pub returns-in_err-q : goal.returns-in_err-q
returns-in_err-q t c = expression_more _ _ _ _ c.if-depth-eq0.false c.cell_of-c.ensures (full_then _ _ _ c.in_err-q.ensures c.from_residual.ensures)

pub overflow_add-next : goal.overflow_add-next
overflow_add-next t c = let s = small c.in_ok-q.ensures in omega (arith, s.short, s.cells)

pub put_cell-requires : goal.put_cell-requires
put_cell-requires t c = record { room = room-on (omega arith) (cell-is _ c.requires.room.small (expression_word-some _) c.in_ok-q.ensures) }

pub put_expression-requires : goal.put_expression-requires
put_expression-requires t c = (omega (arith, c.if-depth-eq0.false), (room-on (omega arith) (cell-is _ c.requires.room.small (expression_word-some _) c.in_ok-q.ensures)))

pub returns-in_err-l-in_default : goal.returns-in_err-l-in_default
returns-in_err-l-in_default t c = expression_more _ _ _ _ c.if-depth-eq0.false c.cell_of-c.ensures (cell-next _ c.requires.room.small (expression_word-some _) c.in_ok-q.ensures _ (operands_two _ _ _ _ (omega arith) (full_then _ _ _ c.in_err-l-in_default.ensures c.from_residual-in_err-l-in_default.ensures)))

pub put_expression-requires-in_default : goal.put_expression-requires-in_default
put_expression-requires-in_default t c = (omega (arith, c.if-depth-eq0.false), (room-on (omega arith) c.in_ok-l-in_default.ensures))

pub returns-in-0 : goal.returns-in-0
returns-in-0 t c = expression_more _ _ _ _ c.if-depth-eq0.false c.cell_of-c.ensures (cell-next _ c.requires.room.small (expression_word-some _) c.in_ok-q.ensures _ (operands_number _ _ _ _ (omega arith) c.put_cell.ensures))

pub returns-in_ok-l-in_default : goal.returns-in_ok-l-in_default
returns-in_ok-l-in_default t c = expression_more _ _ _ _ c.if-depth-eq0.false c.cell_of-c.ensures (cell-next _ c.requires.room.small (expression_word-some _) c.in_ok-q.ensures _ (operands_two _ _ _ _ (omega arith) (on_then _ _ _ c.in_ok-l-in_default.ensures c.put_expression-in_default.ensures)))
