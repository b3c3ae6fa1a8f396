use Rattle.writer.proofs.Putting.{on_then, full_then, small, room-on, stay, condition-word-some, cell-is, cell-next}
use Rattle.writer.proofs.Rules.{clauses_none, clauses_not, clauses_and, clauses_two, condition-none, condition-more}
use native.Mathlib.Omega.{arith}
use Rattle.writer.proofs.+put_condition.Goals as goal

pub returns-then-depth-eq0 : goal.returns-then-depth-eq0
returns-then-depth-eq0 t c = condition-none _ _ _ c.if-depth-eq0.true (stay c.requires.room.small)

pub returns-in_err-q : goal.returns-in_err-q
returns-in_err-q t c = condition-more _ _ _ _ c.if-depth-eq0.false c.cell_of-c.ensures (full_then _ _ _ c.in_err-q.ensures c.from_residual.ensures)

pub overflow_add-next : goal.overflow_add-next
overflow_add-next t c = let s = small c.in_ok-q.ensures in omega (arith, s.short, s.cells)

pub put_condition-requires : goal.put_condition-requires
put_condition-requires t c = (omega (arith, c.if-depth-eq0.false), (room-on (omega arith) (cell-is _ c.requires.room.small (condition-word-some _) c.in_ok-q.ensures)))

pub returns-in_err-l-in-1 : goal.returns-in_err-l-in-1
returns-in_err-l-in-1 t c = condition-more _ _ _ _ c.if-depth-eq0.false c.cell_of-c.ensures (cell-next _ c.requires.room.small (condition-word-some _) c.in_ok-q.ensures _ (clauses_and _ _ _ _ _ c.in-1.is (full_then _ _ _ c.in_err-l-in-1.ensures c.from_residual-in_err-l-in-1.ensures)))

pub put_condition-requires-in-1 : goal.put_condition-requires-in-1
put_condition-requires-in-1 t c = (omega (arith, c.if-depth-eq0.false), (room-on (omega arith) c.in_ok-l-in-1.ensures))

pub put_condition-requires-in-2 : goal.put_condition-requires-in-2
put_condition-requires-in-2 t c = (omega (arith, c.if-depth-eq0.false), (room-on (omega arith) (cell-is _ c.requires.room.small (condition-word-some _) c.in_ok-q.ensures)))

pub both_expressions-requires : goal.both_expressions-requires
both_expressions-requires t c = record { room = room-on (omega arith) (cell-is _ c.requires.room.small (condition-word-some _) c.in_ok-q.ensures) }

pub returns-in-0 : goal.returns-in-0
returns-in-0 t c = condition-more _ _ _ _ c.if-depth-eq0.false c.cell_of-c.ensures (cell-next _ c.requires.room.small (condition-word-some _) c.in_ok-q.ensures _ (clauses_none _ _ _ _ _ c.in-0.is (stay (small (cell-is _ c.requires.room.small (condition-word-some _) c.in_ok-q.ensures)))))

pub returns-in_ok-l-in-1 : goal.returns-in_ok-l-in-1
returns-in_ok-l-in-1 t c = condition-more _ _ _ _ c.if-depth-eq0.false c.cell_of-c.ensures (cell-next _ c.requires.room.small (condition-word-some _) c.in_ok-q.ensures _ (clauses_and _ _ _ _ _ c.in-1.is (on_then _ _ _ c.in_ok-l-in-1.ensures c.put_condition-in-1.ensures)))

pub returns-in-2 : goal.returns-in-2
returns-in-2 t c = condition-more _ _ _ _ c.if-depth-eq0.false c.cell_of-c.ensures (cell-next _ c.requires.room.small (condition-word-some _) c.in_ok-q.ensures _ (clauses_not _ _ _ _ _ c.in-2.is c.put_condition-in-2.ensures))

pub returns-in_default : goal.returns-in_default
returns-in_default t c = condition-more _ _ _ _ c.if-depth-eq0.false c.cell_of-c.ensures (cell-next _ c.requires.room.small (condition-word-some _) c.in_ok-q.ensures _ (clauses_two _ _ _ _ _ (omega arith) c.both_expressions.ensures))
