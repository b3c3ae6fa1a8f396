use native.Mathlib.Omega.{arith}
use Rattle.truth.proofs.Laws.{value-number, value-secret, value-add, value-sub}
use Rattle.truth.proofs.+expression.Goals as goal
use Rattle.truth.proofs.+expression.Goals.{then-word-eq-ADD, else-word-eq-ADD}

pub returns-in-0 : goal.returns-in-0
returns-in-0 t c = rw c.add.ensures (value-number _ _ c.requires.room.inside c.field-word.ensures c.behind-on.ensures c.requires.room c.requires.cells c.in-0.is c.field.ensures c.behind.ensures)

pub returns-in-1 : goal.returns-in-1
returns-in-1 t c = rw c.add-in-1.ensures (value-secret _ _ c.requires.room.inside c.field-word.ensures c.behind-on.ensures c.requires.room c.requires.values c.in-1.is c.field-in-1.ensures c.peek.ensures c.behind-in-1.ensures)

pub returns-after-word-eq-ADD : goal.returns-after-word-eq-ADD
returns-after-word-eq-ADD t c = let r = c.requires.room in
    elim c.if-word-eq-ADD.branch [
      | then-word-eq-ADD w ↦ value-add _ _ r.inside c.field-word.ensures c.behind-on.ensures r c.expression-next.ensures w.if-word-eq-ADD.true (rw w.second-is at c.expression.ensures)
      | else-word-eq-ADD w ↦ value-sub _ _ r.inside c.field-word.ensures c.behind-on.ensures r c.expression-next.ensures (omega arith) w.if-word-eq-ADD.false (rw w.second-is at c.expression.ensures)
    ]
