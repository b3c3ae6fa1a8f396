use native.Mathlib.Omega.{arith}
use Rattle.truth.proofs.Laws.{holds-always, holds_both, holds_not, holds_equal, holds_less}
use Rattle.truth.proofs.+condition.Goals as goal

pub returns-in-0 : goal.returns-in-0
returns-in-0 t c = holds-always _ _ c.requires.left_in_bounds c.field-word.ensures c.behind-on.ensures c.in-0.is

pub returns-in-1 : goal.returns-in-1
returns-in-1 t c = holds_both _ _ c.requires.left_in_bounds c.field-word.ensures c.behind-on.ensures c.in-1.is c.condition-next.ensures c.condition-end.ensures

pub returns-in-2 : goal.returns-in-2
returns-in-2 t c = holds_not _ _ c.requires.left_in_bounds c.field-word.ensures c.behind-on.ensures c.in-2.is c.condition-end-in-2.ensures

pub returns-in-3 : goal.returns-in-3
returns-in-3 t c = holds_equal _ _ c.requires.left_in_bounds c.field-word.ensures c.behind-on.ensures c.operands-end.ensures c.in-3.is

pub returns-in_default : goal.returns-in_default
returns-in_default t c = holds_less _ _ c.requires.left_in_bounds c.field-word.ensures c.behind-on.ensures c.operands-end-in_default.ensures (omega arith)
