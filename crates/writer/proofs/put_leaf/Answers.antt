use Rattle.writer.proofs.Putting.{on_then, full_then, room-on, small, ahead, field-some, branch_used}
use Rattle.writing.specs.Written.{say, ◌then◌, branch_done, leaf_text}
use Rattle.texts.specs.Text.{field}
use native.Mathlib.Omega.{arith}
use Rattle.writer.proofs.put_leaf.Goals as goal

pub returns-in_err-q : goal.returns-in_err-q
unfolding leaf_text
returns-in_err-q c = full_then _ _ _ c.in_err-q.ensures c.from_residual.ensures

pub put_field-requires : goal.put_field-requires
put_field-requires c = room-on (omega arith) c.in_ok-q.ensures

pub returns-in_err-l : goal.returns-in_err-l
unfolding leaf_text
returns-in_err-l c = on_then (say _) (say (field _) then branch_done) _ c.in_ok-q.ensures (full_then (say (field _)) branch_done _ c.in_err-l.ensures c.from_residual-in_err-l.ensures)

pub overflow_add-result : goal.overflow_add-result
overflow_add-result c = let s = small c.in_ok-l.ensures in omega (arith, s.short, s.branches)

pub returns : goal.returns
unfolding leaf_text
returns c = let h = c.in_ok-l.ensures in
    on_then (say _) (say (field _) then branch_done) _ c.in_ok-q.ensures (on_then (say (field _)) branch_done _ h (branch_used (small h) (ahead _ (small c.in_ok-q.ensures) (field-some _) h).branches))
