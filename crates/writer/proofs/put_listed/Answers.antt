use Rattle.writer.proofs.Putting.{on_then, full_then, small, ahead, field-some, listed_used}
use Rattle.writing.specs.Written.{say, listed_done, listed_text}
use Rattle.texts.specs.Text.{field}
use native.Mathlib.Omega.{arith}
use Rattle.writer.proofs.put_listed.Goals as goal

pub returns-in_err-q : goal.returns-in_err-q
unfolding listed_text
returns-in_err-q c = full_then (say (field _)) listed_done _ (rw c.listed_of.ensures at c.in_err-q.ensures) c.from_residual.ensures

pub overflow_add-result : goal.overflow_add-result
overflow_add-result c = let s = small c.in_ok-q.ensures in omega (arith, s.short, s.listed)

pub returns : goal.returns
unfolding listed_text
returns c = let h = c.in_ok-q.ensures in
    on_then (say (field _)) listed_done _ (rw c.listed_of.ensures at h) (listed_used (small h) (ahead _ c.requires.room.small (field-some _) h).listed)
