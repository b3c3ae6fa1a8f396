use Rattle.texts.proofs.Texts.{wrote-taken, wrote-refused}
use Rattle.plays.proofs.Turning.{noted}
use Rattle.plays.proofs.note.Goals.{in-0, in_default}
use borrow.Author.Rules.{rules}
use Rattle.plays.proofs.note.Goals as goal

pub returns : goal.returns
returns c = noted _ _ _ _ _ _ _ _ (elim c.match-answer.branch [
  | in-0 w ↦ rw (w.text-is, w.end-is) (wrote-taken _ _ w.in-0.is w.put_taken-end.ensures)
  | in_default w ↦ rw (w.text-is, w.end-is) (wrote-refused _ _ (search rules) w.put_refused-end.ensures)
]) c.due_at.ensures
