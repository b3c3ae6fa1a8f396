use mathlib.Core.Bool.{true≢false}
use mathlib.Core.Path.{sym, ◌∙◌}
use borrow.Author.Tests.{le-ltb, le-leb, lt-ltb}
use Rattle.fields.specs.Run.{ends_at}
use Rattle.fields.proofs.ends.Goals.{then-s-at, else-s-at}
use Rattle.fields.proofs.ends.Goals as goal

pub returns-then-s-at-eq-COMMA : goal.returns-then-s-at-eq-COMMA
unfolding ends_at
returns-then-s-at-eq-COMMA c = elim c.if-s-at.branch [
  | then-s-at w ↦ rw (c.if-s-at-eq-COMMA.true, le-ltb _ _ w.if-s-at.true)
  | else-s-at w ↦ rw (c.if-s-at-eq-COMMA.true, lt-ltb _ _ w.if-s-at.false, sym w.value-is ∙ c.if-s-at-eq-COMMA.true)
]

pub returns-else-s-at-eq-COMMA : goal.returns-else-s-at-eq-COMMA
unfolding ends_at
returns-else-s-at-eq-COMMA c = elim c.if-s-at.branch [
  | then-s-at w ↦ absurd (true≢false (sym (le-leb _ _ w.if-s-at.true) ∙ sym w.value-is ∙ c.if-s-at-eq-COMMA.false))
  | else-s-at w ↦ rw (lt-ltb _ _ w.if-s-at.false, sym w.value-is ∙ c.if-s-at-eq-COMMA.false)
]
