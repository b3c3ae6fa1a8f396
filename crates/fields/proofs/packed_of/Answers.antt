use native.Mathlib.Omega.{arith}
use mathlib.Core.Path.{sym, ◌∙◌}
use borrow.Author.Tests.{eq-eqb, lt-ltb, le-ltb}
use Rattle.fields.specs.Field.{packed_of}
use Rattle.fields.proofs.Laws.{packed_some}
use Rattle.fields.proofs.packed_of.Goals.{then-is_empty-via-then-is_empty, then-is_empty-via-else-is_empty+then-text-gt-LETTERS, then-is_empty-via-else-is_empty+else-text-gt-LETTERS+then-text-eq0}
use Rattle.fields.proofs.packed_of.Goals as goal

pub returns-then-is_empty : goal.returns-then-is_empty
unfolding packed_of
returns-then-is_empty c = elim c.then-is_empty.branch [
  | then-is_empty-via-then-is_empty w ↦ rw (sym c.is_empty.ensures ∙ w.if-is_empty.true)
  | then-is_empty-via-else-is_empty+then-text-gt-LETTERS w ↦ rw (sym c.is_empty.ensures ∙ w.if-is_empty.false, lt-ltb _ _ w.if-text-gt-LETTERS.true)
  | then-is_empty-via-else-is_empty+else-text-gt-LETTERS+then-text-eq0 w ↦ rw (sym c.is_empty.ensures ∙ w.if-is_empty.false, le-ltb _ _ w.if-text-gt-LETTERS.false, eq-eqb _ _ w.if-text-eq0.true)
]

-- the tests by what they say, and not by their names: a wrong one is refused for it
pub returns : goal.returns
returns c = c.pack.ensures ∙ sym (packed_some _ (sym c.is_empty.ensures ∙ c.if-is_empty.false) (omega arith) (omega arith))
