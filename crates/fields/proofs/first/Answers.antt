use native.Mathlib.Nat.{add-sub_cancel_left}
use native.Mathlib.Omega.{arith}
use borrow.Author.Tests.{lt-ltb, le-ltb}
use Rattle.fields.proofs.Laws.{end-within}
use Rattle.fields.specs.Field.{first_at, word_from, text_at, end_at}
use Rattle.fields.proofs.first.Goals as goal

pub returns-then-s-at : goal.returns-then-s-at
unfolding first_at
returns-then-s-at c = rw (le-ltb _ _ c.if-s-at.true)

pub slice_bounds-packed_of-end : goal.slice_bounds-packed_of-end
slice_bounds-packed_of-end c = omega (arith, end-within c.args.s.now c.args.at (omega arith))

pub returns : goal.returns
unfolding first_at word_from text_at end_at
returns c = rw (lt-ltb _ _ c.if-s-at.false, c.packed_of.ensures, c.word_end-end.ensures, add-sub_cancel_left)
