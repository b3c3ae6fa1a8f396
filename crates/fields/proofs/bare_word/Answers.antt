use native.Mathlib.Nat.{add-sub_cancel_left}
use native.Mathlib.Omega.{arith}
use Rattle.fields.proofs.Laws.{end-within, one_letter}
use Rattle.fields.specs.Field.{word_from, text_at, end_at}
use Rattle.fields.proofs.bare_word.Goals as goal

pub returns-then-s-from-ne-LF : goal.returns-then-s-from-ne-LF
returns-then-s-from-ne-LF c = rw c.from.ensures (one_letter _ _ (omega (arith, c.if-s-from-gt1.true)) c.if-s-from-eq-COMMA.true c.if-s-from-ne-COMMA.true c.if-s-from-ne-LF.true)

pub slice_bounds-packed_of-end : goal.slice_bounds-packed_of-end
slice_bounds-packed_of-end c = omega (arith, end-within c.args.s.now c.args.from c.requires)

pub returns : goal.returns
unfolding word_from text_at end_at
returns c = rw (c.packed_of.ensures, c.field_end-end.ensures, add-sub_cancel_left)
