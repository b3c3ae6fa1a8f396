use mathlib.Core.Path.{sym, ◌∙◌}
use mathlib.Core.Bool.{false≢true}
use native.Mathlib.Omega.{arith}
use borrow.Author.Tests.{ne_eqb}
use Rattle.std.proofs.lemmas.Bool.{ltb-true, ltb-false}
use Rattle.lines.proofs.Bytes.{limited-short, limited-before, limited-lower, limited-after, limited-there}
use Rattle.lines.proofs.limited.Goals.{then-e-at-via-then-e-at, then-e-at-via-else-e-at+then-number, then-e-at-2, else-e-at-2}
use Rattle.lines.proofs.limited.Goals as goal

pub returns-then-s-le-BYTES : goal.returns-then-s-le-BYTES
returns-then-s-le-BYTES c = limited-short _ _ c.if-s-le-BYTES.true

pub returns-then-e-at : goal.returns-then-e-at
returns-then-e-at c = elim c.then-e-at.branch [
  | then-e-at-via-then-e-at w ↦ limited-before _ _ c.if-s-le-BYTES.false c.passing-at.ensures _ _ w.if-e-at.true
  | then-e-at-via-else-e-at+then-number w ↦ elim w.if-e-at-2.branch [
    | then-e-at-2 u ↦ limited-lower _ _ c.if-s-le-BYTES.false c.passing-at.ensures _ _ u.if-e-at-2.true
        (omega (arith, u.number.ensures, u.number-then-e-at-2.ensures, ltb-true _ _ (sym u.value-is ∙ w.if-number.true)))
    | else-e-at-2 u ↦ absurd (false≢true (sym (ne_eqb _ _ u.if-e-at-2.false) ∙ sym u.value-is ∙ w.if-number.true))
  ]
]

pub returns : goal.returns
returns c = elim c.if-e-at-2.branch [
  | then-e-at-2 w ↦ limited-there _ _ c.if-s-le-BYTES.false c.passing-at.ensures _ _ w.if-e-at-2.true
      (omega (arith, w.number.ensures, w.number-then-e-at-2.ensures, ltb-false _ _ (sym w.value-is ∙ c.if-number.false)))
  | else-e-at-2 w ↦ limited-after _ _ c.if-s-le-BYTES.false c.passing-at.ensures _ _ (omega (arith, c.if-e-at.false, w.if-e-at-2.false))
]
