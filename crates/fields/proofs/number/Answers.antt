use mathlib.Core.Bool.{true≢false}
use mathlib.Core.Path.{sym, ◌∙◌}
use native.Mathlib.Omega.{arith}
use borrow.Author.Tests.{eq-eqb, eqb-true, le-ltb}
use Rattle.std.proofs.lemmas.Result.{err_from_is_err_and}
use Rattle.fields.proofs.Laws.{comma_there, number_missing}
use Rattle.fields.proofs.Runs.{digits-within, number-none, number_past, number-zero, number-run}
use Rattle.fields.proofs.number.Goals.{then-g-from-via-then-g-from, then-g-from-via-else-g-from+then-not-ends, then-g-from-via-else-g-from+else-not-ends+then-s-from-eq48, then-from-g, else-from-g}
use Rattle.fields.proofs.number.Goals as goal

pub returns-in_err-from : goal.returns-in_err-from
returns-in_err-from c = let p = err_from_is_err_and c.from_residual.result c.from_residual.ensures.1 in rw (p.1, p.2) (number_missing c.args.s.now c.args.at _ _ c.in_err-from.ensures)

pub bounds-s-from : goal.bounds-s-from
bounds-s-from c = let t = comma_there c.args.s.now c.args.at c.in_ok-from.from c.in_ok-from.ensures in omega (arith, digits-within c.args.s.now c.in_ok-from.from c.digits-g.ensures (omega (arith, t.0, t.2)), c.if-from-g.true)

pub returns-then-g-from : goal.returns-then-g-from
returns-then-g-from c = elim c.then-g-from.branch [
  | then-g-from-via-then-g-from w ↦ number-none _ _ _ c.in_ok-from.ensures _ c.digits-g.ensures w.if-g-from.true
  | then-g-from-via-else-g-from+then-not-ends w ↦ number_past _ _ _ c.in_ok-from.ensures _ c.digits-g.ensures (sym w.ends.ensures ∙ w.if-not-ends.true)
  | then-g-from-via-else-g-from+else-not-ends+then-s-from-eq48 w ↦ elim w.if-from-g.branch [
    | then-from-g v ↦ number-zero _ _ _ c.in_ok-from.ensures _ c.digits-g.ensures w.if-g-from.false (sym w.ends.ensures ∙ w.if-not-ends.false) (omega (arith, v.if-from-g.true)) (eqb-true _ _ (sym v.value-is ∙ w.if-s-from-eq48.true))
    | else-from-g v ↦ absurd (true≢false (sym w.if-s-from-eq48.true ∙ v.value-is ∙ le-ltb _ _ v.if-from-g.false))
  ]
]

pub returns : goal.returns
returns c = sym (number-run _ _ _ c.in_ok-from.ensures _ c.digits-g.ensures c.if-g-from.false (sym c.ends.ensures ∙ c.if-not-ends.false) λ h q. elim c.if-from-g.branch [
  | then-from-g v ↦ true≢false (sym (eq-eqb _ _ q) ∙ sym v.value-is ∙ c.if-s-from-eq48.false)
  | else-from-g v ↦ omega (arith, v.if-from-g.false)
])
