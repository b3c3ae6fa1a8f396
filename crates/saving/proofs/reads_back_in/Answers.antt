use mathlib.Core.Path.{refl, sym, ◌∙◌}
use native.Mathlib.Omega.{arith}
use borrow.Author.Tests.{ne_eqb}
use Rattle.saving.proofs.Saving.{back-cells, back-behind, back_compared, back-refused}
use Rattle.saving.proofs.reads_back_in.Goals as goal

pub same_sheet-requires-clause-u_in_bounds : goal.same_sheet-requires-clause-u_in_bounds
same_sheet-requires-clause-u_in_bounds c = back-cells _ _ c.args.t.now _ c.in-Ok.ensures _ _ refl (omega (arith, c.requires.s_len_bound.1, c.sheet.auto.t))

pub returns-then-at-s : goal.returns-then-at-s
returns-then-at-s c = c.same_sheet.ensures ∙ sym (back_compared _ _ _ _ c.in-Ok.ensures _ _ refl c.if-at-s.true)

pub returns-else-at-s : goal.returns-else-at-s
returns-else-at-s c = ne_eqb _ _ c.if-at-s.false ∙ sym (back-behind _ _ c.args.t.now _ c.in-Ok.ensures _ _ refl c.if-at-s.false)

pub returns-in-Err : goal.returns-in-Err
returns-in-Err c = sym (back-refused _ _ c.args.t.now _ c.in-Err.ensures _ _ refl)
