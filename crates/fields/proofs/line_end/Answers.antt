use mathlib.Core.Path.{sym, ◌∙◌}
use borrow.Author.Tests.{eq-eqb, ne_eqb, ltb-true}
use Rattle.std.proofs.lemmas.Grind.{get_or_default_zero}
use Rattle.fields.specs.Field.{line_end_at}
use Rattle.fields.proofs.line_end.Goals as goal

pub returns-in-Some-eq10 : goal.returns-in-Some-eq10
unfolding line_end_at
returns-in-Some-eq10 c = let e = c.in-Some-eq10.ensures.lookup in rw (sym e.0, eq-eqb _ _ (sym (get_or_default_zero c.args.s.now c.args.at _ (ltb-true _ _ (sym e.0))) ∙ sym e.1 ∙ c.in-Some-eq10.field-0-test))

pub returns-in-Some : goal.returns-in-Some
unfolding line_end_at
returns-in-Some c = let e = c.in-Some.ensures.lookup in rw (sym e.0, ne_eqb _ _ (λ q. c.in-Some.field-0-test.1 (e.1 ∙ get_or_default_zero c.args.s.now c.args.at _ (ltb-true _ _ (sym e.0)) ∙ q)))

pub returns-in-None : goal.returns-in-None
unfolding line_end_at
returns-in-None c = rw (sym c.in-None.ensures.lookup.0)
