use Rattle.steps.proofs.Laws.{told_state-err, passed, refused, yes', no', stop, called, call_refused, promised, took_first}
use Rattle.lines.proofs.Laws.{owned_from, between-ready, between_took, between_added, counted_as}
use native.Mathlib.Omega.{arith}
use mathlib.Core.Path.{◌∙◌}
use borrow.Author.Tests.{eq-eqb, ne_eqb}
use Rattle.lines.specs.Definition.{define_at}
use Rattle.lines.proofs.define.Goals as goal

pub returns-in_err-w-clause-met : goal.returns-in_err-w-clause-met
unfolding define_at
returns-in_err-w-clause-met c = refused _ _ _ _ c.in_err-w.ensures (told_state-err _ _ c.from_residual.ensures.1)

pub returns-then-w-ne-DEF-clause-met : goal.returns-then-w-ne-DEF-clause-met
unfolding define_at
returns-then-w-ne-DEF-clause-met c = rw c.refused.ensures (passed _ _ _ _ c.in_ok-w.ensures (no' _ (ne_eqb _ _ c.if-w-ne-DEF.true) stop))

pub deposits-requires : goal.deposits-requires
deposits-requires c = let k = took_first c.in_ok-w.ensures in
    let b = between_took _ _ _ _ _ c.requires.between k in
    record { has_room = between-ready _ _ _ b (omega arith) (omega (arith, k.defs, c.requires.defs_lt_most_defs.0)); n_bound = omega (arith, b.few-listed, b.few-branches, k.defs, c.requires.defs_lt_most_defs.0, c.requires.defs_lt_most_defs.1) }

pub returns-in_err-f-clause-met : goal.returns-in_err-f-clause-met
unfolding define_at
returns-in_err-f-clause-met c = passed _ _ _ _ c.in_ok-w.ensures (yes' _ (eq-eqb _ _ c.if-w-ne-DEF.false) (call_refused _ c.in_err-f.ensures.met (told_state-err _ _ c.from_residual-in_err-f.ensures.1)))

pub owned-requires : goal.owned-requires
owned-requires c = let k = took_first c.in_ok-w.ensures in
    let b = between_took _ _ _ _ _ c.requires.between k in
    let a = promised c.in_ok-f.ensures.met in
    record { between = rw c.deposits.ensures.same.0 (between_added _ _ _ _ _ _ b a (omega (arith, c.requires.defs_lt_most_defs.1))); defs_lt_most_defs = omega (arith, a.defs, k.defs, c.requires.defs_lt_most_defs.0) }

pub returns-clause-met : goal.returns-clause-met
unfolding define_at
returns-clause-met c = let k = took_first c.in_ok-w.ensures in
    let a = promised c.in_ok-f.ensures.met in
    passed _ _ _ _ c.in_ok-w.ensures (yes' _ (eq-eqb _ _ c.if-w-ne-DEF.false) (owned_from _ _ _ _ _ _ _ _ (called _ c.in_ok-f.ensures.met (counted_as _ _ _ _ _ _ (a.defs ∙ k.defs) (rw (c.deposits.ensures.same.0) at c.owned.ensures.met)))))
