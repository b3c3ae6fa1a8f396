use Rattle.steps.proofs.Laws.{told_state-err, passed, refused, called, call_refused, promised, took_number, most}
use Rattle.lines.proofs.Laws.{between-ready, between_took, between_added, counted_as}
use native.Mathlib.Omega.{arith}
use mathlib.Core.Path.{◌∙◌}
use Rattle.lines.specs.Definition.{owned_at}
use Rattle.lines.proofs.owned.Goals as goal

pub returns-in_err-n-clause-met : goal.returns-in_err-n-clause-met
unfolding owned_at
returns-in_err-n-clause-met c = refused _ _ _ _ c.in_err-n.ensures (told_state-err _ _ c.from_residual.ensures.1)

pub owners-requires : goal.owners-requires
owners-requires c = let k = took_number _ c.in_ok-n.ensures in
    let b = between_took _ _ _ _ _ c.requires.between k in
    let m = most _ _ _ c.in_ok-n.ensures in
    record { has_room = between-ready _ _ _ b (omega arith) (omega (arith, k.defs, c.requires.defs_lt_most_defs)); n_bound = omega (arith, m, b.few-listed, b.few-branches, k.defs, c.requires.defs_lt_most_defs) }

pub returns-in_err-f-clause-met : goal.returns-in_err-f-clause-met
unfolding owned_at
returns-in_err-f-clause-met c = passed _ _ _ _ c.in_ok-n.ensures (call_refused _ c.in_err-f.ensures.met (told_state-err _ _ c.from_residual-in_err-f.ensures.1))

pub root-requires : goal.root-requires
root-requires c = let k = took_number _ c.in_ok-n.ensures in
    let b = between_took _ _ _ _ _ c.requires.between k in
    let m = most _ _ _ c.in_ok-n.ensures in
    let a = promised c.in_ok-f.ensures.met in
    record { between = rw c.owners.ensures.same.0 (between_added _ _ _ _ _ _ b a (omega (arith, m))); defs_lt_most_defs = omega (arith, a.defs, k.defs, c.requires.defs_lt_most_defs) }

pub returns-clause-met : goal.returns-clause-met
unfolding owned_at
returns-clause-met c = let k = took_number _ c.in_ok-n.ensures in
    let a = promised c.in_ok-f.ensures.met in
    passed _ _ _ _ c.in_ok-n.ensures (called _ c.in_ok-f.ensures.met (counted_as _ _ _ _ _ _ (a.defs ∙ k.defs) (rw (c.owners.ensures.same.0) at c.root.ensures.met)))
