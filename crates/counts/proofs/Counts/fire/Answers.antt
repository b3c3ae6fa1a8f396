use native.Mathlib.Omega.{arith}
use mathlib.Core.Path.{sym, ap, ◌∙◌}
use Rattle.tables.specs.Kinds.{code}
use Rattle.refusals.proofs.Numbers.{number-some}
use Rattle.counts.proofs.Looking.{absent, kind-renews, kind-other, place-in, entry-small}
use Rattle.counts.proofs.Firing.{fire_absent, fire-renewal, fire_late, enabled_by}
use Rattle.counts.proofs.Counts.fire.Goals as goal

pub returns-in_default : goal.returns-in_default
returns-in_default c = let p = c.requires in rw c.refused.ensures (fire_absent _ _ _ _ c.args.index.table.ready p.fit (absent _ _ _ _ p.fit c.in_default.ensures))

pub branch-kind-requires : goal.branch-kind-requires
branch-kind-requires c = let k = c.in-Some.ensures in record { b_in_bounds = entry-small c.args.index.table.cells.now _ c.args.b k.3 k.2 }

pub returns-then-eq : goal.returns-then-eq
returns-then-eq c = let p = c.requires in let k = c.in-Some.ensures in
    rw c.refused-then-eq.ensures (fire-renewal _ _ _ _ c.args.index.table.ready p.fit k.0 k.1 k.2 _ k.3 (kind-renews _ c.branch-kind.ensures.kind (sym c.eq.ensures ∙ c.if-eq.true)))

pub signed_for-mask-requires : goal.signed_for-mask-requires
signed_for-mask-requires c = let p = c.requires in let k = c.in-Some.ensures in place-in _ c.args.cells.now _ _ _ c.args.index.table.ready p.fit k.0 k.2 p.cells_len

pub held_back-requires : goal.held_back-requires
held_back-requires c = let k = c.in-Some.ensures in record { q_in_bounds = entry-small c.args.index.table.cells.now _ c.args.b k.3 k.2 }

pub returns-in-Some-held_back : goal.returns-in-Some-held_back
returns-in-Some-held_back c = let a = c.args in let p = c.requires in let k = c.in-Some.ensures in
    rw c.refused-in-Some-held_back.ensures
    (fire_late _ _ _ _ a.index.table.ready p.fit k.0 k.1 k.2 _ k.3 (kind-other _ c.branch-kind.ensures.kind (sym c.eq.ensures ∙ c.if-eq.false))
    c.signed_for-mask.ensures c.in-Some-held_back.ensures (number-some _))

pub withdraw-requires : goal.withdraw-requires
withdraw-requires c = let a = c.args in let p = c.requires in let k = c.in-Some.ensures in
    record { fit = p.fit; enabled = enabled_by _ _ _ _ _ k.0 k.1 k.2 k.3 c.signed_for-mask.ensures c.in_default-held_back.ensures; q_value = sym c.branch-kind.ensures.kind ∙ ap code c.in-Withdraw.is; cells_long_in_bounds = omega (arith, p.cells_len) }

pub split-requires : goal.split-requires
split-requires c = let a = c.args in let p = c.requires in let k = c.in-Some.ensures in
    record { fit = p.fit; enabled = enabled_by _ _ _ _ _ k.0 k.1 k.2 k.3 c.signed_for-mask.ensures c.in_default-held_back.ensures; q_value = sym c.branch-kind.ensures.kind ∙ ap code c.in-Split.is; cells_long_in_bounds = omega (arith, p.cells_len) }

pub reveal-requires : goal.reveal-requires
reveal-requires c = let a = c.args in let p = c.requires in let k = c.in-Some.ensures in
    record { fit = p.fit; enabled = enabled_by _ _ _ _ _ k.0 k.1 k.2 k.3 c.signed_for-mask.ensures c.in_default-held_back.ensures; q_value = sym c.branch-kind.ensures.kind ∙ ap code c.in-Reveal.is; cells_long_in_bounds = omega (arith, p.cells_len) }
