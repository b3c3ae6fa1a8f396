use native.Mathlib.Omega.{arith}
use mathlib.Core.Path.{sym, ◌∙◌}
use mathlib.Core.List.{map}
use Rattle.duties.specs.Duties.{handed}
use Rattle.refusals.proofs.Numbers.{number-some}
use Rattle.counts.proofs.Looking.{absent, place-in, entry-small, kind-renews, kind-other}
use borrow.Author.Tests.{not-true, not-false}
use Rattle.counts.proofs.Firing.{enabled_by}
use Rattle.counts.proofs.Renewing.{renew_absent, renew-other, renew_late}
use Rattle.counts.proofs.Counts.renew.Goals as goal

pub returns-in_default : goal.returns-in_default
returns-in_default c = let p = c.requires in rw c.refused.ensures (renew_absent _ _ _ _ (map handed c.args.vs.now) c.args.index.table.ready p.fit (absent _ _ _ _ p.fit c.in_default.ensures))

pub branch-index-requires : goal.branch-index-requires
branch-index-requires c = let k = c.in-Some.ensures in record { b_in_bounds = entry-small c.args.index.table.cells.now _ c.args.b k.3 k.2 }

pub returns-then-ne : goal.returns-then-ne
returns-then-ne c = let p = c.requires in let k = c.in-Some.ensures in
    rw c.refused-then-ne.ensures (renew-other _ _ _ _ (map handed c.args.vs.now) c.args.index.table.ready p.fit k.0 k.1 k.2 _ k.3 (kind-other _ c.branch-index.ensures.kind (not-true _ (sym c.ne.ensures ∙ c.if-ne.true))))

pub signed_for-mask-requires : goal.signed_for-mask-requires
signed_for-mask-requires c = let p = c.requires in let k = c.in-Some.ensures in place-in _ c.args.cells.now _ _ _ c.args.index.table.ready p.fit k.0 k.2 p.cells_len

pub held_back-requires : goal.held_back-requires
held_back-requires c = let k = c.in-Some.ensures in record { q_in_bounds = entry-small c.args.index.table.cells.now _ c.args.b k.3 k.2 }

pub returns-in-Some-held_back : goal.returns-in-Some-held_back
returns-in-Some-held_back c = let a = c.args in let p = c.requires in let k = c.in-Some.ensures in
    rw c.refused-in-Some-held_back.ensures
    (renew_late _ _ _ _ (map handed a.vs.now) a.index.table.ready p.fit k.0 k.1 k.2 _ k.3 (kind-renews _ c.branch-index.ensures.kind (not-false _ (sym c.ne.ensures ∙ c.if-ne.false)))
    c.signed_for-mask.ensures c.in-Some-held_back.ensures (number-some _))

pub renew_as-requires : goal.renew_as-requires
renew_as-requires c = let a = c.args in let p = c.requires in let k = c.in-Some.ensures in
    record { fit = p.fit; enabled = enabled_by _ _ _ _ _ k.0 k.1 k.2 k.3 c.signed_for-mask.ensures c.in_default-held_back.ensures; q_value = kind-renews _ c.branch-index.ensures.kind (not-false _ (sym c.ne.ensures ∙ c.if-ne.false)); by_index = p.by_index; cells_long_in_bounds = omega (arith, p.cells_len) }
