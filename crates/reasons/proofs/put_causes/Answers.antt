use mathlib.Core.Path.{◌≡◌, refl, ap, ◌∙◌}
use Prim.Native.Nat.{◌<◌}
use native.Mathlib.Omega.{arith}
use lib.ListN.{length, get_or}
use Rattle.bitml.specs.Sheet.{branches_at, branch_at}
use Rattle.bitml.specs.Why.{cause}
use Rattle.tables.specs.Entries.{held, people}
use Rattle.tables.specs.SheetOf.{branch_count, branch_number, sheet_in}
use Rattle.tables.proofs.SheetOf.{count_of, branch-small}
use Rattle.owning.specs.Causes.{number}
use Rattle.texts.proofs.Lengths.{branch-room}
use Rattle.reasons.proofs.Reasons.{cause_is, causes-start, causes-next, causes-end}
use Rattle.reasons.proofs.put_causes.Goals as goal

pub loop-i-init : goal.loop-i-init
loop-i-init c = (refl, omega arith, causes-start _ _ _ _ _)

pub bar-requires : goal.bar-requires
unfolding branch_count branch_number
bar-requires c =
    let h = c.requires.p_bound in
    let E = held c.args.index.table.cells.now in
    let i = c.loop-i.i in
    let hi : i < branch_count E c.args.n = omega (arith, ap length c.branches_of-branches.ensures) in
    record { p_bound = (h.0, h.1, omega (arith, ap (λ bs. get_or bs i 0) c.branches_of-branches.ensures, branch-small E c.args.n i hi)) }

pub put_branch-end-requires : goal.put_branch-end-requires
unfolding branch_count
put_branch-end-requires c =
    let t = c.args.index.table in
    let h = c.requires.p_bound in
    let hi : c.loop-i.i < branch_count (held t.cells.now) c.args.n = omega (arith, ap length c.branches_of-branches.ensures) in
    omega (arith, c.loop-i.invariant.0, c.loop-i.invariant.1, (t.ready.promises.node c.args.n h.1).few, h.2)

pub loop-i-preserved : goal.loop-i-preserved
unfolding branch_count branch_number
loop-i-preserved c =
    let a = c.args in
    let t = a.index.table in
    let h = c.requires.p_bound in
    let l = c.loop-i in
    let w = c.put_branch-end.ensures in
    let s = sheet_in t.cells.now in
    let hi : l.i < branch_count (held t.cells.now) a.n = omega (arith, ap length c.branches_of-branches.ensures) in
    let hs : l.i < length (branches_at s a.n) = omega (arith, count_of (people t.cells.now) (held t.cells.now) a.n h.1) in
    let e : c.number.result ≡ cause s a.p a.n (branch_at s a.n l.i) =
    c.number.ensures ∙ ap number c.unwrap_or-cause.ensures ∙ cause_is t.cells.now t.ready a.p a.n l.i _ c.bar.result h.1 hi c.requires.fact (ap (λ bs. get_or bs l.i 0) c.branches_of-branches.ensures) c.bar.ensures in
    (w.long ∙ l.invariant.0, omega (arith, l.invariant.1, branch-room _ _ w), causes-next s a.p a.n l.i hs e l.invariant.2 w)

pub returns : goal.returns
unfolding branch_count
returns c =
    let a = c.args in
    let t = a.index.table.cells.now in
    let l = c.loop-i in
    causes-end (sheet_in t) a.p a.n l.i (omega (arith, ap length c.branches_of-branches.ensures, count_of (people t) (held t) a.n c.requires.p_bound.1)) l.invariant.2
