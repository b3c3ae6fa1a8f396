use native.Mathlib.Omega.{arith}
use Prim.Native.Nat.{◌<◌}
use mathlib.Core.Path.{◌≡◌, ap}
use lib.ListN.{length, get_or}
use Rattle.tables.specs.Entries.{held, people}
use Rattle.tables.specs.SheetOf.{branch_count, branch_number}
use Rattle.tables.proofs.SheetOf.{branch-small}
use Rattle.ways.proofs.Turning.{none_first, none_more, turned, not_turned}
use Rattle.ways.proofs.toward.Goals as goal

pub loop-branch-init : goal.loop-branch-init
loop-branch-init c = none_first _ _ _ _ _

pub node_toward-requires : goal.node_toward-requires
unfolding branch_count branch_number
node_toward-requires c =
    let E = held c.args.index.table.cells.now in
    let i = c.loop-branch.branch in
    let h : i < branch_count E c.args.n = omega (arith, ap length c.branches_of-branches.ensures) in
    record { dist_len = (c.requires.dist_len.0, omega (arith, ap (λ bs. get_or bs i 0) c.branches_of-branches.ensures, branch-small E c.args.n i h)) }

pub returns-in-Some : goal.returns-in-Some
unfolding branch_count branch_number
returns-in-Some c =
    let t = c.args.index.table in
    let p = c.requires.dist_len in
    let i = c.loop-branch.branch in
    let E = held t.cells.now in
    let h : i < branch_count E c.args.n = omega (arith, ap length c.branches_of-branches.ensures) in
    turned (people t.cells.now) E t.ready.promises c.args.dist.now c.args.n i _ _ (ap (λ bs. get_or bs i 0) c.branches_of-branches.ensures) p.1 p.2 h c.loop-branch.invariant c.in-Some.ensures.1

pub loop-branch-preserved : goal.loop-branch-preserved
unfolding branch_number
loop-branch-preserved c =
    let t = c.args.index.table.cells.now in
    let i = c.loop-branch.branch in
    none_more (people t) (held t) c.args.dist.now c.args.n _ i _ (ap (λ bs. get_or bs i 0) c.branches_of-branches.ensures) c.loop-branch.invariant c.in_default.ensures

pub returns : goal.returns
unfolding branch_count
returns c =
    let t = c.args.index.table in
    let p = c.requires.dist_len in
    let l = c.loop-branch in
    let e : l.branch ≡ branch_count (held t.cells.now) c.args.n = omega (arith, ap length c.branches_of-branches.ensures) in
    λ g x. absurd (not_turned (people t.cells.now) (held t.cells.now) t.ready.promises c.args.dist.now c.args.n l.branch p.1 p.2 (omega arith) (omega arith) l.invariant g x)
