use mathlib.Core.Path.{refl, ◌∙◌}
use native.Mathlib.Omega.{arith}
use Rattle.tables.specs.Entries.{held, people}
use Rattle.tables.specs.SheetOf.{sheet_in}
use Rattle.tables.proofs.SheetOf.{nodes-are}
use Rattle.reached.proofs.Queue.{no_marks}
use Rattle.texts.proofs.Lengths.{step_room}
use Rattle.reasons.proofs.Reasons.{start_is, way-start, way_whole, way_next, way_end}
use Rattle.reasons.proofs.put_way.Goals as goal

pub distances-requires-clause-dist_len : goal.distances-requires-clause-dist_len
distances-requires-clause-dist_len c = no_marks

pub loop-n-init : goal.loop-n-init
loop-n-init c =
    let a = c.args in
    let t = a.index.table.cells.now in
    let ok = a.index.table.ready in
    let s = sheet_in t in
    let far = c.distances.ensures in
    let w = start_is t ok _ c.definition-n.ensures.root in
    let v = way-start s a.target _ far c.requires.target_value w.2 _ w.1 in
    (w.0, v.0, omega (arith, v.1, nodes-are (people t) (held t), ok.promises.limits.nodes), refl, way_whole s a.target _ far c.requires.target_value w.2 _ _ _ w.1)

pub loop-n-smaller : goal.loop-n-smaller
loop-n-smaller c = omega (arith, (c.toward-turn.ensures c.args.target c.distances.ensures).nearer)

pub loop-n-preserved : goal.loop-n-preserved
loop-n-preserved c =
    let t = c.args.index.table.cells.now in
    let l = c.loop-n in
    let i = l.invariant in
    let w = c.put_step-end.ensures in
    let u = c.toward-turn.ensures c.args.target c.distances.ensures in
    let here = c.loop-n-test.true in (
      omega (arith, u.there, nodes-are (people t) (held t)),
      omega (arith, u.nearer, here),
      omega (arith, u.nearer, i.2, step_room _ w),
      w.long ∙ i.3,
      way_next (sheet_in t) c.args.target _ l.n _ here u i.4 w,
    )

pub returns-clause-wrote : goal.returns-clause-wrote
returns-clause-wrote c = let l = c.loop-n in way_end (sheet_in c.args.index.table.cells.now) c.args.target c.distances.new.dist l.n (omega (arith, c.loop-n-test.false)) l.invariant.4
