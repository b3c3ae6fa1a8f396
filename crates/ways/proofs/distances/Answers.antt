use native.Mathlib.Omega.{arith}
use Prim.Native.Nat.{◌<◌}
use mathlib.Core.Path.{◌≡◌, refl, ◌∙◌, subst}
use lib.ListN.{get_or}
use lib.Seq.{get_or-set_same}
use Rattle.std.proofs.Common.{rules}
use Rattle.tables.specs.Entries.{held, people}
use Rattle.bitml.proofs.Shortest.{near-there}
use Rattle.ways.specs.Marks.{Searched, Close, Led, LedUpTo}
use Rattle.ways.proofs.Queue.{visited}
use Rattle.ways.proofs.Leading.{marked-none, close_none, first-mark, close_first, led_first, led_next, close_next, all-exact}
use Rattle.ways.proofs.distances.Goals as goal

pub returns : goal.returns
returns c =
    let t = c.args.table in
    let l = c.loop-head in
    let s = l.search in
    let e : l.head ≡ s.len = omega arith in
    let d = all-exact (people t.cells.now) (held t.cells.now) t.ready.promises c.args.target s.marks.now s.queue s.len l.invariant.2 (subst (LedUpTo (held t.cells.now) s.marks.now s.queue) e l.invariant.5) l.invariant.4 in
    let q = l.invariant.0 ∙ c.visit.ensures.same ∙ c.new-search.ensures.same in
    search rules

pub loop-head-init : goal.loop-head-init
loop-head-init c =
    let t = c.args.table in
    let x = t.ready.promises in
    let p = c.requires in
    let n = c.new-search.ensures in
    let mk : Searched t.cells.now c.args.target c.new-search.result = rw (n.marks, n.queue, n.len) (marked-none _ _ _ _ _ p.dist_len.0 refl p.dist_len.1) in
    let cl : Close c.new-search.result.marks.now 0 = rw n.marks (close_none _ p.dist_len.1) in
    let a = c.visit.ensures in
    let v = visited x mk p.target_in_bounds 0 refl (omega arith) cl (near-there _ _) a.marks a.queue a.len in
    let z : get_or c.new-search.result.marks.now c.args.target 0 ≡ 0 = rw n.marks (p.dist_len.1 c.args.target) in
    (refl, omega arith, v.0.0, rw (a.queue, z, n.len) (get_or-set_same c.new-search.result.queue 0 c.args.target 0 (omega (arith, mk.wide))), first-mark _ _ v.0.1 v.2, led_first _ _ _, λ h. close_first _ _ v.0.1)

pub loop-head-preserved : goal.loop-head-preserved
loop-head-preserved c =
    let t = c.args.table.cells.now in
    let l = c.loop-head in
    let i = l.invariant in
    let s = c.visit_before.new.search in
    let v = c.visit_before.ensures in
    let h : l.head < l.search.len = omega arith in
    let e = c.namers-namers.ensures.table in
    let mk : Searched t c.args.target s = subst (λ g. Searched t g s) i.3 (subst (λ t. Searched t (get_or l.search.queue 0 0) s) e v.searched_2.0) in
    let g = v.further.marks c.args.target (omega (arith, i.4)) in (
      v.same ∙ i.0,
      omega (arith, v.further.more),
      mk,
      v.further.places 0 (omega arith) ∙ i.3,
      g ∙ i.4,
      led_next _ l.head i.2 v.further h i.5 (subst (λ t. Led (held t) s.marks.now (get_or l.search.queue l.head 0)) e v.led),
      close_next _ l.head i.2 mk v.further h v.searched_2.1,
    )
