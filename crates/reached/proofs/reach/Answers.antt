use Prim.Native.Nat.{◌+◌, ◌<◌}
use native.Mathlib.Omega.{arith}
use mathlib.Core.Path.{◌≡◌, sym, ap, subst}
use Rattle.reached.specs.Marks.{Searched, LedUpTo}
use Rattle.reached.proofs.Reaching.{first-reached, marks-reached}
use Rattle.reached.proofs.Queue.{marks-none, visited, led_first, led_next, head_in, grown_mark}
use Rattle.tables.specs.Entries.{held, people}
use Rattle.reached.proofs.reach.Goals as goal

pub loop-head-init : goal.loop-head-init
loop-head-init c =
    let t = c.args.index.table in
    let n = c.new-search.ensures in
    let m : Searched t.cells.now c.new-search.result = rw (n.marks, n.queue, n.len) (marks-none _ _) in
    let a = c.visit.ensures in
    let v = visited t.ready.promises m (first-reached _ _ t.ready.promises) (ap (λ k. k + 1) (sym n.len)) a.marks a.queue a.len in
    (omega arith, v.0, v.2, led_first _ _)

pub loop-head-preserved : goal.loop-head-preserved
loop-head-preserved c =
    let l = c.loop-head in
    let v = c.visit_def.ensures in
    let h : l.head < l.search.len = omega arith in (
      head_in l.head l.invariant.1 v.searched_2 v.grown h,
      v.searched_2,
      grown_mark _ _ 0 v.grown l.invariant.2,
      led_next l.head l.invariant.1 v.searched_2 h v.grown l.invariant.3 v.def_led,
    )

pub returns : goal.returns
returns c =
    let t = c.args.index.table in
    let l = c.loop-head in
    let s = l.search in
    let e : l.head ≡ s.len = omega arith in
    marks-reached (people t.cells.now) (held t.cells.now) t.ready.promises s.marks.now s.queue s.len l.invariant.1 (subst (LedUpTo (held t.cells.now) s.marks.now) e l.invariant.3) _ l.invariant.2 c.spread.ensures
