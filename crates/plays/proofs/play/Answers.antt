use native.Mathlib.Omega.{arith}
use lib.ListN.{length}
use Rattle.plays.proofs.Looping.{plays-start, plays-room, plays-line, plays-ends, plays-inside, plays_good, plays-more, left_falls, within}
use Rattle.plays.proofs.play.Goals as goal

pub loop-due-init : goal.loop-due-init
loop-due-init c = let n = c.new-now in
    (c.args.to, plays-start _ _ _ _ _ n.result.counts n.result.cells.now _ n.ensures.0.fit n.ensures.1 c.requires.5 c.requires.2 c.due_at-due.ensures)

pub note-due-requires : goal.note-due-requires
note-due-requires c =
    let r = c.requires in
    let p = c.loop-due.invariant.1 in (
      plays-inside _ _ _ _ _ _ r.1 r.3 r.4 p _ c.in-Some.is,
      plays_good _ _ _ _ _ _ r.1 r.3 r.4 p _ c.in-Some.is,
      plays-line _ _ _ _ _ _ r.1 r.3 r.4 p,
      let e = plays-room _ _ _ _ _ _ r.1 r.3 r.4 p in omega arith,
    )

pub loop-due-smaller : goal.loop-due-smaller
loop-due-smaller c =
    let r = c.requires in
    let q = plays-more _ _ _ _ _ _ r.1 r.3 r.4 c.loop-due.invariant.1 _ c.in-Some.is _ _ _ _ c.act-now.ensures.does c.act-now.ensures.long c.note-due.ensures in
    let f = left_falls (length c.args.s.now) c.loop-due.due.next c.note-due.result.next c.note-due.result.event (within _ _ _ _ _ _ r.1 r.3 r.4 q) in
    rw c.in-Some.is f

pub loop-due-preserved : goal.loop-due-preserved
loop-due-preserved c =
    let r = c.requires in (
      c.loop-due.due.next,
      plays-more _ _ _ _ _ _ r.1 r.3 r.4 c.loop-due.invariant.1 _ c.in-Some.is _ _ _ _ c.act-now.ensures.does c.act-now.ensures.long c.note-due.ensures,
    )

pub returns : goal.returns
returns c =
    let r = c.requires in
    plays-ends _ _ _ _ _ _ r.1 r.3 r.4 c.loop-due.invariant.1 c.in_default.is _ c.new-now.ensures.0.plain _ _ c.end.ensures
