use mathlib.Core.Path.{refl}
use Prim.Native.Nat.{◌≤◌}
use native.Mathlib.Omega.{arith}
use Rattle.writing.specs.Written.{reveal_text, split_text}
use Rattle.writer.proofs.Keeping.{reveal_used}
use Rattle.writer.proofs.Putting.{on_then, full_then, small, room-on, stay, field-some, node-is, node-next, repeat-none, repeat-more, repeat-all, repeat-full}
use Rattle.writer.proofs.Rules.{branch_by, action_w, action_s, action_r, action_g, contract-none, contract-more, part_by}
use Rattle.writer.proofs.+put_branch_put_contract_put_reveal_put_split.Goals as goal

pub put_branch-returns-in_err-q : goal.put_branch-returns-in_err-q
put_branch-returns-in_err-q t c = branch_by _ _ _ _ _ _ c.branch_of-b.ensures.0 c.branch_of-b.ensures.1 refl (full_then _ _ _ c.in_err-q.ensures c.from_residual.ensures)

pub put_branch-returns-in_err-l : goal.put_branch-returns-in_err-l
put_branch-returns-in_err-l t c = branch_by _ _ _ _ _ _ c.branch_of-b.ensures.0 c.branch_of-b.ensures.1 refl (on_then _ _ _ c.in_ok-q.ensures (full_then _ _ _ c.in_err-l.ensures c.from_residual-in_err-l.ensures))

pub put_branch-put_field-requires-2 : goal.put_branch-put_field-requires-2
put_branch-put_field-requires-2 t c = room-on (omega arith) c.in_ok-q.ensures

pub put_branch-put_leaf-requires-clause-room : goal.put_branch-put_leaf-requires-clause-room
put_branch-put_leaf-requires-clause-room t c = room-on (omega arith) c.in_ok-l.ensures

pub put_branch-put_leaf-requires-in_default-clause-room : goal.put_branch-put_leaf-requires-in_default-clause-room
put_branch-put_leaf-requires-in_default-clause-room t c = room-on (omega arith) c.in_ok-l.ensures

pub put_branch-put_split-requires : goal.put_branch-put_split-requires
put_branch-put_split-requires t c = (omega arith, (room-on (omega arith) c.in_ok-l.ensures))

pub put_branch-put_reveal-requires : goal.put_branch-put_reveal-requires
put_branch-put_reveal-requires t c = (omega arith, (room-on (omega arith) c.in_ok-l.ensures))

pub put_branch-returns-in-0 : goal.put_branch-returns-in-0
put_branch-returns-in-0 t c = branch_by _ _ _ _ _ _ c.branch_of-b.ensures.0 c.branch_of-b.ensures.1 (action_w _ _ _ _ _ c.in-0.is c.branch_of-b.ensures.2 c.branch_of-b.ensures.3) (on_then _ _ _ c.in_ok-q.ensures (on_then _ _ _ c.in_ok-l.ensures (c.put_leaf.ensures)))

pub put_branch-returns-in-1 : goal.put_branch-returns-in-1
put_branch-returns-in-1 t c = branch_by _ _ _ _ _ _ c.branch_of-b.ensures.0 c.branch_of-b.ensures.1 (action_s _ _ _ _ _ c.in-1.is c.branch_of-b.ensures.2 c.branch_of-b.ensures.3) (on_then _ _ _ c.in_ok-q.ensures (on_then _ _ _ c.in_ok-l.ensures (c.put_split.ensures)))

pub put_branch-returns-in-2 : goal.put_branch-returns-in-2
put_branch-returns-in-2 t c = branch_by _ _ _ _ _ _ c.branch_of-b.ensures.0 c.branch_of-b.ensures.1 (action_r _ _ _ _ _ c.in-2.is c.branch_of-b.ensures.2 c.branch_of-b.ensures.4) (on_then _ _ _ c.in_ok-q.ensures (on_then _ _ _ c.in_ok-l.ensures (c.put_reveal.ensures)))

pub put_branch-returns-in_default : goal.put_branch-returns-in_default
put_branch-returns-in_default t c = branch_by _ _ _ _ _ _ c.branch_of-b.ensures.0 c.branch_of-b.ensures.1 (action_g _ _ _ _ _ (omega arith) c.branch_of-b.ensures.2 c.branch_of-b.ensures.3) (on_then _ _ _ c.in_ok-q.ensures (on_then _ _ _ c.in_ok-l.ensures (c.put_leaf-in_default.ensures)))

pub put_contract-returns-then-depth-eq0 : goal.put_contract-returns-then-depth-eq0
put_contract-returns-then-depth-eq0 t c = contract-none _ _ _ c.if-depth-eq0.true (stay c.requires.room.small)

pub put_contract-returns-in_err-q : goal.put_contract-returns-in_err-q
put_contract-returns-in_err-q t c = contract-more _ _ _ _ c.if-depth-eq0.false c.count_of-n.ensures (full_then _ _ _ c.in_err-q.ensures c.from_residual.ensures)

pub put_contract-returns-in_err-l : goal.put_contract-returns-in_err-l
put_contract-returns-in_err-l t c = contract-more _ _ _ _ c.if-depth-eq0.false c.count_of-n.ensures (on_then _ _ _ c.in_ok-q.ensures (full_then _ _ _ c.in_err-l.ensures c.from_residual-in_err-l.ensures))

pub put_contract-put_field-requires : goal.put_contract-put_field-requires
put_contract-put_field-requires t c = room-on (omega arith) c.in_ok-q.ensures

pub put_contract-overflow_add-cur : goal.put_contract-overflow_add-cur
put_contract-overflow_add-cur t c = let s = small c.in_ok-l.ensures in omega (arith, s.short, s.nodes)

pub put_contract-loop-init : goal.put_contract-loop-init
put_contract-loop-init t c = repeat-none _ (small (node-is _ (small c.in_ok-q.ensures) (field-some _) c.in_ok-l.ensures))

pub put_contract-put_branch-requires : goal.put_contract-put_branch-requires
put_contract-put_branch-requires t c = (omega (arith, c.if-depth-eq0.false), (room-on (omega arith) c.loop.invariant))

pub put_contract-returns-in_err-cur : goal.put_contract-returns-in_err-cur
put_contract-returns-in_err-cur t c = contract-more _ _ _ _ c.if-depth-eq0.false c.count_of-n.ensures (on_then _ _ _ c.in_ok-q.ensures (node-next _ (small c.in_ok-q.ensures) (field-some _) c.in_ok-l.ensures _ (repeat-full _ _ c.loop-test.true (repeat-more _ _ _ c.loop.invariant c.in_err-cur.ensures) c.from_residual-in_err-cur.ensures)))

pub put_contract-loop-preserved : goal.put_contract-loop-preserved
put_contract-loop-preserved t c = repeat-more _ _ _ c.loop.invariant c.in_ok-cur.ensures

pub put_contract-returns : goal.put_contract-returns
put_contract-returns t c = contract-more _ _ _ _ c.if-depth-eq0.false c.count_of-n.ensures (on_then _ _ _ c.in_ok-q.ensures (node-next _ (small c.in_ok-q.ensures) (field-some _) c.in_ok-l.ensures _ (repeat-all _ _ c.loop.auto.counter-end c.loop-test.false c.loop.invariant)))

pub put_split-returns-in_err-cur : goal.put_split-returns-in_err-cur
unfolding split_text
put_split-returns-in_err-cur t c = full_then _ _ _ c.in_err-cur.ensures c.from_residual.ensures

pub put_split-loop-init : goal.put_split-loop-init
put_split-loop-init t c = repeat-none _ (small c.in_ok-cur.ensures)

pub put_split-put_field-requires : goal.put_split-put_field-requires
put_split-put_field-requires t c = room-on (omega arith) c.loop.invariant

pub put_split-returns-in_err-l : goal.put_split-returns-in_err-l
unfolding split_text
put_split-returns-in_err-l t c = on_then _ _ _ c.in_ok-cur.ensures (repeat-full _ _ c.loop-test.true (repeat-more _ _ _ c.loop.invariant (part_by _ _ _ _ c.weight_of.ensures (full_then _ _ _ c.in_err-l.ensures refl))) c.from_residual-in_err-l.ensures)

pub put_split-put_contract-requires : goal.put_split-put_contract-requires
put_split-put_contract-requires t c = (omega arith, (room-on (omega arith) c.in_ok-l.ensures))

pub put_split-returns-in_err-cur-2 : goal.put_split-returns-in_err-cur-2
unfolding split_text
put_split-returns-in_err-cur-2 t c = on_then _ _ _ c.in_ok-cur.ensures (repeat-full _ _ c.loop-test.true (repeat-more _ _ _ c.loop.invariant (part_by _ _ _ _ c.weight_of.ensures (on_then _ _ _ c.in_ok-l.ensures c.in_err-cur-2.ensures))) c.from_residual-in_err-cur-2.ensures)

pub put_split-loop-preserved : goal.put_split-loop-preserved
put_split-loop-preserved t c = repeat-more _ _ _ c.loop.invariant (part_by _ _ _ _ c.weight_of.ensures (on_then _ _ _ c.in_ok-l.ensures c.in_ok-cur-2.ensures))

pub put_split-returns : goal.put_split-returns
unfolding split_text
put_split-returns t c = on_then _ _ _ c.in_ok-cur.ensures (repeat-all _ _ c.loop.auto.counter-end c.loop-test.false c.loop.invariant)

pub put_reveal-returns-in_err-q : goal.put_reveal-returns-in_err-q
unfolding reveal_text
put_reveal-returns-in_err-q t c = full_then _ _ _ c.in_err-q.ensures c.from_residual.ensures

pub put_reveal-returns-in_err-l : goal.put_reveal-returns-in_err-l
unfolding reveal_text
put_reveal-returns-in_err-l t c = on_then _ _ _ c.in_ok-q.ensures (full_then _ _ _ c.in_err-l.ensures c.from_residual-in_err-l.ensures)

pub put_reveal-returns-in_err-e : goal.put_reveal-returns-in_err-e
unfolding reveal_text
put_reveal-returns-in_err-e t c = on_then _ _ _ c.in_ok-q.ensures (on_then _ _ _ c.in_ok-l.ensures (full_then _ _ _ c.in_err-e.ensures c.from_residual-in_err-e.ensures))

pub put_reveal-returns-in_err-f : goal.put_reveal-returns-in_err-f
unfolding reveal_text
put_reveal-returns-in_err-f t c = on_then _ _ _ c.in_ok-q.ensures (on_then _ _ _ c.in_ok-l.ensures (on_then _ _ _ c.in_ok-e.ensures (full_then _ _ _ c.in_err-f.ensures c.from_residual-in_err-f.ensures)))

pub put_reveal-returns : goal.put_reveal-returns
unfolding reveal_text
put_reveal-returns t c = on_then _ _ _ c.in_ok-q.ensures (on_then _ _ _ c.in_ok-l.ensures (on_then _ _ _ c.in_ok-e.ensures (on_then _ _ _ c.in_ok-f.ensures (on_then _ _ _ (reveal_used _ _ c.requires.room.small (let e : 1 ≤ 2 = omega arith in e) c.in_ok-q.ensures _ _ c.in_ok-l.ensures c.in_ok-e.ensures c.in_ok-f.ensures) c.put_contract.ensures))))

pub put_reveal-put_field-requires : goal.put_reveal-put_field-requires
put_reveal-put_field-requires t c = room-on (omega arith) c.in_ok-q.ensures

pub put_reveal-put_all_listed-requires : goal.put_reveal-put_all_listed-requires
put_reveal-put_all_listed-requires t c = record { room = room-on (omega arith) c.in_ok-l.ensures }

pub put_reveal-put_condition-requires : goal.put_reveal-put_condition-requires
put_reveal-put_condition-requires t c = record { room = room-on (omega arith) c.in_ok-e.ensures }

pub put_reveal-overflow_add-f : goal.put_reveal-overflow_add-f
put_reveal-overflow_add-f t c = let s = small c.in_ok-f.ensures in omega (arith, s.short, s.branches)

pub put_reveal-put_contract-requires : goal.put_reveal-put_contract-requires
put_reveal-put_contract-requires t c = (omega arith, (room-on (omega arith) (reveal_used _ _ c.requires.room.small (let e : 1 ≤ 2 = omega arith in e) c.in_ok-q.ensures _ _ c.in_ok-l.ensures c.in_ok-e.ensures c.in_ok-f.ensures)))
