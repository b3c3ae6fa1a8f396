use native.Mathlib.Omega.{arith}
use mathlib.Core.Path.{refl, sym, subst, ◌∙◌}
use Prim.Native.Nat.{◌<◌}
use lib.ListN.{length}
use Rattle.tables.specs.Entries.{held}
use Rattle.counts.proofs.Splitting.{splits_start, splits_on_by, splits_end_by, made-room, part_in, parts-some, weight-some, share_by, parts-length, before_last, part-before, part-last}
use Rattle.counts.proofs.Counts.make_parts.Goals as goal

pub overflow_sub-last : goal.overflow_sub-last
overflow_sub-last c = let a = c.args in let u = c.requires.q_in_bounds in omega (arith, parts-length _ _ c.parts_of-parts.ensures, parts-some a.index.table.cells.now a.q a.index.table.ready u.0 u.1)

pub loop-n-init : goal.loop-n-init
loop-n-init c = let a = c.args in let p = c.requires in let u = p.q_in_bounds in (refl, splits_start _ _ _ _ _ a.index.table.ready u.0 u.1 u.3 u.4 p.contracts)

pub node-requires : goal.node-requires
node-requires c = let a = c.args in let p = c.requires in let u = p.q_in_bounds in let l = c.loop-n in let parts = c.parts_of-parts.ensures in
    record { n_in_bounds = subst (λ n. n < length (held a.index.table.cells.now).nodes) (sym (part-before _ _ parts l.n-index c.loop-n-test.true)) (part_in _ _ _ _ _ a.index.table.ready u.0 u.1 u.3 u.4 _ _ _ l.invariant.1) }

pub overflow_mul-share : goal.overflow_mul-share
overflow_mul-share c = let a = c.args in let p = c.requires in let u = p.q_in_bounds in let l = c.loop-n in let parts = c.parts_of-parts.ensures in
    omega (arith, share_by _ _ _ _ _ a.index.table.ready u.0 u.1 u.3 u.4 _ _ _ l.invariant.1 (part-before _ _ parts l.n-index c.loop-n-test.true) c.node.ensures.weight c.weigh-total.ensures u.2)

pub nonzero_div-share : goal.nonzero_div-share
nonzero_div-share c = let a = c.args in let p = c.requires in let u = p.q_in_bounds in let l = c.loop-n in let parts = c.parts_of-parts.ensures in
    omega (arith, c.weigh-total.ensures, weight-some a.index.table.cells.now a.q a.index.table.ready u.0 u.1)

pub put_contract-requires : goal.put_contract-requires
put_contract-requires c = let a = c.args in let p = c.requires in let u = p.q_in_bounds in let l = c.loop-n in let parts = c.parts_of-parts.ensures in
    (omega (arith, l.invariant.0, p.cells_long_in_bounds), made-room _ _ _ _ _ a.index.table.ready u.0 u.1 u.3 u.4 _ _ _ l.invariant.1)

pub overflow_add-self : goal.overflow_add-self
overflow_add-self c = let a = c.args in let p = c.requires in let u = p.q_in_bounds in let l = c.loop-n in let parts = c.parts_of-parts.ensures in
    omega (arith, made-room _ _ _ _ _ a.index.table.ready u.0 u.1 u.3 u.4 _ _ _ l.invariant.1)

pub overflow_sub-left : goal.overflow_sub-left
overflow_sub-left c = let a = c.args in let p = c.requires in let u = p.q_in_bounds in let l = c.loop-n in let parts = c.parts_of-parts.ensures in
    (share_by _ _ _ _ _ a.index.table.ready u.0 u.1 u.3 u.4 _ _ _ l.invariant.1 (part-before _ _ parts l.n-index c.loop-n-test.true) c.node.ensures.weight c.weigh-total.ensures u.2).1

pub loop-n-preserved : goal.loop-n-preserved
loop-n-preserved c = let a = c.args in let p = c.requires in let u = p.q_in_bounds in let l = c.loop-n in let parts = c.parts_of-parts.ensures in (
  c.put_contract.auto.cells ∙ l.invariant.0,
  rw c.put_contract.ensures (splits_on_by _ _ _ _ _ a.index.table.ready u.0 u.1 u.3 u.4 _ _ _ l.invariant.1 (part-before _ _ parts l.n-index c.loop-n-test.true) c.node.ensures.weight c.weigh-total.ensures (omega (arith, before_last _ _ parts))),
)

pub put_contract-requires-2 : goal.put_contract-requires-2
put_contract-requires-2 c = let a = c.args in let p = c.requires in let u = p.q_in_bounds in let l = c.loop-n in let parts = c.parts_of-parts.ensures in
    (omega (arith, l.invariant.0, p.cells_long_in_bounds), made-room _ _ _ _ _ a.index.table.ready u.0 u.1 u.3 u.4 _ _ _ l.invariant.1)

pub overflow_add-self-2 : goal.overflow_add-self-2
overflow_add-self-2 c = let a = c.args in let p = c.requires in let u = p.q_in_bounds in let l = c.loop-n in let parts = c.parts_of-parts.ensures in
    omega (arith, made-room _ _ _ _ _ a.index.table.ready u.0 u.1 u.3 u.4 _ _ _ l.invariant.1)

pub bounds-parts-last : goal.bounds-parts-last
bounds-parts-last c = let a = c.args in let u = c.requires.q_in_bounds in omega (arith, parts-length _ _ c.parts_of-parts.ensures, parts-some a.index.table.cells.now a.q a.index.table.ready u.0 u.1)

pub returns : goal.returns
returns c = let a = c.args in let p = c.requires in let u = p.q_in_bounds in let l = c.loop-n in let parts = c.parts_of-parts.ensures in
    let e = part-last _ _ parts l.n-index l.invariant.1.more c.loop-n-test.false in
    rw c.put_contract-2.ensures (splits_end_by _ _ _ _ _ a.index.table.ready u.0 u.1 u.3 u.4 _ _ _ l.invariant.1 e.0 e.1)
