use native.Mathlib.Omega.{arith}
use Prim.Native.Nat.{◌≤◌, ◌<◌}
use mathlib.Core.Path.{◌≡◌, refl, sym, ap₂, ◌∙◌, subst}
use Rattle.bitml.specs.Rows.{or_else}
use Rattle.buffer.specs.Buffer.{row_in, rows_of}
use Rattle.buffer.proofs.Buffer.{rows_none}
use Rattle.order.specs.Nodes.{Known, order_fault}
use Rattle.order.proofs.Ranks.{known_next, twice_miss, twice-start}
use Rattle.order.proofs.Order.{topped_none, topped_next, fall_miss, order_hit, order-end}
use Rattle.order.proofs.index.Goals as goal

pub loop-i-init : goal.loop-i-init
loop-i-init c = let a = c.args in let A = c.requires.known in
    (rw (rows_none a.rows.now) A, topped_none a.ranks.now A, twice-start a.rows.now a.n, refl)

pub unordered-requires-clause-known : goal.unordered-requires-clause-known
unordered-requires-clause-known c = c.loop-i.invariant.0

pub returns-then-row-above-clause-value : goal.returns-then-row-above-clause-value
unfolding order_fault
returns-then-row-above-clause-value c = let a = c.args in let l = c.loop-i in let v = l.invariant in
    c.unordered.ensures ∙ order_hit a.rows.now l.i a.n (omega arith) l.ranks l.above c.requires.rows_small v.0 v.1 (rw c.row_at-row.ensures.node at c.if-row-above.true) ∙ ap₂ or_else v.2 v.3

pub loop-i-preserved : goal.loop-i-preserved
loop-i-preserved c = let a = c.args in let l = c.loop-i in let v = l.invariant in let p = c.requires.rows_small in let h : l.i < a.n = omega arith in
    let low : l.above ≤ (row_in a.rows.now l.i).node = omega (arith, c.row_at-row.ensures.node) in
    let free = v.1.rest _ low in
    rw (c.row_at-row.ensures.rank, c.row_at-row.ensures.node) (
      known_next a.rows.now l.ranks l.i a.n p v.0 h free,
      topped_next l.above l.ranks _ _ v.1 (omega (arith, v.0.long, p.node l.i h)) (p.some l.i h) low,
      sym (twice_miss a.rows.now l.ranks l.i a.n p v.0 h free) ∙ v.2,
      sym (fall_miss a.rows.now l.i a.n h l.above low) ∙ v.3,
    )

pub returns-clause-value : goal.returns-clause-value
unfolding order_fault
returns-clause-value c = let a = c.args in let l = c.loop-i in let v = l.invariant in
    sym (order-end a.rows.now l.i a.n l.above (omega arith)) ∙ ap₂ or_else v.2 v.3

pub returns-clause-ranks_known : goal.returns-clause-ranks_known
returns-clause-ranks_known c = let l = c.loop-i in let e : l.i ≡ c.args.n = omega arith in subst (λ k. Known (rows_of k c.args.rows.now) l.ranks) e l.invariant.0
