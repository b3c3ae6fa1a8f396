use native.Mathlib.Omega.{arith}
use Prim.Native.Nat.{◌+◌}
use mathlib.Core.Path.{sym, ap, ◌∙◌}
use Rattle.bitml.specs.Rows.{or_else}
use Rattle.order.specs.Nodes.{fall_at}
use Rattle.order.proofs.Ranks.{known_next, twice_hit, twice_miss, twice-end}
use Rattle.order.proofs.unordered.Goals as goal

pub returns-then-ranks-row-ne0 : goal.returns-then-ranks-row-ne0
returns-then-ranks-row-ne0 c = let a = c.args in let l = c.loop-j in
    ap (λ f. or_else f (fall_at (a.from + 1))) (sym (twice_hit a.rows.now l.ranks l.j a.n c.requires.rows_small l.invariant.0 (omega arith) (rw c.row_at-row.ensures.node at c.if-ranks-row-ne0.true)) ∙ l.invariant.1)

pub loop-j-preserved : goal.loop-j-preserved
loop-j-preserved c = let a = c.args in let l = c.loop-j in let p = c.requires.rows_small in let free = rw c.row_at-row.ensures.node at c.if-ranks-row-ne0.false in (
  rw (c.row_at-row.ensures.rank, c.row_at-row.ensures.node) (known_next a.rows.now l.ranks l.j a.n p l.invariant.0 (omega arith) free),
  sym (twice_miss a.rows.now l.ranks l.j a.n p l.invariant.0 (omega arith) free) ∙ l.invariant.1,
)

pub returns : goal.returns
returns c = let a = c.args in let l = c.loop-j in
    ap (λ f. or_else f (fall_at (a.from + 1))) (sym (twice-end a.rows.now l.j a.n (omega arith)) ∙ l.invariant.1)
