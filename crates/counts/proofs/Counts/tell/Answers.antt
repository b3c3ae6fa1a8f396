use native.Mathlib.Omega.{arith}
use mathlib.Core.Path.{sym, ◌∙◌}
use Rattle.counts.proofs.Telling.{tell_unknown, tell_past, tell_kept, tell-taken}
use Rattle.counts.proofs.Counts.tell.Goals as goal
use Rattle.counts.proofs.Counts.tell.Goals.{then-self-i-via-then-self-i, then-self-i-via-else-self-i+then-count_of-j}

pub returns-then-self-i : goal.returns-then-self-i
returns-then-self-i c = let p = c.requires in rw c.refused.ensures (elim c.then-self-i.branch [
  | then-self-i-via-then-self-i w ↦ tell_unknown _ _ _ _ c.args.table.ready p.fit (omega arith)
  | then-self-i-via-else-self-i+then-count_of-j w ↦ tell_past _ _ _ _ c.args.table.ready p.fit (omega arith) (omega (arith, w.count_of.ensures))
])

pub overflow_add-at : goal.overflow_add-at
overflow_add-at c = omega (arith, c.requires.fit.count c.args.i (omega arith), c.count_of.ensures)

pub state_at-requires : goal.state_at-requires
state_at-requires c = (omega (arith, c.requires.cells_len), omega (arith, c.requires.fit.count c.args.i (omega arith), c.requires.fit.sets, c.count_of.ensures))

pub returns-then-state_at-ne1 : goal.returns-then-state_at-ne1
returns-then-state_at-ne1 c = let p = c.requires in rw c.refused-then-state_at-ne1.ensures (tell_kept _ _ _ _ c.args.table.ready p.fit (omega arith) (omega (arith, c.count_of.ensures)) (λ e. c.if-state_at-ne1.true (c.state_at.ensures ∙ e)))

pub put_state-requires : goal.put_state-requires
put_state-requires c = (omega (arith, c.requires.cells_len), omega (arith, c.requires.fit.count c.args.i (omega arith), c.requires.fit.sets, c.count_of.ensures))

pub returns : goal.returns
returns c = let p = c.requires in rw c.put_state.ensures (tell-taken _ _ _ _ c.args.table.ready p.fit (omega arith) (omega (arith, c.count_of.ensures)) (sym c.state_at.ensures ∙ c.if-state_at-ne1.false))
