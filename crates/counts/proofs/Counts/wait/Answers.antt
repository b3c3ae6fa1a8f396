use native.Mathlib.Omega.{arith}
use Rattle.counts.proofs.Waiting.{wait_late, wait-taken}
use Rattle.counts.proofs.Counts.wait.Goals as goal

pub returns-then-self-d : goal.returns-then-self-d
returns-then-self-d c = let p = c.requires in rw c.refused.ensures (wait_late _ _ _ c.args.table.ready p.fit p.le_d.0 p.le_d.1 (omega arith))

pub returns : goal.returns
returns c = let p = c.requires in wait-taken _ _ _ c.args.table.ready p.fit p.le_d.0 p.le_d.1 (omega arith)
