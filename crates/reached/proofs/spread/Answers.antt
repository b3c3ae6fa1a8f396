use native.Mathlib.Omega.{arith}
use Prim.Native.Nat.{◌+◌}
use mathlib.Core.Path.{sym, subst}
use lib.ListN.{get_or, set}
use Rattle.reached.specs.Marks.{Spread}
use Rattle.reached.proofs.Queue.{spread_more}
use Rattle.tables.specs.Entries.{held}
use Rattle.reached.proofs.spread.Goals as goal

pub loop-n-preserved : goal.loop-n-preserved
loop-n-preserved c =
    let E = held c.args.table.cells.now in
    let l = c.loop-n in
    subst (λ d. Spread E c.args.seen.now (set l.marks l.n (get_or c.args.seen.now d 0)) (l.n + 1)) (sym c.node.ensures.definition)
    (spread_more E c.args.seen.now l.marks l.n (omega (arith, c.args.table.ready.promises.limits.nodes, c.node_total-n-end.ensures)) l.invariant)
