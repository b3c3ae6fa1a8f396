use native.Mathlib.Omega.{arith}
use mathlib.Core.Path.{◌≡◌}
use Rattle.std.proofs.Common.{rules}
use Rattle.tables.specs.Entries.{held, people}
use Rattle.exits.specs.Costs.{as_choice}
use Rattle.exits.proofs.Ranking.{ranks_parts, ranks_set, ranks_none}
use Rattle.exits.proofs.rank_all.Goals as goal

pub loop-n-init : goal.loop-n-init
loop-n-init c = let a = c.args in let t = a.index.table in
    rw c.node_total-n.ensures (ranks_none (people t.cells.now) (held t.cells.now) a.p t.ready.promises a.ranks.now a.branches.now c.told-ranks c.told-branches)

pub choose-choice-requires-clause-by_index : goal.choose-choice-requires-clause-by_index
choose-choice-requires-clause-by_index c = let a = c.args in let t = a.index.table in let l = c.loop-n in
    ranks_parts (people t.cells.now) (held t.cells.now) a.p t.ready.promises l.ranks l.branches l.n (omega arith) (omega arith) l.invariant

pub loop-n-preserved : goal.loop-n-preserved
loop-n-preserved c = let a = c.args in let t = a.index.table in let l = c.loop-n in
    let o = as_choice c.choose-choice.result in
    let r : c.map_or.result ≡ o.rank = search rules in
    let b : c.map_or-in-loop-n.result ≡ o.branch = search rules in
    rw (r, b) (ranks_set (people t.cells.now) (held t.cells.now) a.p t.ready.promises l.ranks l.branches l.n o (omega arith) (omega arith) l.invariant c.choose-choice.ensures)
