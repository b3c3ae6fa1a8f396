use native.Mathlib.Omega.{arith}
use mathlib.Core.Path.{sym, ap}
use lib.ListN.{length, get_or}
use Rattle.tables.specs.Entries.{held, people}
use Rattle.tables.specs.SheetOf.{branch_count, branch_number}
use Rattle.tables.proofs.SheetOf.{branch-small}
use Rattle.buffer.specs.Buffer.{as_row}
use Rattle.rows.proofs.Judged.{fault-missing, fault-other, fault-low, fault-none}
use Rattle.rows.proofs.wrong.Goals as goal

pub returns-then-not-has_node : goal.returns-then-not-has_node
returns-then-not-has_node c = let a = c.args in let t = a.index.table.cells.now in
    fault-missing (people t) (held t) a.p a.ranks.now (as_row a.row) (sym c.if-not-has_node.ensures)

pub bounds-branches_of-row : goal.bounds-branches_of-row
unfolding branch_count
bounds-branches_of-row c = omega (arith, ap length c.branches_of.ensures, c.requires.p_bound.2)

pub own-requires : goal.own-requires
unfolding branch_number
own-requires c = let p = c.requires.p_bound in let a = c.args in
    record { p_bound = (p.0, p.1, omega (arith, ap (λ bs. get_or bs a.row.branch 0) c.branches_of.ensures, branch-small (held a.index.table.cells.now) a.row.node a.row.branch p.2)) }

pub returns-then-not-own : goal.returns-then-not-own
unfolding branch_number
returns-then-not-own c = let a = c.args in let t = a.index.table.cells.now in
    fault-other (people t) (held t) a.p a.ranks.now (as_row a.row) (sym c.if-not-has_node.ensures) _ (ap (λ bs. get_or bs a.row.branch 0) c.branches_of.ensures) (sym c.if-not-own.ensures)

pub least-requires-clause-b_in_bounds : goal.least-requires-clause-b_in_bounds
unfolding branch_number
least-requires-clause-b_in_bounds c = let a = c.args in
    omega (arith, ap (λ bs. get_or bs a.row.branch 0) c.branches_of.ensures, branch-small (held a.index.table.cells.now) a.row.node a.row.branch c.requires.p_bound.2)

pub returns-then-row-least : goal.returns-then-row-least
unfolding branch_number
returns-then-row-least c = let a = c.args in let t = a.index.table.cells.now in
    fault-low (people t) (held t) a.p a.ranks.now (as_row a.row) (sym c.if-not-has_node.ensures) _ (ap (λ bs. get_or bs a.row.branch 0) c.branches_of.ensures) (sym c.if-not-own.ensures) _ c.least.ensures (omega arith)

pub returns : goal.returns
unfolding branch_number
returns c = let a = c.args in let t = a.index.table.cells.now in
    fault-none (people t) (held t) a.p a.ranks.now (as_row a.row) (sym c.if-not-has_node.ensures) _ (ap (λ bs. get_or bs a.row.branch 0) c.branches_of.ensures) (sym c.if-not-own.ensures) _ c.least.ensures (omega arith)
