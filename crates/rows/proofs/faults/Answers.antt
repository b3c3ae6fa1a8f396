use native.Mathlib.Omega.{arith}
use Prim.Native.Nat.{◌<◌}
use mathlib.Core.Path.{sym, ◌∙◌}
use Rattle.tables.specs.SheetOf.{sheet_in}
use Rattle.refusals.proofs.Numbers.{number-some}
use Rattle.rows.proofs.Promised.{row-branch}
use Rattle.rows.proofs.Judged.{row-fault, faults_hit, faults_miss, faults_end}
use Rattle.rows.proofs.faults.Goals as goal

pub wrong-requires-clause-p_bound : goal.wrong-requires-clause-p_bound
wrong-requires-clause-p_bound c = let p = c.requires in let a = c.args in let t = a.index.table in let i = c.loop-i.i in let h : i < a.n = omega arith in
    rw (c.row_at.ensures.node, c.row_at.ensures.branch) (p.p_bound, (p.rows_fit.each i h).has-node, row-branch t.cells.now a.rows.now a.n t.ready p.rows_fit i h)

pub returns-in-Some : goal.returns-in-Some
returns-in-Some c = let a = c.args in let p = c.requires in let t = a.index.table in let l = c.loop-i in let h : l.i < a.n = omega arith in
    let w = rw (c.row_at.ensures.node, c.row_at.ensures.branch, c.row_at.ensures.rank) at c.in-Some.ensures in
    let e = row-fault t.cells.now a.rows.now a.n t.ready p.rows_fit a.p a.ranks.now p.known l.i h ∙ sym w in
    faults_hit (sheet_in t.cells.now) a.p a.rows.now l.i a.n _ h e (number-some c.in-Some.refusal) ∙ l.invariant

pub loop-i-preserved : goal.loop-i-preserved
loop-i-preserved c = let a = c.args in let p = c.requires in let t = a.index.table in let l = c.loop-i in let h : l.i < a.n = omega arith in
    let w = rw (c.row_at.ensures.node, c.row_at.ensures.branch, c.row_at.ensures.rank) at c.in_default.ensures in
    sym (faults_miss (sheet_in t.cells.now) a.p a.rows.now l.i a.n h (row-fault t.cells.now a.rows.now a.n t.ready p.rows_fit a.p a.ranks.now p.known l.i h ∙ sym w)) ∙ l.invariant

pub returns : goal.returns
returns c = let a = c.args in let l = c.loop-i in
    sym (faults_end (sheet_in a.index.table.cells.now) a.p a.rows.now l.i a.n (omega arith)) ∙ l.invariant
