use Rattle.std.proofs.Common.{arith}
use Rattle.tables.specs.Entries.{held, people}
use Rattle.duties.proofs.Signing.{back-time, back_none, back-sign}
use Rattle.duties.proofs.held_back.Goals as goal

pub returns-then-time-branch : goal.returns-then-time-branch
returns-then-time-branch c = let a = c.args in back-time (people a.table.cells.now) (held a.table.cells.now) a.q a.time a.mask c.branch-branch.ensures.opens (omega arith)

pub returns-then-not-all_signed : goal.returns-then-not-all_signed
returns-then-not-all_signed c = let a = c.args in let e = c.branch-branch.ensures in
    back-sign (people a.table.cells.now) (held a.table.cells.now) a.q a.time a.mask e.opens (omega arith) c.people.ensures e.signers c.all_signed.ensures c.if-not-all_signed.true

pub returns : goal.returns
returns c = let a = c.args in let e = c.branch-branch.ensures in
    back_none (people a.table.cells.now) (held a.table.cells.now) a.q a.time a.mask e.opens (omega arith) c.people.ensures e.signers c.all_signed.ensures c.if-not-all_signed.false
