use native.Mathlib.Omega.{arith}
use Rattle.counts.proofs.Firing.{entry-below, pay-fits_by, w_taken_by}
use Rattle.counts.proofs.Counts.withdraw.Goals as goal

pub branch-p-requires : goal.branch-p-requires
branch-p-requires c = let p = c.requires in record { b_in_bounds = entry-below _ _ _ _ _ c.args.table.ready p.fit p.enabled }

pub paid_to-requires : goal.paid_to-requires
paid_to-requires c = let p = c.requires in (p.cells_long_in_bounds, (pay-fits_by _ _ _ _ _ c.args.table.ready p.fit p.enabled p.q_value c.branch-p.ensures.arg).0)

pub overflow_add-paid : goal.overflow_add-paid
overflow_add-paid c = let p = c.requires in omega (arith, c.balance_of.ensures, c.paid_to.ensures, pay-fits_by _ _ _ _ _ c.args.table.ready p.fit p.enabled p.q_value c.branch-p.ensures.arg)

pub put_paid-requires : goal.put_paid-requires
put_paid-requires c = let p = c.requires in (omega (arith, c.bury.auto.cells, p.cells_long_in_bounds), (pay-fits_by _ _ _ _ _ c.args.table.ready p.fit p.enabled p.q_value c.branch-p.ensures.arg).0)

pub returns : goal.returns
returns c = let p = c.requires in rw (c.put_paid.ensures, c.bury.ensures, c.paid_to.ensures, c.balance_of.ensures) (w_taken_by _ _ _ _ _ c.args.table.ready p.fit p.enabled p.q_value c.branch-p.ensures.arg)
