use Rattle.contracts.proofs.Laws.{added_branch}
use Rattle.conditions.proofs.Laws.{ready_took}
use Rattle.steps.proofs.Laws.{told_state-err, passed, refused, yes', no', stop, done, took_number}
use Rattle.contracts.specs.Contract.{leaf_at}
use borrow.Author.Tests.{lt-ltb, le-ltb}
use native.Mathlib.Omega.{arith}
use Rattle.contracts.proofs.leaf.Goals as goal

pub returns-in_err-p-clause-met : goal.returns-in_err-p-clause-met
unfolding leaf_at
returns-in_err-p-clause-met c = refused _ _ _ _ c.in_err-p.ensures (told_state-err _ _ c.from_residual.ensures.1)

pub returns-then-limit-p-clause-met : goal.returns-then-limit-p-clause-met
unfolding leaf_at
returns-then-limit-p-clause-met c = rw c.refused.ensures (passed _ _ _ _ c.in_ok-p.ensures (no' _ (le-ltb _ _ c.if-limit-p.true) stop))

pub put_branch-requires : goal.put_branch-requires
put_branch-requires c = let k = took_number _ c.in_ok-p.ensures in record { cells_from_in_bounds = omega (arith, c.args.filling.now.spacious); fits = (ready_took c.requires.has_room k).fits; branches_lt_most_branches = omega (arith, k.branches, c.requires.branches_lt_most_branches) }

pub returns-clause-met : goal.returns-clause-met
unfolding leaf_at
returns-clause-met c = let k = took_number _ c.in_ok-p.ensures in passed _ _ _ _ c.in_ok-p.ensures (yes' _ (lt-ltb _ _ c.if-limit-p.false) (done (rw c.action.ensures at c.put_branch.ensures.1) (added_branch k c.put_branch.ensures.0)))
