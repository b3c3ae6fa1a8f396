use native.Mathlib.Omega.{arith}
use Rattle.plays.proofs.Turning.{due_read, due-none}
use Rattle.plays.proofs.due_at.Goals as goal

pub returns-in-Ok : goal.returns-in-Ok
returns-in-Ok c = due_read _ _ _ _ _ (λ i. omega (arith, c.type_inv.s i)) _ c.people.ensures _ _ c.in-Ok.ensures

pub returns-in-Err : goal.returns-in-Err
returns-in-Err c = due-none _ _ _ _ _ (λ i. omega (arith, c.type_inv.s i)) _ c.people.ensures c.requires.1 _ _ _ c.in-Err.ensures
