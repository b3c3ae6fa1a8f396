use Rattle.fields.proofs.Runs.{Running}
use Rattle.fields.proofs.digits.Given as goal

abbrev pub invariant-loop-i : goal.invariant-loop-i
invariant-loop-i l = Running l.s l.from l.stop l.v l.i
