use Rattle.truth.proofs.+condition.Given as goal

abbrev pub decreases-condition : goal.decreases-condition
decreases-condition l = l.left
