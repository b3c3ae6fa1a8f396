use Rattle.writer.proofs.+put_condition.Given as goal

abbrev pub decreases-put_condition : goal.decreases-put_condition
decreases-put_condition l = l.depth
