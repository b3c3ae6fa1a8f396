use Rattle.ways.proofs.visit_before.Given as goal

abbrev pub ghost-visit_renewers : goal.ghost-visit_renewers
ghost-visit_renewers g a = g.target
