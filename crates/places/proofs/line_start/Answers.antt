use Rattle.std.proofs.Common.{rules, arith}
use Rattle.places.proofs.Laws.{start-at, start_none}
use Rattle.places.proofs.line_start.Goals as goal

pub returns-in-Some : goal.returns-in-Some
returns-in-Some c = (start-at c.args.s.now c.in-Some.i (search rules) (search rules) (search rules), search rules)

pub returns-in-None : goal.returns-in-None
returns-in-None c = (start_none c.args.s.now (search rules), omega arith)
