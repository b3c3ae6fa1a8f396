use Rattle.std.proofs.Common.{rules}
use Rattle.places.proofs.Laws.{passing-at_lf, passing-at_comma, passing_none}
use Rattle.places.proofs.passing.Goals as goal

pub returns-in_default : goal.returns-in_default
returns-in_default c = passing_none c.args.s.now c.args.n c.requires.0 (search rules) (search rules)

pub returns-then-s-i-eq-LF : goal.returns-then-s-i-eq-LF
returns-then-s-i-eq-LF c = passing-at_lf c.args.s.now c.args.n c.in-Some.i c.requires.0 (search rules) (search rules) (search rules) c.if-s-i-eq-LF.true

pub returns-else-s-i-eq-LF : goal.returns-else-s-i-eq-LF
returns-else-s-i-eq-LF c = passing-at_comma c.args.s.now c.args.n c.in-Some.i c.requires.0 (search rules) (search rules) (search rules) (search rules) c.if-s-i-eq-LF.false
