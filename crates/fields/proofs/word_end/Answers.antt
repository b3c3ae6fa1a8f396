use native.Mathlib.Omega.{arith}
use Rattle.fields.proofs.Laws.{four_long}
use Rattle.fields.proofs.word_end.Goals as goal

-- the tests by what they say, and not by their names: a wrong one is refused for it
pub returns-then-s-from-eq-COMMA : goal.returns-then-s-from-eq-COMMA
returns-then-s-from-eq-COMMA c = omega (arith, four_long c.args.s.now c.args.from (omega arith) (omega arith) (omega arith) (omega arith) (omega arith) (omega arith))
