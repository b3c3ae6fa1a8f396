use native.Mathlib.Omega.{arith}
use Rattle.checker.proofs.Printing.{line-none, line_whole}
use Rattle.checker.proofs.refused_line.Goals as goal

pub returns-then-text-lt-LINE : goal.returns-then-text-lt-LINE
returns-then-text-lt-LINE c = line-none _ _ _ _ (omega arith)

pub returns : goal.returns
returns c = line_whole _ _ _ _ (omega arith) _ _ c.put_refused.ensures
