use native.Mathlib.Omega.{arith}
use Rattle.checker.specs.Lending.{Wide}
use Rattle.checker.proofs.hurkoxel_judge.Goals as goal

pub judge_rows-requires-clause-wide : goal.judge_rows-requires-clause-wide
unfolding Wide
judge_rows-requires-clause-wide c = λ K E e h. omega arith
