use native.Mathlib.Omega.{arith}
use Rattle.checker.specs.Lending.{Wide}
use Rattle.checker.proofs.judge_numbers.Goals as goal

pub judge_in-requires : goal.judge_in-requires
unfolding Wide
judge_in-requires c = record { numbers_of_one_in_bounds = (λ h. omega arith); wide = λ K E e h. omega arith }
