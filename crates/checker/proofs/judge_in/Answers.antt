use mathlib.Core.Path.{sym, ap, ◌∙◌}
use native.Mathlib.Omega.{arith}
use Rattle.refusals.specs.Numbers.{told}
use Rattle.refusals.proofs.Numbers.{number-some}
use Rattle.checker.proofs.Entry.{answer-early, answer-judged}
use Rattle.checker.proofs.judge_in.Goals as goal

pub returns-in-Some : goal.returns-in-Some
returns-in-Some c = let g = answer-early c.args.s.now c.args.room _ _ _ _ _ _ c.in-Some.ensures.value (number-some _) (rw c.number.ensures at c.refuse.ensures) in record { value = g.reply; numbers_after = g.rows; text_after = g.text }

pub judged-requires : goal.judged-requires
judged-requires c = let k = c.early.ensures.bytes_bound (ap told c.in_default.is) in record { s_len_bound = (omega (arith, k), c.requires.numbers_of_one_in_bounds k.1, omega (arith, k)); wide = c.requires.wide }

pub returns : goal.returns
returns c = let g = answer-judged c.args.s.now c.args.room _ _ _ _ _ _ c.early.ensures.value (ap told c.in_default.is) c.judged.ensures in record { value = g.reply; numbers_after = g.rows; text_after = g.text }
