use native.Mathlib.Omega.{arith}
use Rattle.texts.proofs.Writing.{wrote-within}
use Rattle.checker.proofs.Printing.{take_known, answer-within, answer_says, answer_shown, answer-behind, refusal_shown, refusal-behind}
use Rattle.checker.proofs.judge_text.Goals as goal

-- src/lib.rt:121:9
pub returns-then-r-gt0 : goal.returns-then-r-gt0
returns-then-r-gt0 c = let e = c.judge_numbers-r.ensures in record { upper_bound = take_known _ _ (answer-within _ _ _ _ e.value e.text_after (omega arith)); text_after = answer_shown _ _ _ _ e.value e.text_after (omega arith) (omega arith); text_after_2 = answer-behind _ _ _ _ e.value e.text_after (omega arith); numbers_after = e.numbers_after }

-- src/lib.rt:113:1
pub returns : goal.returns
returns c = let e = c.judge_numbers-r.ensures in
    let w = c.refused_line.ensures in record { upper_bound = take_known _ _ (wrote-within w (omega arith)); text_after = refusal_shown _ _ _ _ e.value e.text_after (omega arith) (answer_says _ _ _) (omega arith) _ _ w; text_after_2 = refusal-behind _ _ _ _ e.value e.text_after (omega arith) (omega arith) w; numbers_after = e.numbers_after }
