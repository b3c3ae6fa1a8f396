-- The cases hold, by computing. Assumes nothing.
use mathlib.Core.Path.{refl}
use Rattle.bitml.specs.Lists.{◌&◌, ◌or◌, ◌⇒◌, ask, nil, cons}
use Rattle.bitml.specs.Runs.{counts_always}
use Rattle.bitml.specs.Rows.{check, repeated, falling, faulty, row_fault}
use Rattle.bitml.specs.Rule.{cost_of, cost, better, choose, choices, choice_at, round, rounds, reached, row_for, rows, stuck, make}
use Rattle.bitml.specs.Ledger.{refusal, after, stipulated}
use Rattle.bitml.specs.Limits.{deposits_taken, within, limited_refusal, limited_step, answers, limited_play}
use Rattle.bitml.specs.Why.{near, lowest, node_toward, branch_toward, trail, distance, steps_to, own_tests, clear, failing, cause, causes}
use Rattle.bitml.specs.Answers.{liquid_by, made_lines, made_rows, made_by, padded, made_for_all, branch_lines, why_lines, checked_by, event_line, event_lines, end_of, play_lines, answer}
use Rattle.bitml.specs.Stars.{branch, node, halves, row, sheet, T, M, D, R, On, Seven, listed, cases, Stars}

pub stars : Stars
unfolding Stars cases listed answer made_lines made_rows made_by padded made_for_all near lowest node_toward branch_toward trail distance steps_to own_tests clear failing cause causes branch_lines why_lines checked_by liquid_by event_line event_lines end_of play_lines T M D R On Seven sheet node branch halves row make counts_always rows row_for stuck reached rounds round
    choices choose cost_of cost better choice_at check repeated falling faulty row_fault refusal after stipulated deposits_taken within limited_refusal limited_step answers limited_play ◌&◌ ◌or◌ ◌⇒◌ ask
stars =
    cons refl (cons refl (cons refl (cons refl (cons refl (cons refl (cons refl (cons refl (cons refl (cons refl (cons refl (cons refl (cons refl (cons refl (cons refl
    (cons refl (cons refl (cons refl (cons refl (cons refl (cons refl (cons refl (cons refl (cons refl (cons refl (cons refl (cons refl (cons refl (cons refl nil))))))))))))))))))))))))))))
