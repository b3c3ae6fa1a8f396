use mathlib.Core.Path.{◌∙◌}
use lib.ListN.{length}
use Rattle.checker.proofs.Entry.{places-are}
use Rattle.checker.proofs.judge_rows.Goals as goal

pub returns-clause-rows_after : goal.returns-clause-rows_after
returns-clause-rows_after c =
    let a = c.args in let r = c.judge_in-r in
    c.emit_rows.ensures ∙ places-are a.s.now (length a.rows.now) (length a.text.now) r.new.numbers (length a.numbers.now) (λ h. (c.requires.numbers_of_one_in_bounds h).1) r.ensures.numbers_after r.auto.numbers
