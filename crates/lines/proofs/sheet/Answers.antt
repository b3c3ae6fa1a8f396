use Rattle.lines.proofs.Answer.{counted, counts-read, refusal-read}
use borrow.Author.Rules.{rules}
use mathlib.Core.Path.{sym}
use Rattle.lines.proofs.sheet.Goals as goal

pub after_line_one-requires : goal.after_line_one-requires
after_line_one-requires c = let d = counted _ _ _ _ (sym c.in-Ok.ensures) in record { at_in_bounds = (d.inside, c.requires.s_len_bound); le_k = (d.some-people, d.few-people, d.some-defs, d.few-defs) }

pub returns-in-Ok : goal.returns-in-Ok
returns-in-Ok c = let q = c.after_line_one.ensures.same.1 in
    let p = counts-read _ _ _ _ _ _ c.in-Ok.ensures c.after_line_one.ensures.met in
    search rules

pub returns-in-Err : goal.returns-in-Err
returns-in-Err c = refusal-read _ _ _ _ _ _ c.in-Err.ensures c.limited.ensures
