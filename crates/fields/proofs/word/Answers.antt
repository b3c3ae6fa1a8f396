use mathlib.Core.Path.{◌∙◌}
use Rattle.std.proofs.lemmas.Result.{err_from_is_err_and}
use Rattle.fields.proofs.Laws.{word_missing, word_after}
use Rattle.fields.proofs.word.Goals as goal

pub returns-in_err-after_comma : goal.returns-in_err-after_comma
returns-in_err-after_comma c = let p = err_from_is_err_and c.from_residual.result c.from_residual.ensures.1 in rw (p.1, p.2) (word_missing c.args.s.now c.args.at _ _ c.in_err-after_comma.ensures)

pub returns : goal.returns
returns c = c.bare_word.ensures ∙ word_after _ _ _ c.in_ok-after_comma.ensures
