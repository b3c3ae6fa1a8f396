use mathlib.Core.Path.{◌∙◌}
use Rattle.std.proofs.Common.{rules}
use Rattle.reading.proofs.Reading.{placed_is}
use Rattle.reading.proofs.read.Goals as goal

pub returns : goal.returns
returns c = placed_is _ _ _ _ _ _ (λ e d h. search rules) c.map_err.ensures.cases ∙ c.read_whole.ensures
