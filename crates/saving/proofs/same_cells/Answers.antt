use mathlib.Core.Path.{◌∙◌}
use Rattle.saving.proofs.Comparing.{slices-same}
use Rattle.saving.proofs.same_cells.Goals as goal

pub returns : goal.returns
returns c = c.eq.ensures ∙ slices-same _ _ c.args.from c.args.n c.requires.0 c.requires.1
