use Rattle.writer.proofs.Numbers.{entry_number}
use mathlib.Core.Path.{refl, ◌∙◌}
use lib.ListN.{get_or}
use Rattle.tables.specs.Entries.{held, node_in}
use Rattle.writer.proofs.Entries.weight_of.Goals as goal

pub returns : goal.returns
unfolding held
returns c = let t = c.args.self.cells.now in c.number.ensures ∙ entry_number (λ e. e.weight) (node_in t) (get_or t 2 0) c.args.i _ refl
