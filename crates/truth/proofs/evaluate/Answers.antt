use mathlib.Core.Path.{refl}
use Rattle.tables.specs.Entries.{held}
use Rattle.truth.proofs.Laws.{truth_from, truth-always}
use Rattle.truth.proofs.evaluate.Goals as goal

pub returns-then-cells-c-ne-T : goal.returns-then-cells-c-ne-T
returns-then-cells-c-ne-T c = truth_from (held c.args.table.cells.now) refl c.requires.c_in_bounds (rw c.conditions-cells.ensures at c.condition.ensures)

pub returns-else-cells-c-ne-T : goal.returns-else-cells-c-ne-T
returns-else-cells-c-ne-T c = truth-always (held c.args.table.cells.now) _ _ c.requires.c_in_bounds (rw c.conditions-cells.ensures at c.if-cells-c-ne-T.false)
