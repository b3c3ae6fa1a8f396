use mathlib.Core.Path.{◌≡◌}
use mathlib.Core.List.{map}
use Prim.Native.Nat.{◌+◌, ◌*◌, ◌≤◌, ◌<◌}
use lib.ListN.{length, get_or}
use Rattle.bitml.specs.Why.{steps_to}
use Rattle.bitml.specs.Answers.{step_line}
use Rattle.tables.specs.Entries.{held, most_nodes}
use Rattle.tables.specs.SheetOf.{sheet_in}
use Rattle.texts.specs.Text.{lines_text}
use Rattle.texts.proofs.Coming.{Coming}
use Rattle.reasons.proofs.Reasons.{way_from}
use Rattle.reasons.proofs.put_way.Given as goal

abbrev pub invariant-loop-n : goal.invariant-loop-n
invariant-loop-n l =
    let t = l.index.table.cells.now in
    (l.n < length (held t).nodes) × (0 < get_or l.dist l.n 0) × (l.end + 80 * get_or l.dist l.n 0 ≤ l.at + 80 * (most_nodes + 1)) × (length l.text ≡ length l.initial.text) × Coming l.initial.text l.at (lines_text (map step_line (steps_to (sheet_in t) l.target))) l.text l.end (way_from (sheet_in t) l.target l.dist l.n)

abbrev pub decreases-loop-n : goal.decreases-loop-n
decreases-loop-n l = get_or l.dist l.n 0
