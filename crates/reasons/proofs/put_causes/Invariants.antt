use mathlib.Core.Path.{◌≡◌}
use Prim.Native.Nat.{◌+◌, ◌*◌, ◌≤◌}
use lib.ListN.{length}
use Rattle.bitml.specs.Why.{causes}
use Rattle.bitml.specs.Answers.{branch_lines}
use Rattle.tables.specs.SheetOf.{sheet_in}
use Rattle.texts.specs.Text.{lines_text}
use Rattle.texts.proofs.Coming.{Coming}
use Rattle.reasons.proofs.Reasons.{causes_from}
use Rattle.reasons.proofs.put_causes.Given as goal

abbrev pub invariant-loop-i : goal.invariant-loop-i
invariant-loop-i l = let s = sheet_in l.index.table.cells.now in
    (length l.text ≡ length l.initial.text) × (l.end ≤ l.at + 80 * l.i) × Coming l.initial.text l.at (lines_text (branch_lines 0 (causes s l.p l.n))) l.text l.end (causes_from s l.p l.n l.i)
