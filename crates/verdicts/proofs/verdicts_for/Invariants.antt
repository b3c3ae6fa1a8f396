use Prim.Native.Nat.{◌*◌, ◌≤◌}
use mathlib.Core.Path.{◌≡◌}
use Rattle.tables.specs.SheetOf.{sheet_in}
use Rattle.texts.specs.Wrote.{Wrote}
use Rattle.verdicts.specs.Parties.{most_of_one, lines_up_to, numbers_up_to}
use Rattle.verdicts.proofs.verdicts_for.Given as goal

abbrev pub invariant-loop-p : goal.invariant-loop-p
invariant-loop-p l =
    let s = sheet_in l.index.table.cells.now in
    (l.end ≤ most_of_one * l.p) × (l.rows ≡ numbers_up_to s l.p l.initial.rows) × Wrote l.initial.text 0 (lines_up_to s l.p) l.text l.end
