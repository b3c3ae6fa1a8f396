use mathlib.Core.Path.{ap, ◌∙◌}
use lib.ListN.{length}
use Rattle.bitml.specs.Rows as bitml
use Rattle.tables.specs.SheetOf.{sheet_in}
use Rattle.buffer.specs.Buffer.{rows_of, filled}
use Rattle.rows.proofs.Buffer.{rows-stay, rows-go}
use Rattle.rows.proofs.check_rows.Goals as goal
use Rattle.rows.proofs.check_rows.Goals.{in-Ok, in-Err}

pub returns-clause-rows_after : goal.returns-clause-rows_after
returns-clause-rows_after c = let a = c.args in let u = a.rows.now in let f = bitml.check (sheet_in a.index.table.cells.now) a.p (rows_of a.n u) in
    c.clear_past.ensures ∙ elim c.match-checked.branch [
      | in-Ok w ↦ ap (λ k. filled (length u) (rows_of k u)) w.kept-is ∙ rows-stay u a.n f _ _ w.in-Ok.ensures
      | in-Err w ↦ ap (λ k. filled (length u) (rows_of k u)) w.kept-is ∙ rows-go u a.n f _ _ w.in-Err.ensures
    ]
