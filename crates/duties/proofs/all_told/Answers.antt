use Rattle.std.proofs.Common.{rules, tests, refl, ◌∙◌, ◌+◌, arith}
use Rattle.std.proofs.lemmas.Iterator.{YieldsList-from_range}
use Rattle.std.proofs.lemmas.Iterator.Search.{all_from_yields_List}
use Rattle.sheets.proofs.Chains.{all-at}
use Rattle.tables.specs.Entries.{held}
use Rattle.tables.specs.SheetOf.{listed_at}
use Rattle.duties.specs.Duties.{told_at}
use Rattle.duties.proofs.all_told.Goals as goal

pub returns : goal.returns
returns c = let a = c.args in let E = held a.table.cells.now in
    all_from_yields_List (λ i. told_at a.state.now a.base a.known (listed_at E i)) _ _ c.all.result c.all.ensures.ran
    (YieldsList-from_range a.first (a.first + a.count) a.count refl (omega arith)) (λ x b q k. search (rules, tests))
    ∙ all-at (told_at a.state.now a.base a.known) (listed_at E) a.first a.count
