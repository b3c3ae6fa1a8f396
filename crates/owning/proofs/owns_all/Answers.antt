use Rattle.std.proofs.Common.{rules, tests, refl, ap, ◌∙◌, ◌+◌, ◌-◌, arith}
use Rattle.std.proofs.lemmas.Iterator.{YieldsList-from_range}
use Rattle.std.proofs.lemmas.Iterator.Search.{all_from_yields_List}
use Rattle.std.specs.List.{list_all, range_with_len}
use Rattle.sheets.proofs.Chains.{all-at}
use Rattle.bitml.specs.Sheet.{owns}
use Rattle.tables.specs.Entries.{held}
use Rattle.tables.specs.SheetOf.{listed_at, sheet_in}
use Rattle.owning.proofs.owns_all.Goals as goal

pub returns : goal.returns
returns c =
    let a = c.args in
    let E = held a.table.cells.now in
    all_from_yields_List (λ i. owns (sheet_in a.table.cells.now) a.p a.d (listed_at E i)) _ _ c.all.result c.all.ensures.ran
    (YieldsList-from_range a.first (a.first + a.count) (a.first + a.count - a.first) refl refl) (λ x b q k. search (rules, tests))
    ∙ ap (λ n. list_all (λ i. owns (sheet_in a.table.cells.now) a.p a.d (listed_at E i)) (range_with_len a.first n)) (omega arith)
    ∙ all-at (owns (sheet_in a.table.cells.now) a.p a.d) (listed_at E) a.first a.count
