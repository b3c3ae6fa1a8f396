use Rattle.std.proofs.Common.{rules, tests, refl, ◌∙◌, ◌+◌, ◌-◌, get_or}
use Rattle.std.proofs.lemmas.Iterator.{YieldsList-from_range}
use Rattle.std.proofs.lemmas.Iterator.Search.{any_from_yields_List}
use lib.Dec.{eqb}
use Rattle.tables.specs.Entries.{listed_from}
use Rattle.tables.proofs.Laws.{among-range}
use Rattle.tables.proofs.is_listed.Goals as goal

pub returns : goal.returns
returns c =
    let a = c.args in
    any_from_yields_List (λ j. eqb (get_or a.t.now (listed_from + j) 0) a.v) _ _ c.any.result c.any.ensures.ran
    (YieldsList-from_range a.from a.to (a.to - a.from) refl refl) (λ x b q k. search (rules, tests))
    ∙ among-range a.t.now a.v (a.to - a.from) a.from a.to refl
