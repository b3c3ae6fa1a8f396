use Rattle.std.proofs.Common.{rules, tests, ◌∙◌, arith}
use Rattle.std.proofs.lemmas.Iterator.{YieldsList-from_range, YieldsList-from_map}
use Rattle.std.proofs.lemmas.Iterator.Consumers.{sum_from_yields_List, fits_from_yields_list}
use Rattle.tables.specs.Entries.{held, people}
use Rattle.tables.specs.SheetOf.{deposit_of}
use Rattle.duties.proofs.Sums.{deposits-total, deposits-most}
use Rattle.duties.proofs.deposits.Goals as goal

pub sum-requires-clause-fits : goal.sum-requires-clause-fits
sum-requires-clause-fits c = let a = c.args in let K = people a.table.cells.now in let E = held a.table.cells.now in
    fits_from_yields_list c.map.result _ (YieldsList-from_map _ (deposit_of E a.d) (YieldsList-from_range 0 K K (cc) (omega arith)) c.map.ensures.closure (λ x r q k. search (rules, tests)))
    (omega (arith, deposits-total K E a.d, deposits-most K E a.d a.table.ready.promises c.requires.d_in_bounds))

pub returns : goal.returns
returns c = let a = c.args in let K = people a.table.cells.now in let E = held a.table.cells.now in
    sum_from_yields_List c.map.result _ c.sum.ensures.ran (YieldsList-from_map _ (deposit_of E a.d) (YieldsList-from_range 0 K K (cc) (omega arith)) c.map.ensures.closure (λ x r q k. search (rules, tests)))
    ∙ deposits-total K E a.d
