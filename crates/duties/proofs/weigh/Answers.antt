use Rattle.std.proofs.Common.{rules, tests, ◌<◌, length, ◌∙◌, arith}
use Rattle.std.proofs.lemmas.Iterator.{YieldsList-from_slice, YieldsList-from_map}
use Rattle.std.proofs.lemmas.Iterator.Adapters.{serves_from_places}
use Rattle.std.proofs.lemmas.Iterator.Consumers.{sum_from_yields_List, fits_from_yields_list}
use Rattle.tables.specs.Entries.{held, people}
use Rattle.tables.specs.SheetOf.{part_numbers, node_entry_at}
use Rattle.duties.proofs.Sums.{part-inside, weights-total, weights-most}
use Rattle.duties.proofs.weigh.Goals as goal

pub sum-requires-clause-can : goal.sum-requires-clause-can
sum-requires-clause-can c = let a = c.args in let E = held a.index.table.cells.now in
    rw c.map.ensures.closure (
      tt,
      serves_from_places (YieldsList-from_slice (part_numbers E a.b) (cc)) (λ x q r. search (rules, tests))
          (λ x k h e. let p : x.now < length E.nodes = rw e (part-inside E a.b k x.now h) in search (rules, p)),
    )

pub sum-requires-clause-fits : goal.sum-requires-clause-fits
sum-requires-clause-fits c = let a = c.args in let E = held a.index.table.cells.now in
    fits_from_yields_list c.map.result _ (YieldsList-from_map _ (λ n. (node_entry_at E n).weight) (YieldsList-from_slice (part_numbers E a.b) (cc)) c.map.ensures.closure (λ x r q k. search (rules, tests)))
    (omega (arith, weights-total E a.b, weights-most (people a.index.table.cells.now) E a.b a.index.table.ready.promises c.requires.b_in_bounds.0 c.requires.b_in_bounds.1))

pub returns : goal.returns
returns c = let a = c.args in let E = held a.index.table.cells.now in
    sum_from_yields_List c.map.result _ c.sum.ensures.ran (YieldsList-from_map _ (λ n. (node_entry_at E n).weight) (YieldsList-from_slice (part_numbers E a.b) (cc)) c.map.ensures.closure (λ x r q k. search (rules, tests)))
    ∙ weights-total E a.b
