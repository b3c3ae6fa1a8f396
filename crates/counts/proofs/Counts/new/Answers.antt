use native.Mathlib.Omega.{arith}
use mathlib.Core.Path.{ap, ◌∙◌}
use mathlib.Core.List.{map}
use lib.ListN.{length, length-map}
use Rattle.duties.specs.Duties.{handed}
use Rattle.pages.specs.Pages.{with_contract, with_set, pages_in}
use Rattle.counts.proofs.Beginning.{cells-long, begins_by}
use Rattle.counts.proofs.Counts.new.Goals as goal

pub put_contract-requires : goal.put_contract-requires
put_contract-requires c = (cells-long c.requires.cells_value, omega arith)

pub put_set-requires : goal.put_set-requires
put_set-requires c = (let z = cells-long c.requires.cells_value in omega (arith, c.put_contract.auto.cells), omega arith)

pub store-requires : goal.store-requires
store-requires c = let p = c.requires in let ok = c.args.table.ready in let d = (ok.promises.def 0 ok.promises.limits.defs.0).secrets in let e = p.vs_len in let z = cells-long p.cells_value in record { i_bound = (omega arith, omega arith, omega (arith, c.put_contract.auto.cells, c.put_set.auto.cells)); by_index = p.by_index }

pub returns : goal.returns
returns c = let a = c.args in let p = c.requires in
    begins_by a.table.cells.now (map handed a.vs.now) a.table.ready (length-map a.vs.now handed) p.vs_len c.definition.ensures.root c.deposits-total.ensures
    (c.put_set.ensures ∙ ap (with_set 0 0 (length a.vs.now)) (c.put_contract.ensures ∙ ap (λ C. with_contract 0 c.definition.result.root c.deposits-total.result 0 (pages_in C)) p.cells_value)) c.store.ensures
