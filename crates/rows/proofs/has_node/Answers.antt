use native.Mathlib.Omega.{arith}
use Prim.Native.Nat.{◌<◌}
use mathlib.Core.Path.{ap, ◌∙◌}
use lib.ListN.{length, get_or}
use Rattle.std.proofs.Common.{rules, tests}
use Rattle.std.proofs.lemmas.Grind.{get_or_default_zero}
use Rattle.std.proofs.lemmas.Iterator.{YieldsList-from_slice}
use Rattle.std.proofs.lemmas.Iterator.Adapters.{serves_from_places}
use Rattle.std.proofs.lemmas.Iterator.Search.{all_from_yields_List}
use Rattle.bitml.specs.Lists.{every}
use Rattle.tables.specs.Entries.{held, people}
use Rattle.tables.specs.SheetOf.{branch_number, branch_count}
use Rattle.tables.proofs.SheetOf.{branch-small}
use Rattle.sheets.proofs.Chains.{all-every}
use Rattle.rows.specs.Given.{next_by}
use Rattle.rows.proofs.has_node.Goals as goal

pub all-requires-clause-callable : goal.all-requires-clause-callable
unfolding branch_count branch_number
all-requires-clause-callable c = let a = c.args in let bs = c.branches_of.result.now in let q = c.branches_of.ensures in
    serves_from_places (YieldsList-from_slice bs cc) (λ x q k. search (rules, tests)) (λ x j h e.
    let s = branch-small (held a.index.table.cells.now) a.n j (omega (arith, ap length q)) in
    let l : x.now < length (held a.index.table.cells.now).branches = omega (arith, e, get_or_default_zero bs j x.now h, ap (λ bs. get_or bs j 0) q, s) in search rules)

pub returns : goal.returns
returns c = let t = c.args.index.table.cells.now in let T = next_by (people t) (held t) c.args.ranks.now in let bs = c.branches_of.result.now in
    all_from_yields_List T _ _ _ c.all.ensures.ran (YieldsList-from_slice bs cc) (λ x b q k. search (rules, tests)) ∙ all-every T bs ∙ ap (every T) c.branches_of.ensures
