use native.Mathlib.Omega.{arith}
use Prim.Native.Nat.{◌<◌}
use mathlib.Core.Path.{ap, ◌∙◌}
use lib.ListN.{length, get_or}
use Rattle.std.proofs.Common.{rules, tests}
use Rattle.std.proofs.lemmas.Grind.{get_or_default_zero}
use Rattle.std.proofs.lemmas.Iterator.{YieldsList-from_slice}
use Rattle.std.proofs.lemmas.Iterator.Adapters.{serves_from_places}
use Rattle.std.proofs.lemmas.Iterator.Search.{all_from_yields_List}
use Rattle.bitml.specs.Lists.{every}
use Rattle.tables.specs.Entries.{held}
use Rattle.tables.specs.SheetOf.{part_number, part_count}
use Rattle.tables.proofs.SheetOf.{part_small}
use Rattle.sheets.proofs.Chains.{all-every}
use Rattle.order.specs.Nodes.{has_by}
use Rattle.rows.proofs.has_parts.Goals as goal

pub all-requires-clause-callable : goal.all-requires-clause-callable
unfolding part_count part_number
all-requires-clause-callable c = let a = c.args in let ms = c.parts_of.result.now in let q = c.parts_of.ensures in
    serves_from_places (YieldsList-from_slice ms cc) (λ x q k. search (rules, tests)) (λ x j h e.
    let s = part_small (held a.index.table.cells.now) a.b j (omega (arith, ap length q)) in
    let l : x.now < 512 = omega (arith, e, get_or_default_zero ms j x.now h, ap (λ ms. get_or ms j 0) q, s, a.index.table.ready.promises.limits.nodes) in search rules)

pub returns : goal.returns
unfolding has_by
returns c = let T = has_by c.args.ranks.now in let ms = c.parts_of.result.now in
    all_from_yields_List T _ _ _ c.all.ensures.ran (YieldsList-from_slice ms cc) (λ x b q k. search (rules, tests)) ∙ all-every T ms ∙ ap (every T) c.parts_of.ensures
