use native.Mathlib.Omega.{arith}
use Prim.Native.Nat.{ℕ, ◌<◌, ◌≤◌, ◌*◌}
use mathlib.Core.Path.{◌≡◌, ap}
use lib.ListN.{length, get_or}
use Rattle.std.proofs.Common.{rules, tests}
use Rattle.std.specs.List.{sum_by}
use Rattle.std.proofs.lemmas.Grind.{get_or_default_zero}
use Rattle.std.proofs.lemmas.Iterator.{YieldsList-from_slice, YieldsList-from_map}
use Rattle.std.proofs.lemmas.Iterator.Adapters.{serves_from_places}
use Rattle.std.proofs.lemmas.Iterator.Consumers.{YieldsList-at, sum_by_from_yields_List, fits_by_from_yields_list}
use Rattle.tables.specs.Entries.{held}
use Rattle.tables.specs.SheetOf.{part_number, part_count}
use Rattle.tables.proofs.SheetOf.{part_small, parts-few}
use Rattle.requests.specs.Rows.{most_rank}
use Rattle.rows.specs.Given.{rank_sum}
use Rattle.rows.proofs.Judged.{sum-is, sum-small}
use Rattle.rows.proofs.least.Goals as goal
use Rattle.rows.proofs.least.Goals.{After-sum}

pub sum-requires-clause-can : goal.sum-requires-clause-can
unfolding part_count part_number
sum-requires-clause-can c = let a = c.args in let ms = c.parts_of.result.now in let q = c.parts_of.ensures in (
  tt,
  serves_from_places (YieldsList-from_slice ms cc) (λ x q k. search (rules, tests)) (λ x j h e.
      let s = part_small (held a.index.table.cells.now) a.b j (omega (arith, ap length q)) in
      let l : x.now < 512 = omega (arith, e, get_or_default_zero ms j x.now h, ap (λ ms. get_or ms j 0) q, s, a.index.table.ready.promises.limits.nodes) in search rules),
)

pub sum-requires-clause-fits : goal.sum-requires-clause-fits
unfolding part_count
sum-requires-clause-fits c = let a = c.args in let ms = c.parts_of.result.now in
    let few : length ms ≤ 512 = omega (arith, ap length c.parts_of.ensures, parts-few (held a.index.table.cells.now) a.b, a.index.table.ready.promises.limits.nodes) in
    let small : sum_by (λ m. get_or a.ranks.now m 0) ms ≤ length ms * most_rank = sum-small a.ranks.now most_rank c.requires.by_index ms in
    fits_by_from_yields_list (λ m. get_or a.ranks.now m 0) ms c.map.result _ (YieldsList-from_map _ (λ m. get_or a.ranks.now m 0) (YieldsList-at c.map.ensures.source (YieldsList-from_slice ms cc)) c.map.ensures.closure (λ x r q k. search (rules, tests))) (omega arith)

total : (c : After-sum) → c.sum.result ≡ sum_by (λ m. get_or c.args.ranks.now m 0) c.parts_of.result.now
total c = let f = λ (m : ℕ). get_or c.args.ranks.now m 0 in let ms = c.parts_of.result.now in
    sum_by_from_yields_List f ms c.map.result _ c.sum.ensures.ran (YieldsList-from_map _ f (YieldsList-at c.map.ensures.source (YieldsList-from_slice ms cc)) c.map.ensures.closure (λ x r q k. search (rules, tests)))

pub overflow_add-result : goal.overflow_add-result
unfolding part_count
overflow_add-result c = let a = c.args in let ms = c.parts_of.result.now in
    let few : length ms ≤ 512 = omega (arith, ap length c.parts_of.ensures, parts-few (held a.index.table.cells.now) a.b, a.index.table.ready.promises.limits.nodes) in
    let small : sum_by (λ m. get_or a.ranks.now m 0) ms ≤ length ms * most_rank = sum-small a.ranks.now most_rank c.requires.by_index ms in
    omega (arith, total c)

pub returns : goal.returns
returns c = omega (arith, total c, sum-is c.args.ranks.now c.parts_of.result.now, ap (rank_sum c.args.ranks.now) c.parts_of.ensures)
