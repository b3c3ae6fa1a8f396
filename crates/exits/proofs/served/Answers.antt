use native.Mathlib.Omega.{arith}
use mathlib.Core.Path.{sym, ap, ◌∙◌, subst}
use lib.ListN.{length, get_or}
use Rattle.tables.specs.Entries.{held}
use Rattle.tables.specs.SheetOf.{part_count}
use Rattle.tables.proofs.SheetOf.{parts-few}
use Rattle.exits.specs.Costs.{Ranked, some_rank, served, ranks_at}
use Rattle.exits.proofs.Costing.{some-is, is-some, is-none, ranked_at, served-none, served-some, served-end}
use Rattle.exits.proofs.served.Goals as goal

pub rank_of-requires : goal.rank_of-requires
rank_of-requires c = let a = c.args in let e = c.parts_of-m-items in
    (ranked_at a.ranks.now e.result.now c.loop-m.m-index (subst (Ranked a.ranks.now) (sym e.ensures) c.requires.ranked) (omega arith)).0

pub returns-in_err-sum : goal.returns-in_err-sum
returns-in_err-sum c = let a = c.args in let e = c.parts_of-m-items in let l = c.loop-m in
    let z = is-none _ c.in_err-sum.ensures in
    c.from_residual.ensures ∙ ap some_rank (sym (served-none a.ranks.now e.result.now l.m-index l.sum (omega arith) z) ∙ l.invariant.same) ∙ ap (λ ms. some_rank (served 1 (ranks_at a.ranks.now ms))) e.ensures

pub overflow_add-sum : goal.overflow_add-sum
unfolding part_count
overflow_add-sum c = let a = c.args in let e = c.parts_of-m-items in let l = c.loop-m in
    let k = is-some (get_or a.ranks.now (get_or e.result.now l.m-index 0) 0) _ c.in_ok-sum.ensures in
    let r = ranked_at a.ranks.now e.result.now l.m-index (subst (Ranked a.ranks.now) (sym e.ensures) c.requires.ranked) (omega arith) in
    omega (arith, r, k, ap (λ ms. length ms) e.ensures, parts-few (held a.index.table.cells.now) a.b, a.index.table.ready.promises.limits.nodes)

pub loop-m-preserved : goal.loop-m-preserved
loop-m-preserved c = let a = c.args in let e = c.parts_of-m-items in let l = c.loop-m in
    let k = is-some (get_or a.ranks.now (get_or e.result.now l.m-index 0) 0) _ c.in_ok-sum.ensures in
    let r = ranked_at a.ranks.now e.result.now l.m-index (subst (Ranked a.ranks.now) (sym e.ensures) c.requires.ranked) (omega arith) in record {
      some = omega arith;
      small = omega (arith, r, k);
      same = sym (served-some a.ranks.now e.result.now l.m-index l.sum _ (omega arith) k.0 k.1) ∙ l.invariant.same;
    }

pub returns : goal.returns
returns c = let a = c.args in let e = c.parts_of-m-items in let l = c.loop-m in
    some-is l.sum l.invariant.some ∙ ap some_rank (sym (served-end a.ranks.now e.result.now l.m-index l.sum (omega arith)) ∙ l.invariant.same) ∙ ap (λ ms. some_rank (served 1 (ranks_at a.ranks.now ms))) e.ensures
