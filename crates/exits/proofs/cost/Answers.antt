use native.Mathlib.Omega.{arith}
use mathlib.Core.Path.{sym, ap, ◌∙◌}
use lib.ListN.{get_or}
use Rattle.tables.specs.Entries.{held, people}
use Rattle.tables.specs.Kinds.{code}
use Rattle.exits.specs.Costs.{some_rank}
use Rattle.exits.proofs.Costing.{some-is, is-some, is-none, cost-other, cost-none, cost-split, cost-stuck, cost-step, cost-renewal, ranked-reveal, ranked-split}
use Rattle.exits.proofs.cost.Goals as goal

pub returns-then-not-own : goal.returns-then-not-own
returns-then-not-own c = let a = c.args in
    ap some_rank (sym (cost-other (people a.index.table.cells.now) (held a.index.table.cells.now) a.p a.n a.b a.ranks.now (sym c.if-not-own.ensures)))

pub served-requires-clause-ranked : goal.served-requires-clause-ranked
served-requires-clause-ranked c = let a = c.args in
    ranked-split (people a.index.table.cells.now) (held a.index.table.cells.now) a.p a.n a.b a.ranks.now (ap code (sym c.in_Split-index.is) ∙ c.branch-branch.ensures.kind) c.requires.ranked

pub returns-in_Withdraw-index : goal.returns-in_Withdraw-index
returns-in_Withdraw-index c = let a = c.args in
    ap some_rank (sym (cost-none (people a.index.table.cells.now) (held a.index.table.cells.now) a.p a.n a.b a.ranks.now c.if-not-own.ensures (ap code (sym c.in_Withdraw-index.is) ∙ c.branch-branch.ensures.kind)))

pub returns-in_Split-index : goal.returns-in_Split-index
returns-in_Split-index c = let a = c.args in
    c.served.ensures ∙ ap some_rank (sym (cost-split (people a.index.table.cells.now) (held a.index.table.cells.now) a.p a.n a.b a.ranks.now c.if-not-own.ensures (ap code (sym c.in_Split-index.is) ∙ c.branch-branch.ensures.kind)))

pub rank_of-requires : goal.rank_of-requires
rank_of-requires c = let a = c.args in
    let r = ranked-reveal (people a.index.table.cells.now) (held a.index.table.cells.now) a.p a.n a.b a.ranks.now (ap code (sym c.in_Reveal-index.is) ∙ c.branch-branch.ensures.kind) c.requires.ranked in
    omega (arith, r, c.branch-branch.ensures.arg)

pub returns-in_err-rank_of-in_Reveal-index : goal.returns-in_err-rank_of-in_Reveal-index
returns-in_err-rank_of-in_Reveal-index c = let a = c.args in
    let e = ap (λ m. get_or a.ranks.now m 0) (sym c.branch-branch.ensures.arg) in
    c.from_residual.ensures ∙ ap some_rank (sym (cost-stuck (people a.index.table.cells.now) (held a.index.table.cells.now) a.p a.n a.b a.ranks.now c.if-not-own.ensures (ap code (sym c.in_Reveal-index.is) ∙ c.branch-branch.ensures.kind) _ e (is-none _ c.in_err-rank_of-in_Reveal-index.ensures)))

pub overflow_add-result : goal.overflow_add-result
overflow_add-result c = let a = c.args in
    let r = ranked-reveal (people a.index.table.cells.now) (held a.index.table.cells.now) a.p a.n a.b a.ranks.now (ap code (sym c.in_Reveal-index.is) ∙ c.branch-branch.ensures.kind) c.requires.ranked in
    let e = ap (λ m. get_or a.ranks.now m 0) c.branch-branch.ensures.arg in
    let k = is-some _ _ c.in_ok-rank_of-in_Reveal-index.ensures in
    omega (arith, r, e, k.0)

pub returns-in_ok-rank_of-in_Reveal-index : goal.returns-in_ok-rank_of-in_Reveal-index
returns-in_ok-rank_of-in_Reveal-index c = let a = c.args in
    let e = ap (λ m. get_or a.ranks.now m 0) (sym c.branch-branch.ensures.arg) in
    let k = is-some _ _ c.in_ok-rank_of-in_Reveal-index.ensures in
    some-is _ (omega arith) ∙ ap some_rank (sym (cost-step (people a.index.table.cells.now) (held a.index.table.cells.now) a.p a.n a.b a.ranks.now c.if-not-own.ensures (ap code (sym c.in_Reveal-index.is) ∙ c.branch-branch.ensures.kind) _ (e ∙ k.0) k.1))

pub returns-in_Renew-index : goal.returns-in_Renew-index
returns-in_Renew-index c = let a = c.args in
    ap some_rank (sym (cost-renewal (people a.index.table.cells.now) (held a.index.table.cells.now) a.p a.n a.b a.ranks.now c.if-not-own.ensures (ap code (sym c.in_Renew-index.is) ∙ c.branch-branch.ensures.kind)))
