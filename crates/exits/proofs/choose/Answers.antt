use native.Mathlib.Omega.{arith}
use Prim.Native.Nat.{ℕ, ◌-◌, ◌<◌}
use mathlib.Core.Path.{sym, ap, ap₂, ◌∙◌, subst}
use Rattle.bitml.specs.Rule.{better}
use Rattle.bitml.specs.Sheet.{parts}
use Rattle.tables.specs.Entries.{held, people}
use Rattle.tables.specs.SheetOf.{branch_of, branch_count}
use Rattle.tables.proofs.SheetOf.{branch-small}
use Rattle.exits.specs.Costs.{Ranked, as_choice, branch_cost}
use Rattle.exits.proofs.Costing.{is-some, is-none, better-none, better-some, number-count, number-at, chosen_none, chosen_more}
use Rattle.exits.proofs.choose.Goals as goal

pub loop-i-init : goal.loop-i-init
loop-i-init c = let a = c.args in let e = c.branches_of-branches.ensures in
    rw (number-count _ _ _ e) (record { some = tt; same = sym (chosen_none (people a.index.table.cells.now) (held a.index.table.cells.now) a.p a.n a.ranks.now (branch_count (held a.index.table.cells.now) a.n)) })

pub cost-requires-clause-p_bound : goal.cost-requires-clause-p_bound
cost-requires-clause-p_bound c = let a = c.args in let E = held a.index.table.cells.now in let e = c.branches_of-branches.ensures in let i = c.loop-i.i - 1 in
    (c.requires.p_bound.0, c.requires.p_bound.1, omega (arith, number-at E a.n _ e i, branch-small E a.n i (omega (arith, number-count E a.n _ e))))

pub cost-requires-clause-ranked : goal.cost-requires-clause-ranked
cost-requires-clause-ranked c = let a = c.args in let E = held a.index.table.cells.now in let e = c.branches_of-branches.ensures in let i = c.loop-i.i - 1 in
    subst (λ b. Ranked a.ranks.now (parts (branch_of E b).action)) (sym (number-at E a.n _ e i)) (c.requires.by_index i (omega (arith, number-count E a.n _ e)))

pub loop-i-preserved-in-Some : goal.loop-i-preserved-in-Some
loop-i-preserved-in-Some c = let a = c.args in let l = c.loop-i in let i = l.i - 1 in
    let K = people a.index.table.cells.now in let E = held a.index.table.cells.now in let e = c.branches_of-branches.ensures in
    let r = is-some _ _ c.in-Some.ensures in record {
      some = subst (λ (k : ℕ). 0 < k) (sym (ap (λ o. o.rank) c.better.ensures)) (better-some c.in-Some.rank i (as_choice l.best) r.1);
      same = c.better.ensures ∙ ap₂ (λ k o. better k i o) (sym r.0 ∙ ap (λ b. branch_cost K E a.p a.n b a.ranks.now) (number-at E a.n _ e i)) l.invariant.same
          ∙ sym (chosen_more K E a.p a.n a.ranks.now l.i (branch_count E a.n) (omega arith) (omega (arith, number-count E a.n _ e)));
    }

pub loop-i-preserved : goal.loop-i-preserved
loop-i-preserved c = let a = c.args in let l = c.loop-i in let i = l.i - 1 in
    let K = people a.index.table.cells.now in let E = held a.index.table.cells.now in let e = c.branches_of-branches.ensures in record {
      some = l.invariant.some;
      same = l.invariant.same ∙ sym (chosen_more K E a.p a.n a.ranks.now l.i (branch_count E a.n) (omega arith) (omega (arith, number-count E a.n _ e))
          ∙ better-none _ i _ (ap (λ b. branch_cost K E a.p a.n b a.ranks.now) (sym (number-at E a.n _ e i)) ∙ is-none _ c.in_default.ensures));
    }
