use Rattle.std.proofs.Common.{◌≡◌, ◌<◌, sym, ap, ◌∙◌, arith, inl, inr}
use mathlib.Core.Logic.{⊎_elim}
use Rattle.bitml.proofs.Lists.{ask_no, ask_yes}
use Rattle.tables.specs.Entries.{held, people}
use Rattle.tables.specs.SheetOf.{branch_entry_at}
use Rattle.tables.specs.Kinds.{code}
use Rattle.owning.proofs.Owning.{Alone, bar-others, bar_simple, bar-renewal, bar_another, bar-reveal}
use Rattle.owning.proofs.bar.Goals as goal
use Rattle.owning.proofs.bar.Goals.{Joined-else-signers-ne0, In_Reveal-table, else-signers-ne0-via-then-signers-ne0+else-signers-mask_of, else-signers-ne0-via-else-signers-ne0}

-- no other signs
alone : (c : Joined-else-signers-ne0) → Alone (people c.args.table.cells.now) (held c.args.table.cells.now) c.args.p c.args.b
alone c = let e = sym c.signers-signers.ensures in
    elim c.else-signers-ne0.branch [ else-signers-ne0-via-then-signers-ne0+else-signers-mask_of w ↦ inr (e ∙ w.if-signers-mask_of.false ∙ w.mask_of.ensures) | else-signers-ne0-via-else-signers-ne0 w ↦ inl (e ∙ w.if-signers-ne0.false) ]

reveals : (c : In_Reveal-table) → (branch_entry_at (held c.args.table.cells.now) c.args.b).kind ≡ 2
reveals c = sym c.branch-branch.ensures.kind ∙ ap code c.in_Reveal-table.is

pub returns-then-signers-mask_of : goal.returns-then-signers-mask_of
returns-then-signers-mask_of c = let a = c.args in let e = c.signers-signers.ensures in
    sym (bar-others (people a.table.cells.now) (held a.table.cells.now) a.p a.n a.b (a.table.ready.promises.branch a.b c.requires.p_bound.2).signers (λ z. c.if-signers-ne0.true (e ∙ z)) (λ z. c.if-signers-mask_of.true (e ∙ z ∙ sym c.mask_of.ensures)))

pub returns-in_Withdraw-table : goal.returns-in_Withdraw-table
returns-in_Withdraw-table c = let a = c.args in
    let k : code c.branch-branch.result.kind < 2 = ⊎_elim (λ e. rw e (omega arith)) (λ e. rw e (omega arith)) c.in_Withdraw-table.is in
    sym (bar_simple (people a.table.cells.now) (held a.table.cells.now) a.p a.n a.b (alone (goal.at.returns-in_Withdraw-table c).Joined-else-signers-ne0) (omega (arith, c.branch-branch.ensures.kind, k)))

pub returns-in_Renew-table : goal.returns-in_Renew-table
returns-in_Renew-table c = let a = c.args in
    let k : (branch_entry_at (held a.table.cells.now) a.b).kind ≡ 3 = sym c.branch-branch.ensures.kind ∙ ap code c.in_Renew-table.is in
    sym (bar-renewal (people a.table.cells.now) (held a.table.cells.now) a.p a.n a.b (alone (goal.at.returns-in_Renew-table c).Joined-else-signers-ne0) k)

pub returns-then-not-owns_all : goal.returns-then-not-owns_all
returns-then-not-owns_all c = let a = c.args in let E = held a.table.cells.now in let s = goal.at.returns-then-not-owns_all c in
    sym (bar_another (people a.table.cells.now) E a.p a.n a.b c.requires.p_bound.1 (alone s.Joined-else-signers-ne0) (reveals s.In_Reveal-table)
    (rw (← c.node-d.ensures.definition, ← c.branch-branch.ensures.first, ← c.branch-branch.ensures.count) (sym c.owns_all.ensures ∙ c.if-not-owns_all.true)))

pub returns-then-not-counts_always : goal.returns-then-not-counts_always
returns-then-not-counts_always c = let a = c.args in let E = held a.table.cells.now in let s = goal.at.returns-then-not-counts_always c in
    sym (bar-reveal (people a.table.cells.now) E a.p a.n a.b c.requires.p_bound.1 (alone s.Joined-else-signers-ne0) (reveals s.In_Reveal-table)
    (rw (← c.node-d.ensures.definition, ← c.branch-branch.ensures.first, ← c.branch-branch.ensures.count) (sym c.owns_all.ensures ∙ c.if-not-owns_all.false))
    ∙ ask_no _ _ _ (rw (← c.branch-branch.ensures.cond) (sym c.counts_always.ensures ∙ c.if-not-counts_always.true)))

pub returns-else-not-counts_always : goal.returns-else-not-counts_always
returns-else-not-counts_always c = let a = c.args in let E = held a.table.cells.now in let s = goal.at.returns-else-not-counts_always c in
    sym (bar-reveal (people a.table.cells.now) E a.p a.n a.b c.requires.p_bound.1 (alone s.Joined-else-signers-ne0) (reveals s.In_Reveal-table)
    (rw (← c.node-d.ensures.definition, ← c.branch-branch.ensures.first, ← c.branch-branch.ensures.count) (sym c.owns_all.ensures ∙ c.if-not-owns_all.false))
    ∙ ask_yes _ _ _ (rw (← c.branch-branch.ensures.cond) (sym c.counts_always.ensures ∙ c.if-not-counts_always.false)))
