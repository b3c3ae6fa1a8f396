use native.Mathlib.Omega.{arith}
use mathlib.Core.Path.{sym, ap, ◌∙◌}
use Rattle.tables.specs.Entries.{held}
use Rattle.tables.specs.SheetOf.{branch_numbers}
use Rattle.counts.proofs.Finding.{finds_in}
use Rattle.counts.proofs.Counts.live_branch.Goals as goal

pub returns : goal.returns
returns c = let a = c.args in let got = c.get.ensures.lookup in
    rw c.copied.ensures
    (finds_in a.index.table.cells.now _ _ _ a.c a.b c.branches_of.result.now c.get.result got.0 (got.4 (omega arith)) (omega arith) (sym c.is_alive.ensures ∙ c.if-not-is_alive.false)
    (c.branches_of.ensures ∙ ap (λ n. branch_numbers (held a.index.table.cells.now) n) c.node_of.ensures))
