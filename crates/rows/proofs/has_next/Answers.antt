use mathlib.Core.Path.{sym, ap, ◌∙◌}
use mathlib.Core.Bool.{not}
use lib.ListN.{get_or}
use lib.Dec.{eqb}
use Rattle.tables.specs.Entries.{held, people}
use Rattle.tables.specs.SheetOf.{def_entry_at}
use Rattle.tables.specs.Kinds.{code}
use Rattle.rows.proofs.Judged.{renew-is, next-has, next-root}
use Rattle.rows.proofs.has_next.Goals as goal

pub returns-in_Renew-index : goal.returns-in_Renew-index
returns-in_Renew-index c = let a = c.args in let t = a.index.table in let E = held t.cells.now in
    ap (λ m. not (eqb (get_or a.ranks.now m 0) 0)) (c.definition.ensures.root ∙ ap (λ d. (def_entry_at E d).root) c.branch-branch.ensures.arg)
    ∙ next-root (people t.cells.now) E t.ready.promises a.ranks.now a.b c.requires.b_in_bounds (sym c.branch-branch.ensures.kind ∙ ap code c.in_Renew-index.is)

pub returns-in_default-index : goal.returns-in_default-index
returns-in_default-index c = let a = c.args in let t = a.index.table in
    c.has_parts.ensures ∙ next-has (people t.cells.now) (held t.cells.now) t.ready.promises a.ranks.now a.b c.requires.b_in_bounds (λ e. c.in_default-index.not-Renew (renew-is _ (c.branch-branch.ensures.kind ∙ e)))
