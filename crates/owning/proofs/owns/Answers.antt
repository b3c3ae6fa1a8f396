use Rattle.std.proofs.Common.{sym, ap, ◌∙◌, arith}
use lib.Dec.{eqb}
use borrow.Author.Tests.{le-ltb}
use Rattle.tables.specs.Entries.{held, people}
use Rattle.owning.proofs.Owning.{owns_past, owns_in}
use Rattle.owning.proofs.owns.Goals as goal

pub returns-then-j-definition : goal.returns-then-j-definition
returns-then-j-definition c = let a = c.args in let E = held a.table.cells.now in
    ap (λ x. eqb x a.p) c.owner.ensures ∙ sym (owns_in (people a.table.cells.now) E a.p a.d a.j c.requires.d_in_bounds (omega (arith, c.definition.ensures.secrets)))

pub returns-else-j-definition : goal.returns-else-j-definition
returns-else-j-definition c = let a = c.args in let E = held a.table.cells.now in
    le-ltb _ _ c.if-j-definition.false ∙ sym (owns_past (people a.table.cells.now) E a.p a.d a.j c.requires.d_in_bounds (omega (arith, c.definition.ensures.secrets)))
