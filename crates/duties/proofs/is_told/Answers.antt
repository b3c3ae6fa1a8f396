use Rattle.std.proofs.Common.{sym, ◌∙◌}
use borrow.Author.Tests.{le-ltb}
use Rattle.duties.proofs.Secrets.{told_past, told_known}
use Rattle.duties.proofs.is_told.Goals as goal

pub returns-then-j-known : goal.returns-then-j-known
returns-then-j-known c = let a = c.args in sym (told_known a.state.now a.base a.known a.j c.if-j-known.true)

pub returns-else-j-known : goal.returns-else-j-known
returns-else-j-known c = let a = c.args in le-ltb _ _ c.if-j-known.false ∙ sym (told_past a.state.now a.base a.known a.j c.if-j-known.false)
