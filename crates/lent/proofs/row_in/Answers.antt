use mathlib.Core.Path.{◌∙◌}
use Rattle.lent.specs.Structs.{struct_of, struct_at}
use Rattle.lent.proofs.Structs.{struct_from}
use Rattle.lent.proofs.row_in.Goals as goal

pub returns-then-i-numbers : goal.returns-then-i-numbers
unfolding struct_at struct_of
returns-then-i-numbers c = let e = c.row_at-node.ensures in rw (e.node, e.branch, e.rank)

pub returns : goal.returns
returns c = c.row_of.ensures ∙ struct_from c.args.numbers.now c.args.i
