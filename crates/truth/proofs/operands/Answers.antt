use Rattle.truth.proofs.Laws.{operands_are}
use Rattle.truth.proofs.operands.Goals as goal

pub returns : goal.returns
returns c = operands_are _ _ c.args.slate.now c.expression-next.ensures c.expression.ensures
