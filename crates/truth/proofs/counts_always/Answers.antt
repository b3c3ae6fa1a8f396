use Rattle.truth.proofs.Laws.{counts-told, counts-not}
use Rattle.truth.proofs.counts_always.Goals as goal

pub returns-then-not-slate : goal.returns-then-not-slate
returns-then-not-slate c = counts-told c.evaluate-slate.ensures c.if-not-slate.true

pub returns-else-not-slate : goal.returns-else-not-slate
returns-else-not-slate c = counts-not c.evaluate-slate.ensures c.if-not-slate.false
