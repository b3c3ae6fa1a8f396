use Rattle.steps.proofs.Laws.{Leads}
use Prim.Native.Nat.{◌-◌}
use Rattle.tables.specs.State.{state_of}
use Rattle.steps.specs.Steps.{times}
use Rattle.lines.specs.Counts.{Defined}
use Rattle.steps.specs.Filling.{Same}
use Rattle.lines.specs.Definition.{define_at, blank}
use Rattle.lines.proofs.definitions.Given as goal

abbrev pub invariant-loop : goal.invariant-loop
invariant-loop l = Leads (Defined l.fn.filling.request.now l.n) (times (l.n - l.counter) (define_at l.fn.filling.request.now l.z) (state_of l.cur l.filling.table.now)) (times l.n (define_at l.fn.filling.request.now l.z) (blank l.at)) × Defined l.fn.filling.request.now l.counter l.cur × Same l.fn.filling l.filling
