use Rattle.contracts.specs.Counts.{Added}
use Rattle.contracts.specs.Contract.{list_at}
use Rattle.steps.proofs.Laws.{Leads}
use Rattle.steps.specs.Filling.{Same}
use Rattle.steps.specs.Steps.{times}
use Rattle.tables.specs.State.{state_of}
use Prim.Native.Nat.{◌-◌}
use Rattle.contracts.proofs.list_all.Given as goal

abbrev pub invariant-loop : goal.invariant-loop
invariant-loop l = Leads (Added l.fn.filling.request.now 0 l.n l.initial.cur) (times (l.n - l.counter) (list_at l.fn.filling.request.now l.secrets l.from) (state_of l.cur l.filling.table.now)) (times l.n (list_at l.fn.filling.request.now l.secrets l.from) (state_of l.initial.cur l.initial.filling.table.now)) × Added l.fn.filling.request.now 0 l.counter l.initial.cur l.cur × Same l.fn.filling l.filling
