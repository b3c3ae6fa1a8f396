use Rattle.steps.proofs.Laws.{Leads}
use Prim.Native.Nat.{◌-◌}
use Rattle.tables.specs.State.{state_of}
use Rattle.steps.specs.Steps.{times}
use Rattle.steps.specs.Filling.{Same}
use Rattle.lines.specs.Definition.{owner_at}
use Rattle.contracts.specs.Counts.{Added}
use Rattle.lines.proofs.owners.Given as goal

abbrev pub invariant-loop : goal.invariant-loop
invariant-loop l = Leads (Added l.fn.filling.request.now 0 l.n l.initial.cur) (times (l.n - l.counter) (owner_at l.fn.filling.request.now l.people) (state_of l.cur l.filling.table.now)) (times l.n (owner_at l.fn.filling.request.now l.people) (state_of l.initial.cur l.initial.filling.table.now)) × Added l.fn.filling.request.now 0 l.counter l.initial.cur l.cur × Same l.fn.filling l.filling
