use Rattle.steps.proofs.Laws.{Leads}
use Prim.Native.Nat.{◌-◌, ◌≤◌}
use Rattle.tables.specs.State.{state_of}
use Rattle.steps.specs.Filling.{Same}
use Rattle.lines.specs.Definition.{deposits_at}
use Rattle.contracts.specs.Counts.{Added}
use Rattle.lines.proofs.deposits.Given as goal

abbrev pub invariant-loop : goal.invariant-loop
invariant-loop l = Leads (Added l.fn.filling.request.now 0 l.n l.initial.cur) (deposits_at l.fn.filling.request.now l.sum (l.n - l.counter) (state_of l.cur l.filling.table.now)) (deposits_at l.fn.filling.request.now 0 l.n (state_of l.initial.cur l.initial.filling.table.now)) × Added l.fn.filling.request.now 0 l.counter l.initial.cur l.cur × (l.sum ≤ 2100000000000000) × Same l.fn.filling l.filling
