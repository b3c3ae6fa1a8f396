use Rattle.contracts.specs.Contract.{read_branch, read_contract, weighed_at}
use Rattle.contracts.specs.Counts.{Few}
use Rattle.steps.proofs.Laws.{Leads}
use Rattle.steps.specs.Filling.{Same}
use Rattle.steps.specs.Steps.{times}
use Rattle.tables.specs.State.{state_of}
use Prim.Native.Nat.{◌-◌, ◌+◌, ◌*◌, ◌≤◌}
use Rattle.contracts.proofs.+branch_contract_reveal_split_weighed.Given as goal

abbrev pub decreases-weighed : goal.decreases-weighed
decreases-weighed l = 5 * l.depth + 1

abbrev pub decreases-split : goal.decreases-split
decreases-split l = 5 * l.depth + 3

abbrev pub decreases-reveal : goal.decreases-reveal
decreases-reveal l = 5 * l.depth + 3

abbrev pub decreases-contract : goal.decreases-contract
decreases-contract l = 5 * l.depth

abbrev pub decreases-branch : goal.decreases-branch
decreases-branch l = 5 * l.depth + 4

abbrev pub invariant-contract-loop : goal.invariant-contract-loop
invariant-contract-loop l = Leads (Few l.fn.filling.request.now l.lim) (times (l.n - l.counter) (read_branch l.fn.filling.request.now l.lim (read_contract l.fn.filling.request.now l.lim (l.depth - 1)) l.f.nodes) (state_of l.cur l.filling.table.now)) (times l.n (read_branch l.fn.filling.request.now l.lim (read_contract l.fn.filling.request.now l.lim (l.depth - 1)) l.f.nodes) (state_of l.initial.cur l.initial.filling.table.now)) × Few l.fn.filling.request.now l.lim l.cur × Same l.fn.filling l.filling

abbrev pub invariant-weighed-loop-left : goal.invariant-weighed-loop-left
invariant-weighed-loop-left l = Leads (Few l.fn.filling.request.now l.lim) (weighed_at l.fn.filling.request.now (read_contract l.fn.filling.request.now l.lim l.depth) l.parent l.sum l.left (state_of l.cur l.filling.table.now)) (weighed_at l.fn.filling.request.now (read_contract l.fn.filling.request.now l.lim l.depth) l.parent l.initial.sum l.n (state_of l.initial.cur l.initial.filling.table.now)) × Few l.fn.filling.request.now l.lim l.cur × (l.sum + 1000 * l.left ≤ 8000) × Same l.fn.filling l.filling
