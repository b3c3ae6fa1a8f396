use Prim.Native.Nat.{◌+◌, ◌-◌, ◌*◌}
use Rattle.std.specs.Prelude.{Some}
use Rattle.writing.specs.Written.{repeat, branch_text, contract_text, part_text}
use Rattle.writer.specs.Putting.{due, Puts}
use Rattle.tables.specs.Entries.{held}
use Rattle.writer.proofs.+put_branch_put_contract_put_reveal_put_split.Given as goal

abbrev pub decreases-put_split : goal.decreases-put_split
decreases-put_split l = 3 * l.depth + 1

abbrev pub decreases-put_reveal : goal.decreases-put_reveal
decreases-put_reveal l = 3 * l.depth + 1

abbrev pub decreases-put_contract : goal.decreases-put_contract
decreases-put_contract l = 3 * l.depth

abbrev pub decreases-put_branch : goal.decreases-put_branch
decreases-put_branch l = 3 * l.depth + 2

abbrev pub invariant-put_contract-loop : goal.invariant-put_contract-loop
invariant-put_contract-loop l = Puts l.initial.out l.initial.cur.at (repeat l.counter (branch_text (held l.entries.cells.now) (contract_text (held l.entries.cells.now) (l.depth - 1))) (due l.initial.cur)) (Some l.cur) l.out

abbrev pub invariant-put_split-loop : goal.invariant-put_split-loop
invariant-put_split-loop l = Puts l.initial.out l.initial.cur.at (repeat l.counter (part_text (held l.entries.cells.now) (contract_text (held l.entries.cells.now) l.depth)) (due l.initial.cur)) (Some l.cur) l.out
