use Rattle.std.proofs.Common.{◌+◌, ◌*◌, ◌≤◌, take}
use Rattle.texts.specs.Text.{fields}
use Rattle.texts.specs.Wrote.{Wrote}
use Rattle.texts.proofs.put_fields.Given as goal

abbrev pub invariant-loop-n : goal.invariant-loop-n
invariant-loop-n l = record { room : l.e ≤ l.at + 21 * l.n-index; wrote : Wrote l.initial.out l.at (fields (take l.n-index l.numbers)) l.out l.e }
