use lib.ListN.{length}
use Rattle.exits.proofs.Buffer.{Put}
use Rattle.exits.proofs.put_rows.Given as goal

abbrev pub invariant-loop-i : goal.invariant-loop-i
invariant-loop-i l = Put l.marks l.ranks l.branches l.rows (length l.initial.rows) l.i l.count
