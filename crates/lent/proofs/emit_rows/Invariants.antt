use Rattle.std.proofs.Common.{◌≡◌}
use Rattle.lent.proofs.Structs.{written}
use Rattle.lent.proofs.emit_rows.Given as goal

-- the places before i are written
abbrev pub invariant-loop-i : goal.invariant-loop-i
invariant-loop-i l = l.rows ≡ written l.numbers l.fn.rows l.i
