use Rattle.texts.specs.Wrote.{Wrote}
use Rattle.texts.proofs.Texts.{rows_text}
use Rattle.texts.proofs.put_rows.Given as goal

abbrev pub invariant-loop-i : goal.invariant-loop-i
invariant-loop-i l = Wrote l.initial.out l.at (rows_text l.i l.rows) l.out l.e
