use Rattle.writing.specs.Written.{repeat, listed_text}
use Rattle.writer.specs.Putting.{due, Puts}
use Rattle.tables.specs.Entries.{held}
use Rattle.std.specs.Prelude.{Some}
use Rattle.writer.proofs.put_all_listed.Given as goal

abbrev pub invariant-loop : goal.invariant-loop
invariant-loop l = Puts l.initial.out l.initial.cur.at (repeat l.counter (listed_text (held l.entries.cells.now)) (due l.initial.cur)) (Some l.cur) l.out
