use Rattle.writing.specs.Written.{repeat, def_text}
use Rattle.writer.specs.Putting.{due, Puts}
use Rattle.tables.specs.Entries.{held}
use Rattle.std.specs.Prelude.{Some}
use Rattle.writer.proofs.put_defs.Given as goal

abbrev pub invariant-loop : goal.invariant-loop
invariant-loop l = Puts l.initial.out l.initial.cur.at (repeat l.counter (def_text (held l.entries.cells.now) l.people) (due l.initial.cur)) (Some l.cur) l.out
