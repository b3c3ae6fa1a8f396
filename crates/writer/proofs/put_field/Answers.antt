use Rattle.writer.proofs.Putting.{say_puts}
use Rattle.texts.specs.Text.{field}
use Rattle.texts.proofs.Writing.{wrote_then}
use Rattle.texts.proofs.Lengths.{decimal-most}
use native.Mathlib.Omega.{arith}
use Rattle.writer.proofs.put_field.Goals as goal

pub put_number-f-requires : goal.put_number-f-requires
put_number-f-requires c = omega (arith, c.requires.long, c.requires.small.short, c.put_byte-e.ensures.end, c.put_byte-e.ensures.long, decimal-most c.args.n)

pub returns : goal.returns
unfolding field
returns c = say_puts c.requires.small (wrote_then c.put_byte-e.ensures c.put_number-f.ensures) c.stand.ensures
