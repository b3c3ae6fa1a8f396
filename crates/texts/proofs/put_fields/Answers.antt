use Rattle.std.proofs.Common.{arith}
use Rattle.texts.proofs.Texts.{wrote_no_field, wrote-field}
use Rattle.texts.proofs.Lengths.{decimal-most}
use Rattle.texts.proofs.put_fields.Goals as goal

pub loop-n-init : goal.loop-n-init
loop-n-init c = record { room = omega arith; wrote = wrote_no_field _ _ }

pub put_number-e-requires : goal.put_number-e-requires
put_number-e-requires c = omega (arith, decimal-most)

pub loop-n-preserved : goal.loop-n-preserved
loop-n-preserved c = let l = c.loop-n in let b = c.put_byte-e.ensures in let d = c.put_number-e.ensures in
    record { room = omega (arith, decimal-most); wrote = wrote-field c.args.numbers.now l.n-index (omega arith) l.invariant.wrote b d }
