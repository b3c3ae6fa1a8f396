use Prim.Native.Nat.{◌/◌}
use native.Mathlib.Omega.{arith}
use Rattle.texts.proofs.Texts.{one-length, more-length, wrote_one, wrote-last}
use Rattle.texts.proofs.put_two.Goals as goal

pub put_byte-requires : goal.put_byte-requires
put_byte-requires c = omega (arith, one-length c.args.n (omega arith))

pub returns-then-n-lt10 : goal.returns-then-n-lt10
returns-then-n-lt10 c = wrote_one _ (omega arith) c.put_byte.ensures

pub put_byte-e-requires : goal.put_byte-e-requires
put_byte-e-requires c = let n = c.args.n in omega (arith, more-length n (omega arith) (omega arith))

pub put_byte-requires-2 : goal.put_byte-requires-2
put_byte-requires-2 c = let n = c.args.n in let w = wrote_one (n / 10) (omega arith) c.put_byte-e.ensures in omega (arith, more-length n (omega arith) (omega arith), w.end, w.long)

pub returns : goal.returns
returns c = wrote-last _ (omega arith) (omega arith) (wrote_one _ (omega arith) c.put_byte-e.ensures) c.put_byte-2.ensures
