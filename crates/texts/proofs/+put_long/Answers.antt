use native.Mathlib.Omega.{arith}
use Rattle.texts.proofs.Texts.{more-length, wrote-last}
use Rattle.texts.proofs.+put_long.Goals as goal

pub put_long-e-requires : goal.put_long-e-requires
put_long-e-requires t c = let n = c.args.n in (omega arith, omega (arith, more-length n (omega arith) (omega arith)))

pub put_byte-requires : goal.put_byte-requires
put_byte-requires t c = let n = c.args.n in omega (arith, more-length n (omega arith) (omega arith))

pub returns : goal.returns
returns t c = wrote-last _ (omega arith) (omega arith) c.put_long-e.ensures c.put_byte.ensures
