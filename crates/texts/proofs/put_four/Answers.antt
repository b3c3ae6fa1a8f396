use native.Mathlib.Omega.{arith}
use Rattle.texts.proofs.Texts.{more-length, wrote-last}
use Rattle.texts.proofs.put_four.Goals as goal

pub put_three-e-requires : goal.put_three-e-requires
put_three-e-requires c = let n = c.args.n in record { n_bound = omega arith; n_in_bounds = omega (arith, more-length n (omega arith) (omega arith)) }

pub put_byte-requires : goal.put_byte-requires
put_byte-requires c = let n = c.args.n in omega (arith, more-length n (omega arith) (omega arith))

pub returns : goal.returns
returns c = wrote-last _ (omega arith) (omega arith) c.put_three-e.ensures c.put_byte.ensures
