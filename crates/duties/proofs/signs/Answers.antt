use Rattle.duties.proofs.Signing.{signs-is}
use Rattle.duties.proofs.signs.Goals as goal

pub returns : goal.returns
returns c = signs-is c.args.signers c.args.p c.mask_of.ensures
