use Rattle.buffer.proofs.Buffer.{past_cleared}
use Rattle.buffer.proofs.clear_past.Goals as goal

pub returns : goal.returns
returns c = let a = c.args in past_cleared a.u.now _ a.n c.requires c.clear.ensures
