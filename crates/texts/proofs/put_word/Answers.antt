use Rattle.std.proofs.Common.{arith}
use Rattle.texts.proofs.Writing.{wrote_part}
use Rattle.texts.proofs.put_word.Goals as goal

pub returns : goal.returns
returns c = wrote_part _ _ _ _ _ c.requires (omega arith) c.copy_from_slice.ensures.after
