use Rattle.writer.proofs.Putting.{say_puts}
use Rattle.writer.proofs.put_letters.Goals as goal

pub returns : goal.returns
returns c = say_puts c.requires.room.small c.put_word-e.ensures c.stand.ensures
