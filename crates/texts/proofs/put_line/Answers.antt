use Rattle.texts.proofs.Texts.{wrote-line}
use Rattle.texts.proofs.put_line.Goals as goal

pub returns : goal.returns
returns c = wrote-line c.args.numbers.now c.put_word-e.ensures c.put_fields-f.ensures.wrote c.put_byte.ensures
