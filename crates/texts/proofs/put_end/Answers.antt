use Rattle.texts.proofs.Texts.{wrote-end}
use Rattle.texts.proofs.put_end.Goals as goal

pub returns : goal.returns
returns c = wrote-end c.args.time c.args.live c.args.paid.now c.put_word-e.ensures c.put_fields-f.ensures.wrote c.put_fields-g.ensures.wrote c.put_byte.ensures
