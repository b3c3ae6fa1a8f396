use Rattle.ledger.proofs.Handing.{hands}
use Rattle.ledger.proofs.Ledger.sign.Goals as goal

pub returns : goal.returns
returns c = hands c.args.index.table.cells.now c.args.self _ c.sign-counts.result c.sign-counts.new.cells c.requires.0 c.sign-counts.ensures c.sign-counts.auto.cells
