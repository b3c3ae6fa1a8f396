use Rattle.ledger.proofs.Handing.{hands}
use Rattle.ledger.proofs.Ledger.tell.Goals as goal

pub returns : goal.returns
returns c = hands c.args.table.cells.now c.args.self _ c.tell-counts.result c.tell-counts.new.cells c.requires c.tell-counts.ensures c.tell-counts.auto.cells
