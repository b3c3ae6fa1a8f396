use Rattle.ledger.proofs.Handing.{hands}
use Rattle.ledger.proofs.Ledger.fire.Goals as goal

pub returns : goal.returns
returns c = hands c.args.index.table.cells.now c.args.self _ c.fire-counts.result c.fire-counts.new.cells c.requires c.fire-counts.ensures c.fire-counts.auto.cells
