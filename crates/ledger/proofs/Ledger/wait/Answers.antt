use Rattle.ledger.proofs.Handing.{hands}
use Rattle.ledger.proofs.Ledger.wait.Goals as goal

pub returns : goal.returns
returns c = hands c.args.table.cells.now c.args.self _ c.wait-counts.result c.wait-counts.new.cells c.requires.0 c.wait-counts.ensures c.wait-counts.auto.cells
