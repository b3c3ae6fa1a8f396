use Rattle.plays.proofs.Stepping.{wrote-end_of}
use Rattle.plays.proofs.end.Goals as goal

pub returns : goal.returns
returns c = let p = c.requires in wrote-end_of c.args.table.cells.now c.args.l c.args.cells.now c.args.table.ready p.at_in_bounds.1 _ _ c.people.ensures c.live.ensures c.put_end.ensures
