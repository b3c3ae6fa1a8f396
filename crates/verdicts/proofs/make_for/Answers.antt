use Rattle.reached.proofs.Queue.{no_marks}
use Rattle.replies.proofs.Giving.{gives_as}
use Rattle.exits.proofs.Told.{root-first}
use Rattle.verdicts.proofs.Verdicts.{make_gives}
use Rattle.verdicts.proofs.make_for.Goals as goal

pub reach-requires : goal.reach-requires
reach-requires c = record { marks_len = no_marks }

pub returns : goal.returns
returns c =
    let v = c.verdict_for.ensures in
    rw (← c.index-index.ensures.table) (gives_as c.answered.ensures (make_gives _ _ (root-first _ c.index-index.result.table.ready) _ _ _ _ c.clear.ensures _ _ v.rows_after v.wrote))
