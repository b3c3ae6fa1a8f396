use Rattle.std.proofs.Common.{arith, length-drop, take}
use Rattle.std.proofs.lemmas.List.{take_min}
use lib.Seq.{take_all}
use Rattle.places.proofs.Laws.{place_by}
use Rattle.places.proofs.place_of.Goals as goal

pub returns : goal.returns
returns c =
    let before = take c.min.result c.args.s.now in
    let start = c.line_start-start.result in
    place_by _ _ _ _ (rw c.min.ensures (take_min c.args.at c.args.s.now)) c.line_start-start.ensures.0 c.count.ensures.value (take_all _ _ (omega (arith, length-drop start before))) c.field_in.ensures
