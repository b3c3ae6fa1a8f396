use mathlib.Core.Path.{refl, sym, ap, ◌∙◌}
use Prim.Native.Nat.{◌*◌}
use Rattle.bitml.specs.Answers.{places_of_one}
use Rattle.buffer.proofs.Buffer.{rows-length}
use Rattle.reached.proofs.Queue.{no_marks}
use Rattle.replies.proofs.Giving.{gives_as}
use Rattle.tables.specs.Entries.{people}
use Rattle.tables.specs.SheetOf.{sheet_of}
use Rattle.verdicts.proofs.Verdicts.{made-few}
use Rattle.verdicts.proofs.Parties.{all_gives}
use Rattle.verdicts.proofs.make_all_for.Goals as goal

pub reach-requires : goal.reach-requires
reach-requires c = record { marks_len = no_marks }

pub returns : goal.returns
unfolding sheet_of
returns c =
    let v = c.verdicts_for.ensures in
    let k = c.people-people.ensures ∙ ap people (sym c.index-index.ensures.table) in
    rw (← c.index-index.ensures.table)
    (gives_as c.answered.ensures (all_gives _ (made-few _ _ c.index-index.result.table.ready.promises) _ _ _ _ _ _ _ _ _ refl (rows-length (places_of_one * c.people-people.result) c.args.rows.now ∙ ap (λ i. places_of_one * i) k) c.clear_past.ensures v.rows_after c.clear.ensures v.wrote))
