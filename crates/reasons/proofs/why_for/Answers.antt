use mathlib.Core.Path.{refl, sym, ◌∙◌}
use Rattle.reached.proofs.Queue.{no_marks}
use Rattle.replies.proofs.Giving.{gives_as, gives_long}
use Rattle.exits.proofs.Told.{told-frozen}
use Rattle.reasons.proofs.Reasons.{wrote-liquid, why_gives, frozen_gives}
use borrow.Author.Rules.{rules}
use Rattle.reasons.proofs.why_for.Goals as goal

pub reach-requires : goal.reach-requires
reach-requires c = record { marks_len = no_marks }

pub put_reason-requires-clause-p_value : goal.put_reason-requires-clause-p_value
put_reason-requires-clause-p_value c = told-frozen _ _ (sym c.in-Frozen.is ∙ c.make.ensures.value)

pub returns-in-Liquid : goal.returns-in-Liquid
returns-in-Liquid c =
    let t = c.index-index.result.table in
    let w = wrote-liquid t.cells.now t.ready _ _ (sym c.in-Liquid.is ∙ c.make.ensures.value) c.put_liquid.ensures in
    rw (← c.index-index.ensures.table) (gives_as c.answered.ensures (gives_long (why_gives _ _ _ _ _ _ _ _ c.clear.ensures c.clear-in-Liquid.ensures w) (search rules) refl))

pub returns-in-Frozen : goal.returns-in-Frozen
returns-in-Frozen c =
    let e = told-frozen _ _ (sym c.in-Frozen.is ∙ c.make.ensures.value) in
    rw (← c.index-index.ensures.table) (gives_as c.answered-in-Frozen.ensures (frozen_gives _ _ _ _ _ _ _ _ c.clear.ensures _ e c.make.ensures.rows_after c.put_reason.ensures))
