use Rattle.std.proofs.Common.{◌≡◌, ◌∙◌, sym, true, arith}
use Rattle.std.proofs.lemmas.Grind.{common_steps}
use Rattle.bitml.specs.Lists.{◌&◌}
use Rattle.saving.proofs.Comparing.{header_no, cells-inside, sections_same}
use Rattle.saving.proofs.same_sheet.Goals as goal

pub same_cells-requires-then-same_cells-5 : goal.same_cells-requires-then-same_cells-5
same_cells-requires-then-same_cells-5 c = let h : c.same_cells.result ≡ true = grind (arith, common_steps) in
    (omega (arith, cells-inside _ _ (sym c.same_cells.ensures ∙ h) c.requires.u_in_bounds), omega arith)

pub returns-then-same_cells-5 : goal.returns-then-same_cells-5
unfolding ◌&◌
returns-then-same_cells-5 c = grind (arith, common_steps, sections_same c.args.u.now c.args.t.now, header_no c.args.u.now c.args.t.now)

pub returns-else-same_cells-5 : goal.returns-else-same_cells-5
unfolding ◌&◌
returns-else-same_cells-5 c = grind (arith, common_steps, sections_same c.args.u.now c.args.t.now, header_no c.args.u.now c.args.t.now)
