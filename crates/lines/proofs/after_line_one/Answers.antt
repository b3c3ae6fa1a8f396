use Rattle.lines.proofs.Laws.{twice-last}
use Rattle.lines.proofs.Answer.{Counted, accepted-is, beyond-is, refused-is, all_known}
use Rattle.steps.proofs.Laws.{promised}
use native.Mathlib.Omega.{arith}
use Rattle.lines.proofs.after_line_one.Goals as goal

pub returns-in-Err-clause-met : goal.returns-in-Err-clause-met
returns-in-Err-clause-met c = refused-is _ _ _ _ _ _ _ _ _ _ (all_known _ _ _ _ _ _ _ (twice-last _ c.requires.le_k.0 c.mask_of.ensures) c.in-Err.ensures.met) (rw (c.definitions.ensures.same.0) at c.limited.ensures)

pub passing-requires : goal.passing-requires
passing-requires c = let d = promised c.in-Ok.ensures.met in rw c.definitions.ensures.same.0 (omega (arith, d.between.inside, c.if-e-gt-BYTES.true), omega arith)

pub returns-then-e-gt-BYTES-clause-met : goal.returns-then-e-gt-BYTES-clause-met
returns-then-e-gt-BYTES-clause-met c = beyond-is _ _ _ _ _ _ _ _ (all_known _ _ _ _ _ _ _ (twice-last _ c.requires.le_k.0 c.mask_of.ensures) c.in-Ok.ensures.met) c.if-e-gt-BYTES.true (rw (c.definitions.ensures.same.0) at c.passing.ensures)

pub returns-clause-met : goal.returns-clause-met
returns-clause-met c = let d : Counted _ _ _ _ = record { some-people = c.requires.le_k.0; few-people = c.requires.le_k.1; some-defs = c.requires.le_k.2; few-defs = c.requires.le_k.3; inside = c.requires.at_in_bounds.0 } in
    accepted-is _ _ _ _ _ _ _ d (all_known _ _ _ _ _ _ _ (twice-last _ c.requires.le_k.0 c.mask_of.ensures) c.in-Ok.ensures.met) c.if-e-gt-BYTES.false c.put_header.ensures
