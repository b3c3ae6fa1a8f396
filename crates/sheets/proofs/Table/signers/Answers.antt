use mathlib.Core.Path.{sym, ap, ◌∙◌}
use lib.ListN.{get_or}
use native.Mathlib.Omega.{arith}
use Rattle.tables.proofs.Held.{branch_held}
use Rattle.sheets.proofs.Table.signers.Goals as goal

pub returns : goal.returns
returns c =
    let t = c.args.self.cells.now in
    let b = c.args.b in
    ap (λ i. get_or t i 0) (omega arith) ∙ ap (λ e. e.signers) (sym (branch_held t b c.requires.b_in_bounds))
