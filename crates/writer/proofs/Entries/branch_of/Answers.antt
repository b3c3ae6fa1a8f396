use Prim.Native.Nat.{ℕ}
use lib.ListN.{get_or}
use mathlib.Core.Path.{refl, ◌∙◌}
use Rattle.tables.specs.Entries.{BranchEntry, held, branch_in}
use Rattle.writer.proofs.Numbers.{entry_number}
use Rattle.writer.proofs.Entries.branch_of.Goals as goal

pub returns : goal.returns
unfolding held
returns c = let t = c.args.self.cells.now in
    let entry = λ (g : BranchEntry → ℕ). entry_number g (branch_in t) (get_or t 3 0) c.args.i (record { node = 0; signers = 0; opens = 0; kind = 0; arg = 0; first = 0; count = 0; cond = 0 }) in (
      c.number.ensures ∙ entry (λ e. e.signers) refl,
      c.number-2.ensures ∙ entry (λ e. e.opens) refl,
      c.number-3.ensures ∙ entry (λ e. e.kind) refl,
      c.number-4.ensures ∙ entry (λ e. e.arg) refl,
      c.number-5.ensures ∙ entry (λ e. e.count) refl,
    )
