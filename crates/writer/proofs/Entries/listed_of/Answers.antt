use Prim.Native.Nat.{ℕ, ◌*◌}
use lib.ListN.{get_or}
use mathlib.Core.Path.{◌≡◌, refl, ◌∙◌}
use native.Mathlib.Omega.{arith}
use Rattle.tables.specs.Entries.{held, listed_in}
use Rattle.writer.proofs.Numbers.{entry_number}
use Rattle.writer.proofs.Entries.listed_of.Goals as goal

pub returns : goal.returns
unfolding held
returns c = let t = c.args.self.cells.now in
    let i = c.args.i in
    let e : 1 * i ≡ i = omega arith in
    rw e at c.number.ensures ∙ entry_number (λ (k : ℕ). k) (listed_in t) (get_or t 4 0) i 0 refl
