use mathlib.Core.Path.{◌≡◌, sym, ap, ◌∙◌}
use Prim.Native.Nat.{ℕ, ◌+◌, ◌*◌}
use lib.ListN.{get_or}
use native.Mathlib.Omega.{arith}
use Rattle.tables.proofs.Held.{def-held}
use Rattle.sheets.proofs.Table.definition.Goals as goal

pub returns : goal.returns
returns c =
    let t = c.args.self.cells.now in
    let d = c.args.d in
    let e = sym (def-held t d c.requires.d_in_bounds) in
    let at : (k : ℕ) → get_or t (10248 + 3 * d + k) 0 ≡ get_or t (10248 + k + 3 * d) 0 = λ k. ap (λ i. get_or t i 0) (omega arith) in
    record { root = ap (λ e. e.root) e; first = at 1 ∙ ap (λ e. e.first) e; secrets = at 2 ∙ ap (λ e. e.secrets) e }
