use mathlib.Core.Path.{◌≡◌, sym, ap, ◌∙◌}
use Prim.Native.Nat.{ℕ, ◌+◌, ◌*◌}
use lib.ListN.{get_or}
use native.Mathlib.Omega.{arith}
use Rattle.tables.proofs.Held.{node-held}
use Rattle.sheets.proofs.Table.node.Goals as goal

pub returns : goal.returns
returns c =
    let t = c.args.self.cells.now in
    let n = c.args.n in
    let e = sym (node-held t n c.requires.n_in_bounds) in
    let at : (k : ℕ) → get_or t (8 + 4 * n + k) 0 ≡ get_or t (8 + k + 4 * n) 0 = λ k. ap (λ i. get_or t i 0) (omega arith) in
    record {
      definition = ap (λ e. e.definition) e;
      parent = at 1 ∙ ap (λ e. e.parent) e;
      weight = at 2 ∙ ap (λ e. e.weight) e;
      count = at 3 ∙ ap (λ e. e.count) e ∙ (c.args.self.ready.promises.node _ c.requires.n_in_bounds).count;
    }
