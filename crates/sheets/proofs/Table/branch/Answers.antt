use mathlib.Core.Path.{◌≡◌, sym, ap, ◌∙◌}
use Prim.Native.Nat.{ℕ, ◌+◌, ◌*◌}
use mathlib.Core.List.{List}
use lib.ListN.{get_or}
use native.Mathlib.Omega.{arith}
use Rattle.tables.proofs.Held.{branch_held}
use Rattle.sheets.proofs.Table.branch.Goals as goal

-- number k of the entry of branch b
at : (t : List ℕ) (b k : ℕ) → get_or t (2056 + 8 * b + k) 0 ≡ get_or t (2056 + k + 8 * b) 0
at t b k = ap (λ i. get_or t i 0) (omega arith)

pub of-requires : goal.of-requires
of-requires c =
    let t = c.args.self.cells.now in
    let b = c.args.b in
    omega (arith, at t b 3, ap (λ e. e.kind) (branch_held t b c.requires.b_in_bounds), (c.args.self.ready.promises.branch b c.requires.b_in_bounds).kind)

pub returns : goal.returns
returns c =
    let t = c.args.self.cells.now in
    let b = c.args.b in
    let e = sym (branch_held t b c.requires.b_in_bounds) in
    record {
      node = ap (λ e. e.node) e;
      signers = at t b 1 ∙ ap (λ e. e.signers) e;
      opens = at t b 2 ∙ ap (λ e. e.opens) e;
      kind = c.of.ensures ∙ at t b 3 ∙ ap (λ e. e.kind) e;
      arg = at t b 4 ∙ ap (λ e. e.arg) e;
      first = at t b 5 ∙ ap (λ e. e.first) e;
      count = at t b 6 ∙ ap (λ e. e.count) e;
      cond = at t b 7 ∙ ap (λ e. e.cond) e;
    }
