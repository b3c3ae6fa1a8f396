-- What is promised of rows. Assumes nothing.
use Prim.Native.Nat.{ℕ, ◌<◌}
use mathlib.Core.Path.{ap}
use native.Mathlib.Omega.{arith}
use mathlib.Core.List.{List}
use Rattle.tables.specs.Entries.{held}
use Rattle.tables.specs.SheetOf.{branch_count}
use Rattle.tables.proofs.Held.{node-held}
use Rattle.buffer.specs.Buffer.{row_in}
use Rattle.sheets.specs.Ready.{Ready}
use Rattle.order.specs.Nodes.{RowsSmall}
use Rattle.rows.specs.Given.{RowsFit}

module _ (t u : List ℕ) (n : ℕ) (ok : Ready t) (fit : RowsFit t u n) where
  pub rows-small : RowsSmall u n
  rows-small = record {
    few = fit.few;
    long = fit.long;
    node = λ i h. omega (arith, (fit.each i h).has-node, ok.promises.limits.nodes);
    some = λ i h. omega (arith, (fit.each i h).has-rank);
    most = λ i h. (fit.each i h).rank_most;
  }

  pub row-branch : (i : ℕ) → i < n → (row_in u i).branch < branch_count (held t) (row_in u i).node
  row-branch i h =
      let f = fit.each i h in
      omega (arith, f.has-branch, ap (λ e. e.count) (node-held t (row_in u i).node f.has-node), (ok.promises.node (row_in u i).node f.has-node).count)
