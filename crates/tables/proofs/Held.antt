-- The entries of a table that was read whole, looked up where they stand. Assumes nothing.
use mathlib.Core.Path.{◌≡◌, sym, ◌∙◌, subst}
use Prim.Native.Nat.{ℕ, ◌+◌, ◌≤◌, ◌<◌}
use native.Mathlib.Omega.{arith}
use mathlib.Core.List.{List}
use lib.ListN.{length, get_or, take, drop, length-drop}
use lib.Seq.{ext_get_or, length-take-le, get_or-take, get_or-drop}
use Rattle.tables.specs.Entries.{node_in, branch_in, def_in, listed_in, cell_in, held, cells_from}
use Rattle.tables.specs.SheetOf.{node_entry_at, branch_entry_at, def_entry_at, listed_at, cell_at}
use Rattle.tables.proofs.Runs.{first_of-length, first_of_get_d}

module _ (t : List ℕ) where
  pub held-nodes : length (held t).nodes ≡ get_or t 2 0
  unfolding held
  held-nodes = first_of-length (node_in t) (get_or t 2 0)

  pub held-branches : length (held t).branches ≡ get_or t 3 0
  unfolding held
  held-branches = first_of-length (branch_in t) (get_or t 3 0)

  pub held-defs : length (held t).defs ≡ get_or t 1 0
  unfolding held
  held-defs = first_of-length (def_in t) (get_or t 1 0)

  pub held-cells : length (held t).cells ≡ get_or t 5 0
  unfolding held
  held-cells = first_of-length (cell_in t) (get_or t 5 0)

  pub node-held : (n : ℕ) → n < length (held t).nodes → node_entry_at (held t) n ≡ node_in t n
  unfolding held
  node-held n h = first_of_get_d (node_in t) (get_or t 2 0) n _ (subst (λ k. n < k) (first_of-length (node_in t) (get_or t 2 0)) h)

  pub branch_held : (b : ℕ) → b < length (held t).branches → branch_entry_at (held t) b ≡ branch_in t b
  unfolding held
  branch_held b h = first_of_get_d (branch_in t) (get_or t 3 0) b _ (subst (λ k. b < k) (first_of-length (branch_in t) (get_or t 3 0)) h)

  pub def-held : (d : ℕ) → d < length (held t).defs → def_entry_at (held t) d ≡ def_in t d
  unfolding held
  def-held d h = first_of_get_d (def_in t) (get_or t 1 0) d _ (subst (λ k. d < k) (first_of-length (def_in t) (get_or t 1 0)) h)

  pub listed-held : (i : ℕ) → i < length (held t).listed → listed_at (held t) i ≡ listed_in t i
  unfolding held
  listed-held i h = first_of_get_d (listed_in t) (get_or t 4 0) i 0 (subst (λ k. i < k) (first_of-length (listed_in t) (get_or t 4 0)) h)

  pub cell-held : (i : ℕ) → i < length (held t).cells → cell_at (held t) i ≡ cell_in t i
  unfolding held
  cell-held i h = first_of_get_d (cell_in t) (get_or t 5 0) i 0 (subst (λ k. i < k) (first_of-length (cell_in t) (get_or t 5 0)) h)

  -- the cells of conditions are a part of the table
  pub cells_part : cells_from + length (held t).cells ≤ length t → (held t).cells ≡ take (length (held t).cells) (drop cells_from t)
  cells_part h =
      let long : length (held t).cells ≤ length (drop cells_from t) = rw length-drop (omega arith) in
      ext_get_or 0 (held t).cells (take (length (held t).cells) (drop cells_from t)) (sym (length-take-le _ _ long))
      (λ i l. cell-held i l ∙ sym (get_or-take (length (held t).cells) (drop cells_from t) i 0 l ∙ get_or-drop cells_from t i 0))
