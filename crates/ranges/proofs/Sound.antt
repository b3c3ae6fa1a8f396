-- Entries that are each within their ranges: they stay so as the lists grow, and an entry more in each list keeps it. Assumes nothing.
use Prim.Native.Nat.{ℕ, ◌≤◌, ◌<◌}
use mathlib.Core.Path.{◌≡◌, ap, ◌∙◌}
use native.Mathlib.Omega.{arith}
use lib.ListN.{length}
use Rattle.bitml.specs.Lists.{All, nil, cons}
use Rattle.bitml.proofs.Lists.{all_append, all_imp}
use Rattle.tables.specs.Entries.{NodeEntry, BranchEntry, DefEntry, Entries, most_nodes}
use Rattle.tables.specs.State.{State, entries, with_node, with_branch, with_def, with_listed, with_cell}
use Rattle.tables.specs.SheetOf.{def_entry_at}
use Rattle.ranges.specs.Ranged.{NodeRange, BranchRange, DefRange, secrets_at}
use Rattle.ranges.proofs.Lists.{Begins, begins_self, begins_more, begins_length, begins_at, length_more, all-entry, below_grown, def_grown}

pub record Sound (K F : ℕ) (E : Entries) : Type 0 where
  pub few-nodes : length E.nodes ≤ most_nodes
  pub nodes : All (NodeRange (length E.defs)) E.nodes
  pub branches : All (BranchRange K F E) E.branches
  pub defs : All (λ (e : DefEntry). DefRange K E.listed e.first e.secrets) E.defs
  pub cells : All (λ v. v ≤ 1000000000) E.cells

-- ---- what a branch points to stays

record Grown (E E' : Entries) : Type 0 where
  nodes : Begins E.nodes E'.nodes
  defs : Begins E.defs E'.defs
  listed : Begins E.listed E'.listed
  cells : Begins E.cells E'.cells

node_stays : {c d : ℕ} → c ≤ d → (e : NodeEntry) → NodeRange c e → NodeRange d e
node_stays h e r = record { definition = omega (arith, r.definition); weight = r.weight; count = r.count }

module _ {E E' : Entries} (h : All (NodeRange (length E.defs)) E.nodes) (g : Grown E E') where
  secrets_stay : (n : ℕ) → n < length E.nodes → secrets_at E' n ≡ secrets_at E n
  secrets_stay n l =
      let node = begins_at g.nodes n (record { definition = 0; parent = 0; weight = 0; count = 0 }) l in
      let here = (all-entry _ (record { definition = 0; parent = 0; weight = 0; count = 0 }) h n l).definition in
      ap (λ (x : NodeEntry). (def_entry_at E' x.definition).secrets) node ∙ ap (λ (x : DefEntry). x.secrets) (begins_at g.defs _ (record { root = 0; first = 0; secrets = 0 }) here)

  branch_stays : {K F : ℕ} (e : BranchEntry) → BranchRange K F E e → BranchRange K F E' e
  branch_stays e b =
      record {
        node = omega (arith, b.node, begins_length g.nodes);
        signers = b.signers;
        opens = b.opens;
        kind = b.kind;
        withdraw = b.withdraw;
        split = b.split;
        reveal = λ z.
            let r = b.reveal z in
            record {
              some = r.some;
              few = r.few;
              secrets = rw (secrets_stay e.node b.node) (below_grown g.listed r.secrets);
              cond = omega (arith, r.cond, begins_length g.cells);
            };
        renew = b.renew;
      }

-- ---- an entry more

module _ {K F : ℕ} (a : State) (h : Sound K F (entries a)) where
  pub sound-node : (e : NodeEntry) → length a.nodes < most_nodes → NodeRange (length a.defs) e → Sound K F (entries (with_node e a))
  sound-node e l r =
      let g : Grown (entries a) (entries (with_node e a)) = record { nodes = begins_more _ e; defs = begins_self _; listed = begins_self _; cells = begins_self _ } in
      record {
        few-nodes = rw length_more l;
        nodes = all_append h.nodes (cons r nil);
        branches = all_imp (branch_stays h.nodes g) h.branches;
        defs = h.defs;
        cells = h.cells;
      }

  pub sound-branch : (e : BranchEntry) → BranchRange K F (entries a) e → Sound K F (entries (with_branch e a))
  sound-branch e r =
      let g : Grown (entries a) (entries (with_branch e a)) = record { nodes = begins_self _; defs = begins_self _; listed = begins_self _; cells = begins_self _ } in
      record {
        few-nodes = h.few-nodes;
        nodes = h.nodes;
        branches = all_imp (branch_stays h.nodes g) (all_append h.branches (cons r nil));
        defs = h.defs;
        cells = h.cells;
      }

  pub sound-def : (e : DefEntry) → DefRange K a.listed e.first e.secrets → Sound K F (entries (with_def e a))
  sound-def e r =
      let g : Grown (entries a) (entries (with_def e a)) = record { nodes = begins_self _; defs = begins_more _ e; listed = begins_self _; cells = begins_self _ } in
      record {
        few-nodes = h.few-nodes;
        nodes = all_imp (node_stays (begins_length g.defs)) h.nodes;
        branches = all_imp (branch_stays h.nodes g) h.branches;
        defs = all_append h.defs (cons r nil);
        cells = h.cells;
      }

  pub sound-listed : (v : ℕ) → Sound K F (entries (with_listed v a))
  sound-listed v =
      let g : Grown (entries a) (entries (with_listed v a)) = record { nodes = begins_self _; defs = begins_self _; listed = begins_more _ v; cells = begins_self _ } in
      record {
        few-nodes = h.few-nodes;
        nodes = h.nodes;
        branches = all_imp (branch_stays h.nodes g) h.branches;
        defs = all_imp (λ e r. def_grown g.listed r) h.defs;
        cells = h.cells;
      }

  pub sound-cell : (v : ℕ) → v ≤ 1000000000 → Sound K F (entries (with_cell v a))
  sound-cell v l =
      let g : Grown (entries a) (entries (with_cell v a)) = record { nodes = begins_self _; defs = begins_self _; listed = begins_self _; cells = begins_more _ v } in
      record {
        few-nodes = h.few-nodes;
        nodes = h.nodes;
        branches = all_imp (branch_stays h.nodes g) h.branches;
        defs = h.defs;
        cells = all_append h.cells (cons l nil);
      }
