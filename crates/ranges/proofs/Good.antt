-- The reading state: sound entries, of which few enough were read; and what a field or an entry more does to it. Assumes nothing.
use Prim.Native.Nat.{ℕ, suc, ◌+◌, ◌*◌, ◌≤◌, ◌<◌}
use mathlib.Core.Path.{◌≡◌, refl}
use mathlib.Core.List.{List, [], ◌∷◌, ◌++◌}
use native.Mathlib.Omega.{arith}
use lib.ListN.{length}
use Rattle.fields.specs.Field.{number_at, word_at, first_at, line_end_at}
use Rattle.fields.proofs.Laws.{number-max, number-end, word_end, word_on}
use Rattle.fields.proofs.Ranges.{first-end, line-end-next}
use Rattle.tables.specs.Entries.{NodeEntry, BranchEntry, DefEntry, most_nodes, most_branches}
use Rattle.tables.specs.State.{State, entries, with_node, with_branch, with_def, with_listed, with_cell}
use Rattle.steps.specs.Steps.{Outcome, to_place, go_on}
use Rattle.ranges.specs.Ranged.{NodeRange, BranchRange, DefRange}
use Rattle.steps.proofs.Ends.{Ends, ends-field}
use Rattle.ranges.proofs.Lists.{Begins, begins_self, begins_on, length_more}
use Rattle.ranges.proofs.Sound.{Sound, sound-node, sound-branch, sound-def, sound-listed, sound-cell}

-- There is room for m branches that are due. A branch lists up to 8 numbers and a definition up to 24, and what is at hand up to n so
-- far; a cell took two bytes. The definitions are ds, and the nodes began with ns
pub record Good (s : List ℕ) (K F : ℕ) (ds : List DefEntry) (ns : List NodeEntry) (m n : ℕ) (a : State) : Type 0 where
  pub sound : Sound K F (entries a)
  pub few-branches : length a.branches + m ≤ most_branches
  pub few-listed : length a.listed ≤ 8 * length a.branches + 24 * length a.defs + n
  pub paid : 2 * length a.cells ≤ a.at
  pub inside : a.at ≤ length s
  pub same-defs : a.defs ≡ ds
  pub kept : Begins ns a.nodes

module _ {s : List ℕ} {K F : ℕ} {ds : List DefEntry} {ns : List NodeEntry} {m n : ℕ} {a : State} (h : Good s K F ds ns m n a) where
  -- a later position
  goes : {e : ℕ} → a.at ≤ e → e ≤ length s → Good s K F ds ns m n (to_place a e)
  goes i j = record { sound = h.sound; few-branches = h.few-branches; few-listed = h.few-listed; paid = omega (arith, h.paid); inside = j; same-defs = h.same-defs; kept = h.kept }

  -- ---- a field

  module _ {P : State → Type 0} (k : ℕ → State → Outcome) where
    pub number_goes : (max : ℕ) → ((v e : ℕ) → v ≤ max → a.at + 2 ≤ e → Good s K F ds ns m n (to_place a e) → Ends P (k v (to_place a e)))
        → Ends P (go_on a (number_at s a.at max) k)
    number_goes max f = ends-field a _ k λ v e g.
        let q = number-end s a.at max v e g in
        f v e (number-max s a.at max v e g) q.0 (goes (omega (arith, q.0)) q.1)

    -- a word that has bytes takes two or more
    pub word_goes : ((w e : ℕ) → ((w ≡ 0 → ⊥) → a.at + 2 ≤ e) → Good s K F ds ns m n (to_place a e) → Ends P (k w (to_place a e))) → Ends P (go_on a (word_at s a.at) k)
    word_goes f = ends-field a _ k λ w e g.
        let q = word_end s a.at w e g in
        f w e (word_on s a.at w e g) (goes (omega (arith, q.0)) q.1)

    pub first_goes : ((w e : ℕ) → Good s K F ds ns m n (to_place a e) → Ends P (k w (to_place a e))) → Ends P (go_on a (first_at s a.at) k)
    first_goes f = ends-field a _ k λ w e g.
        let q = first-end s a.at w e g in
        f w e (goes q.0 q.1)

    pub line-end_goes : ((v e : ℕ) → Good s K F ds ns m n (to_place a e) → Ends P (k v (to_place a e))) → Ends P (go_on a (line_end_at s a.at) k)
    line-end_goes f = ends-field a _ k λ v e g.
        let q = line-end-next s a.at v e g in
        f v e (goes (omega (arith, q.0)) q.1)

  -- ---- an entry more

  -- the nodes with it are what nodes begin with from now on
  pub good_node : (e : NodeEntry) → length a.nodes < most_nodes → NodeRange (length a.defs) e → Good s K F ds (a.nodes ++ (e ∷ [])) m n (with_node e a)
  good_node e l r =
      record { sound = sound-node a h.sound e l r; few-branches = h.few-branches; few-listed = h.few-listed; paid = h.paid; inside = h.inside; same-defs = h.same-defs; kept = begins_self _ }

  -- the branch that was due
  pub good_branch : (e : BranchEntry) → m ≡ 1 → n ≤ 8 → BranchRange K F (entries a) e → Good s K F ds ns 0 0 (with_branch e a)
  good_branch e i j r =
      record {
        sound = sound-branch a h.sound e r;
        few-branches = rw length_more (omega (arith, h.few-branches));
        few-listed = rw length_more (omega (arith, h.few-listed));
        paid = h.paid;
        inside = h.inside;
        same-defs = h.same-defs;
        kept = h.kept;
      }

  pub good_def : (e : DefEntry) → n ≤ 24 → DefRange K a.listed e.first e.secrets → Good s K F (a.defs ++ (e ∷ [])) ns m 0 (with_def e a)
  good_def e i r =
      record {
        sound = sound-def a h.sound e r;
        few-branches = h.few-branches;
        few-listed = rw length_more (omega (arith, h.few-listed));
        paid = h.paid;
        inside = h.inside;
        same-defs = refl;
        kept = h.kept;
      }

  pub good_listed : (v : ℕ) → Good s K F ds ns m (suc n) (with_listed v a)
  good_listed v =
      record {
        sound = sound-listed a h.sound v;
        few-branches = h.few-branches;
        few-listed = rw length_more (omega (arith, h.few-listed));
        paid = h.paid;
        inside = h.inside;
        same-defs = h.same-defs;
        kept = h.kept;
      }

  pub good_cell : (v : ℕ) → v ≤ 1000000000 → 2 * suc (length a.cells) ≤ a.at → Good s K F ds ns m n (with_cell v a)
  good_cell v l p =
      record {
        sound = sound-cell a h.sound v l;
        few-branches = h.few-branches;
        few-listed = h.few-listed;
        paid = rw length_more p;
        inside = h.inside;
        same-defs = h.same-defs;
        kept = h.kept;
      }

  -- there is room for a branch, which is due now
  pub good_due : length a.branches < most_branches → Good s K F ds ns 1 n a
  good_due l = record { sound = h.sound; few-branches = omega arith; few-listed = h.few-listed; paid = h.paid; inside = h.inside; same-defs = h.same-defs; kept = h.kept }

  -- fewer nodes are remembered
  pub good_since : {ms : List NodeEntry} → Begins ms ns → Good s K F ds ms m n a
  good_since b =
      record { sound = h.sound; few-branches = h.few-branches; few-listed = h.few-listed; paid = h.paid; inside = h.inside; same-defs = h.same-defs; kept = begins_on b h.kept }
