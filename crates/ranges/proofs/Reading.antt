-- An accepted sheet has all its entries within their ranges. Assumes nothing.
use Prim.Native.Nat.{ℕ, ◌*◌, ◌≤◌}
use mathlib.Core.Path.{◌≡◌, refl, sym, subst}
use mathlib.Core.List.{List, []}
use native.Mathlib.Omega.{arith}
use lib.ListN.{length}
use Rattle.bitml.specs.Lists.{nil}
use Rattle.tables.specs.Entries.{Entries}
use Rattle.tables.specs.State.{State, entries}
use Rattle.tables.specs.SheetOf.{branch_entry_at}
use Rattle.lines.specs.Definition.{blank}
use Rattle.lines.specs.Sheet.{accepted, read_sheet}
use Rattle.lines.proofs.Answer.{Counted}
use Rattle.ranges.specs.Ranged.{BranchRange, Ranged}
use Rattle.ranges.proofs.Lists.{begins_self, all-entry}
use Rattle.ranges.proofs.Lines.{Defines, define_good}
use Rattle.ranges.proofs.Accepted.{AcceptedEnds}

-- no entries yet
blank_good : (s : List ℕ) (K F p : ℕ) → p ≤ length s → Defines s K F 0 (blank p)
blank_good s K F p h =
    record {
      state = record {
        sound = record { few-nodes = omega arith; nodes = nil; branches = nil; defs = nil; cells = nil };
        few-branches = omega arith;
        few-listed = omega arith;
        paid = omega arith;
        inside = h;
        same-defs = refl;
        kept = begins_self [];
      };
      count = refl;
    }

-- all F definitions
all_ranged : (s : List ℕ) (K F p : ℕ) → Counted s K F p → (a : State) → Defines s K F F a → (a.at ≤ length s → a.at ≤ 32768) → Ranged K (entries a)
all_ranged s K F p c a r h =
    let g = r.state in
    record {
      limits = record {
        people = (c.some-people, c.few-people);
        defs = (omega (arith, r.count, c.some-defs), omega (arith, r.count, c.few-defs));
        nodes = g.sound.few-nodes;
        branches = omega (arith, g.few-branches);
        listed = omega (arith, g.few-listed, g.few-branches, r.count, c.few-defs);
        cells = omega (arith, g.paid, h g.inside);
      };
      node = all-entry _ _ g.sound.nodes;
      branch = λ b l. subst (λ f. BranchRange K f (entries a) (branch_entry_at (entries a) b)) (sym r.count) (all-entry _ _ g.sound.branches b l);
      def = all-entry _ _ g.sound.defs;
      cell = all-entry _ _ g.sound.cells;
    }

-- of an accepted sheet: its entries are within their ranges, each cell took two bytes, and it ends within its text and within the limit
record Read (s : List ℕ) (K at : ℕ) (E : Entries) : Type 0 where
  ranged : Ranged K E
  paid : 2 * length E.cells ≤ at
  inside : at ≤ length s
  short : at ≤ 32768

sheet-read : (s : List ℕ) (K at : ℕ) (E : Entries) → read_sheet s ≡ accepted K at E → Read s K at E
sheet-read s =
    AcceptedEnds s (Defines s) (Read s)
    (λ k n p c. blank_good s k n p c.inside)
    (λ k n p i c l. define_good s k n c.few-people i)
    (λ k n p c a r h. record { ranged = all_ranged s k n p c a r h; paid = r.state.paid; inside = r.state.inside; short = h r.state.inside })

-- the theorem: what is accepted is within its ranges
pub sheet_ranged : (s : List ℕ) (K at : ℕ) (E : Entries) → read_sheet s ≡ accepted K at E → Ranged K E
sheet_ranged s K at E e = (sheet-read s K at E e).ranged

-- and ends within its text, of whose bytes it has 32,768 at the most
pub sheet-inside : (s : List ℕ) (K at : ℕ) (E : Entries) → read_sheet s ≡ accepted K at E → (at ≤ length s) × (at ≤ 32768)
sheet-inside s K at E e = let r = sheet-read s K at E e in (r.inside, r.short)

-- two of them for each cell
pub sheet-paid : (s : List ℕ) (K at : ℕ) (E : Entries) → read_sheet s ≡ accepted K at E → 2 * length E.cells ≤ length s
sheet-paid s K at E e = let r = sheet-read s K at E e in omega (arith, r.paid, r.inside)
