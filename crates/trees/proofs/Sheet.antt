-- A sheet that is read is the listing of a tree for each definition. Assumes nothing.
use Prim.Native.Nat.{ℕ, zero, suc, ◌+◌, ◌≤◌}
use mathlib.Core.Path.{◌≡◌, refl, ap, sym, ◌∙◌, subst}
use mathlib.Core.List.{List, [], ◌∷◌}
use lib.ListN.{length}
use native.Mathlib.Omega.{arith}
use Rattle.tables.specs.Entries.{Entries, most_branches}
use Rattle.tables.specs.State.{State, entries, with_listed, with_def, def_entry}
use Rattle.steps.specs.Steps.{Outcome, next, bad, to_place, times}
use Rattle.contracts.specs.declared.Limits.{Limits}
use Rattle.lines.specs.LineOne.{LineOne}
use Rattle.lines.specs.LineOne.{Counts, Bad}
use Rattle.lines.specs.LineOne.{line_one_at}
use Rattle.lines.specs.Definition.{within, deposits_at, owner_at, root_at, owned_at, define_at, blank}
use Rattle.lines.specs.Sheet.{beyond, limited, SheetRead, accepted, refused as turned, accept, sizes, sheet_from, read_sheet}
use Rattle.reading.specs.Promises.{no_parent}
use Rattle.trees.specs.Tree.{Weighed}
use Rattle.trees.specs.Listing.{Listing, listing_of, add_def, write_contract, DefTree, define, define_all, nothing}
use Rattle.steps.proofs.Ends.{Ends, good, refused, ends-map, ends_go, ends-either, ends_then}
use Rattle.trees.proofs.Reading.{listing, Like, Few, reads_tree}

-- no weights add to 0
pub data Grown : List DefTree → Type 0 where
  none : Grown []
  more : {t : DefTree} {ts : List DefTree} → Weighed t.contract → Grown ts → Grown (t ∷ ts)

-- what a lists is l and then a definition
record Defines (l : Listing) (a : State) : Type 0 where
  few : Few a
  tree : DefTree
  weighed : Weighed tree.contract
  same : listing a ≡ define tree l

-- what E lists is l and then definitions
pub record Forest (l : Listing) (E : Entries) : Type 0 where
  pub few : length E.branches ≤ most_branches
  pub trees : List DefTree
  pub grown : Grown trees
  pub same : listing_of E ≡ define_all trees l

module _ (s : List ℕ) where
  module _ (l : Listing) where
    deposits-same : (sum n : ℕ) (a : State) → Like l a → Ends (Like l) (deposits_at s sum n a)
    unfolding deposits_at
    deposits-same sum zero a h = good h
    deposits-same sum (suc n) a h = ends_go _ _ _ λ v e. ends-either _ _ _ refused (deposits-same (sum + v) n (with_listed v (to_place a e)) h)

    owners-same : (people n : ℕ) (a : State) → Like l a → Ends (Like l) (times n (owner_at s people) a)
    unfolding times owner_at
    owners-same people zero a h = good h
    owners-same people (suc n) a h = ends_then _ _ (ends_go _ _ _ λ v e. ends-either _ _ _ (good h) refused) (owners-same people n)

    module _ (z : Limits) (few : length l.branches ≤ most_branches) where
      root_reads : (first n : ℕ) (a : State) → Like l a → Ends (Defines l) (root_at s z first n a)
      unfolding root_at define
      root_reads first n a h =
          let f : Few a = subst (λ (y : Listing). length y.branches ≤ most_branches) (sym h) few in
          ends_then _ _ (reads_tree s (within z n (length a.defs)) 32 no_parent 0 (with_def (def_entry (length a.nodes) first n) a) f) λ a₁ r.
          ends_go _ _ _ λ v e.
          good
          (record {
            few = r.few;
            tree = record { first = first; secrets = n; contract = r.tree };
            weighed = r.weighed;
            same = r.same ∙ ap (λ (y : Listing). write_contract (length y.defs) no_parent 0 r.tree (add_def (def_entry (length y.nodes) first n) y)) h;
          })

      define_reads : (a : State) → Like l a → Ends (Defines l) (define_at s z a)
      unfolding define_at owned_at
      define_reads a h =
          ends_go _ _ _ λ w e. ends-either _ _ _
          (ends_then _ _ (deposits-same 0 z.people (to_place a e) h) λ a₁ i.
          ends_go _ _ _ λ n f. ends_then _ _ (owners-same z.people n (to_place a₁ f) i) (root_reads _ n))
          refused

  all_reads : (z : Limits) (n : ℕ) (l : Listing) (a : State) → length l.branches ≤ most_branches → Like l a → Ends (λ a'. Forest l (entries a')) (times n (define_at s z) a)
  unfolding times define_all
  all_reads z zero l a f h = good (record { few = subst (λ (y : Listing). length y.branches ≤ most_branches) (sym h) f; trees = []; grown = none; same = h })
  all_reads z (suc n) l a f h =
      ends_then _ _ (define_reads l z f a h) λ a₁ r.
      let f₁ : length (define r.tree l).branches ≤ most_branches = subst (λ (y : Listing). length y.branches ≤ most_branches) r.same r.few in
      ends-map (all_reads z n (define r.tree l) a₁ f₁ r.same) λ a₂ q.
      record { few = q.few; trees = r.tree ∷ q.trees; grown = more r.weighed q.grown; same = q.same }

  -- the limit on bytes only refuses
  limited-ends : {P : State → Type 0} (w : Outcome) → Ends P w → Ends P (limited s w)
  unfolding limited beyond
  limited-ends (next a) h = ends-either _ _ _ h (ends-either _ _ _ h refused)
  limited-ends (bad n p) h = ends-either _ _ _ h (ends-either _ _ _ h (ends-either _ _ _ refused (ends-either _ _ _ h refused)))

-- what holds of entries that are accepted
unfoldable OnAccepted : (Entries → Type 0) → SheetRead → Type 0
OnAccepted P (accepted k at E) = P E
OnAccepted P (turned n p) = Unit {0}

accept-ends : (P : Entries → Type 0) (k : ℕ) (r : Outcome) → Ends (λ a. P (entries a)) r → OnAccepted P (accept k r)
unfolding OnAccepted accept
accept-ends P k r (good h) = h
accept-ends P k r refused = tt

sheet-ends : (s : List ℕ) (o : LineOne) → OnAccepted (Forest nothing) (sheet_from s o)
unfolding sheet_from
sheet-ends s (Counts k n p) = accept-ends _ k _ (limited-ends s _ (all_reads s (sizes k n) n nothing (blank p) (omega arith) refl))
sheet-ends s (Bad n p) = accept-ends _ 0 _ (limited-ends s _ refused)

-- a sheet that is read lists a tree for each definition
pub sheet_trees : (s : List ℕ) (K at : ℕ) (E : Entries) → read_sheet s ≡ accepted K at E → Forest nothing E
unfolding read_sheet OnAccepted
sheet_trees s K at E e = subst (OnAccepted (Forest nothing)) e (sheet-ends s (line_one_at s))
