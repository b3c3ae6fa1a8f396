-- An index finds the entries that belong together; making one. Assumes nothing.
use mathlib.Core.Path.{◌≡◌, refl, sym, ap, ap₂, ◌∙◌, subst}
use Prim.Native.Nat.{ℕ, ◌+◌, ◌-◌, ◌≤◌, ◌<◌}
use native.Mathlib.Omega.{arith}
use mathlib.Core.Bool.{Bool}
use mathlib.Core.List.{List, ◌++◌}
use lib.ListN.{length, get_or, take, drop, length-append, length-drop, get_or-append}
use lib.Seq.{get_or-drop, take_at, get_or-append-add, length-take-le}
use lib.Dec.{eqb}
use borrow.Author.Tests.{eq-eqb, eqb-true}
use Rattle.bitml.specs.Lists.{below}
use Rattle.bitml.proofs.Lists.{keep_all, keep_imp, up_mem, mem-keep, mem_up}
use Rattle.bucket.specs.Bucket.{key_at, Keys, Buckets, bucket_of}
use Rattle.bucket.proofs.Laws.{buckets_frame}
use Rattle.bucket.proofs.Find.{bucket_rise, bucket_size, bucket_behind, bucket_room, bucket_slice}
use Rattle.tables.specs.Entries.{Entries, held, people, node_wide, branch_wide, nodes_from, branches_from, most_nodes, most_branches}
use Rattle.tables.specs.SheetOf.{node_entry_at, branch_entry_at, branch_numbers, branch_count, branch_number, part_numbers, part_count, part_number}
use Rattle.tables.proofs.SheetOf.{all_in}
use Rattle.tables.proofs.Held.{node-held, branch_held}
use Rattle.reading.proofs.Formed.{place_of, parent-small, argument_small}
use Rattle.sheets.specs.Ready.{Ready, Indexed, namers, Named, branches_by, parts_from, parts_by, namers_long}

module _ (E : Entries) (x : List ℕ) (w : Indexed E x) where
  pub branch-at : (n i : ℕ) → n < most_nodes → i < branch_count E n → branch_number E n i ≡ get_or x (branches_by + get_or x n 0 + i) 0
  unfolding branch_count branch_number branch_numbers bucket_of
  branch-at n i h l = bucket_behind _ _ _ _ x branches_by w.branches n i h l

  pub branch-rise : (n : ℕ) → n < most_nodes → get_or x n 0 ≤ get_or x (n + 1) 0
  branch-rise n h = bucket_rise _ _ _ _ _ w.branches n h

  -- a node's branches, a branch's parts, as slices
  pub branch_slice : (n : ℕ) → length E.branches ≤ most_branches → n < most_nodes
      → take (branches_by + get_or x (n + 1) 0 - (branches_by + get_or x n 0)) (drop (branches_by + get_or x n 0) x) ≡ branch_numbers E n
  unfolding branch_numbers bucket_of
  branch_slice n l h = bucket_slice _ _ _ x x branches_by w.branches n h (omega (arith, w.long))

  pub branch-room : (n i : ℕ) → n < most_nodes → i < branch_count E n → get_or x n 0 + i < length E.branches
  unfolding branch_count branch_numbers bucket_of
  branch-room n i h l = bucket_room _ _ _ _ _ w.branches n i h l

  part_start : (b : ℕ) → get_or (drop parts_from x) b 0 ≡ get_or x (parts_from + b) 0
  part_start b = get_or-drop parts_from x b 0

  pub parts_at : (b : ℕ) → b < most_branches + 1 → part_count E b ≡ get_or x (parts_from + (b + 1)) 0 - get_or x (parts_from + b) 0
  unfolding part_count part_numbers bucket_of
  parts_at b h = bucket_size _ _ _ _ _ w.parts b h ∙ ap₂ (λ p q. p - q) (part_start (b + 1)) (part_start b)

  pub parts-rise : (b : ℕ) → b < most_branches + 1 → get_or x (parts_from + b) 0 ≤ get_or x (parts_from + (b + 1)) 0
  parts-rise b h = omega (arith, part_start b, part_start (b + 1), bucket_rise _ _ _ _ _ w.parts b h)

  pub part_at : (b i : ℕ) → b < most_branches + 1 → i < part_count E b → part_number E b i ≡ get_or x (parts_by + get_or x (parts_from + b) 0 + i) 0
  unfolding part_count part_number part_numbers bucket_of
  part_at b i h l = bucket_behind _ _ _ _ x parts_by w.parts b i h l ∙ ap (λ k. get_or x (parts_by + k + i) 0) (part_start b)

  -- where a branch's parts start, and where they end
  pub part_from : (b : ℕ) → get_or x (parts_from + b) 0 ≡ get_or (drop parts_from x) b 0
  part_from b = sym (part_start b)

  pub part_to : (b : ℕ) → get_or x (parts_from + b + 1) 0 ≡ get_or (drop parts_from x) (b + 1) 0
  part_to b = ap (λ i. get_or x i 0) (let z : parts_from + b + 1 ≡ parts_from + (b + 1) = omega arith in z) ∙ sym (part_start (b + 1))

  pub part_slice : (b : ℕ) → length E.nodes ≤ most_nodes → b < most_branches + 1
      → take (parts_by + get_or x (parts_from + b + 1) 0 - (parts_by + get_or x (parts_from + b) 0)) (drop (parts_by + get_or x (parts_from + b) 0) x) ≡ part_numbers E b
  unfolding part_numbers bucket_of
  part_slice b l h = rw (part_from b, part_to b) (bucket_slice _ _ _ (drop parts_from x) x parts_by w.parts b h (omega (arith, w.long)))

  pub part_bounds : (b : ℕ) → length E.nodes ≤ most_nodes → b < most_branches + 1
      → (get_or x (parts_from + b) 0 ≤ get_or x (parts_from + b + 1) 0) × (parts_by + get_or x (parts_from + b + 1) 0 ≤ length x)
  part_bounds b l h = (omega (arith, part_from b, part_to b, bucket_rise _ _ _ _ _ w.parts b h), omega (arith, part_to b, w.parts.within (b + 1) (omega arith), w.long))

  pub part_room : (b i : ℕ) → b < most_branches + 1 → i < part_count E b → get_or x (parts_from + b) 0 + i < length E.nodes
  unfolding part_count part_numbers bucket_of
  part_room b i h l = omega (arith, part_start b, bucket_room _ _ _ _ _ w.parts b i h l)

-- ---- by argument

module _ (E : Entries) (y : List ℕ) (w : Named E y) where
  pub namers-at : (a : ℕ) → a < most_nodes → length (namers E a) ≡ get_or y (a + 1) 0 - get_or y a 0
  unfolding namers
  namers-at a h = bucket_size _ _ _ _ _ w.branches a h

  pub namers-rise : (a : ℕ) → a < most_nodes → get_or y a 0 ≤ get_or y (a + 1) 0
  namers-rise a h = bucket_rise _ _ _ _ _ w.branches a h

  pub namer_at : (a i : ℕ) → a < most_nodes → i < length (namers E a) → get_or (namers E a) i 0 ≡ get_or y (branches_by + get_or y a 0 + i) 0
  unfolding namers
  namer_at a i h l = bucket_behind _ _ _ _ y branches_by w.branches a i h l

  pub namer_slice : (a : ℕ) → length E.branches ≤ most_branches → a < most_nodes
      → take (branches_by + get_or y (a + 1) 0 - (branches_by + get_or y a 0)) (drop (branches_by + get_or y a 0) y) ≡ namers E a
  unfolding namers
  namer_slice a l h = bucket_slice _ _ _ y y branches_by w.branches a h (omega (arith, w.long))

  pub namer_room : (a i : ℕ) → a < most_nodes → i < length (namers E a) → get_or y a 0 + i < length E.branches
  unfolding namers
  namer_room a i h l = bucket_room _ _ _ _ _ w.branches a i h l

module _ (E : Entries) (a : ℕ) where
  pub namer_is : (i : ℕ) → i < length (namers E a) → (get_or (namers E a) i 0 < length E.branches) × ((branch_entry_at E (get_or (namers E a) i 0)).arg ≡ a)
  unfolding namers bucket_of
  namer_is i h =
      let T : ℕ → Bool = λ b. eqb (branch_entry_at E b).arg a in
      let w = all_in (namers E a) i (keep_imp T (below (length E.branches)) (up_mem 0 (length E.branches))) h in
      (omega (arith, w.1), eqb-true _ _ (all_in (namers E a) i (keep_all T (below (length E.branches))) h))

  pub namer_place : (b : ℕ) → b < length E.branches → (branch_entry_at E b).arg ≡ a → (i : ℕ) × (i < length (namers E a)) × (get_or (namers E a) i 0 ≡ b)
  unfolding namers bucket_of
  namer_place b h e =
      place_of (namers E a) (mem-keep (λ b. eqb (branch_entry_at E b).arg a) (below (length E.branches)) (mem_up 0 (length E.branches) b (omega arith) (omega arith)) (eq-eqb _ _ e))

-- ---- making them

module _ (t : List ℕ) (ok : Ready t) where
  branch_key : (b : ℕ) → b < length (held t).branches → key_at t branches_from branch_wide b ≡ (branch_entry_at (held t) b).node
  unfolding key_at
  branch_key b h = ap (λ e. e.node) (sym (branch_held t b h))

  node_key : (n : ℕ) → n < length (held t).nodes → key_at t (nodes_from + 1) node_wide n ≡ (node_entry_at (held t) n).parent
  unfolding key_at
  node_key n h = ap (λ e. e.parent) (sym (node-held t n h))

  pub keys_branches : (k : ℕ) → k ≡ length (held t).branches → Keys t branches_from branch_wide k most_nodes
  keys_branches k e =
      record {
        there = λ i h. omega (arith, ok.promises.limits.branches, ok.long);
        small =
            λ i h. let l : i < length (held t).branches = omega arith in omega (arith, branch_key i l, (ok.promises.branch i l).node, ok.promises.limits.nodes);
      }

  pub keys_nodes : (k : ℕ) → k ≡ length (held t).nodes → Keys t (nodes_from + 1) node_wide k (most_branches + 1)
  keys_nodes k e =
      record {
        there = λ i h. omega (arith, ok.promises.limits.nodes, ok.long);
        small = λ i h. let l : i < length (held t).nodes = omega arith in omega (arith, node_key i l, parent-small (people t) (held t) ok.promises i l);
      }

  -- the two parts of the slice put together
  pub indexed : (r n : ℕ) (F D G P : List ℕ) → r ≡ length (held t).branches → n ≡ length (held t).nodes → length F ≡ parts_from → most_branches + 2 + most_nodes ≤ length G
      → Buckets (key_at t branches_from branch_wide) r most_nodes F (drop branches_by F) → Buckets (key_at t (nodes_from + 1) node_wide) n (most_branches + 1) G (drop (most_branches + 2) G) → Indexed (held t) (take parts_from (F ++ D) ++ (G ++ P))
  indexed r n F D G P er en lf lg br bn =
      let x = F ++ (G ++ P) in
      let low : (j : ℕ) → j < parts_from → get_or x j 0 ≡ get_or F j 0 = λ j h. get_or-append F (G ++ P) 0 j (omega arith) in
      let high : (j : ℕ) → j < most_branches + 2 + most_nodes → get_or x (parts_from + j) 0 ≡ get_or G j 0 = λ j h.
      ap (λ i. get_or x i 0) (let z : parts_from + j ≡ length F + j = omega arith in z) ∙ get_or-append-add F (G ++ P) j 0 ∙ get_or-append G P 0 j (omega arith) in
      let w : Indexed (held t) x = record {
        long = omega (arith, length-append F (G ++ P), length-append G P);
        branches = subst (λ k. Buckets (λ b. (branch_entry_at (held t) b).node) k most_nodes x (drop branches_by x)) er
            (buckets_frame (key_at t branches_from branch_wide) (λ b. (branch_entry_at (held t) b).node) r most_nodes F (drop branches_by F) x (drop branches_by x) (λ b h. branch_key b (omega arith)) (λ k h. low k (omega arith))
            (λ j h. get_or-drop branches_by x j 0 ∙ low (branches_by + j) (omega (arith, ok.promises.limits.branches)) ∙ sym (get_or-drop branches_by F j 0)) br);
        parts = subst (λ k. Buckets (λ m. (node_entry_at (held t) m).parent) k (most_branches + 1) (drop parts_from x) (drop parts_by x)) en
            (buckets_frame (key_at t (nodes_from + 1) node_wide) (λ m. (node_entry_at (held t) m).parent) n (most_branches + 1) G (drop (most_branches + 2) G) (drop parts_from x) (drop parts_by x) (λ m h. node_key m (omega arith)) (λ k h. get_or-drop parts_from x k 0 ∙ high k (omega arith))
            (λ j h. get_or-drop parts_by x j 0 ∙ ap (λ i. get_or x i 0) (let z : parts_by + j ≡ parts_from + (most_branches + 2 + j) = omega arith in z) ∙ high (most_branches + 2 + j) (omega (arith, ok.promises.limits.nodes)) ∙ sym (get_or-drop (most_branches + 2) G j 0)) bn);
      } in
      subst (λ ys. Indexed (held t) (ys ++ (G ++ P))) (sym (take_at F D parts_from lf)) w

  argument_key : (b : ℕ) → b < length (held t).branches → key_at t (branches_from + 4) branch_wide b ≡ (branch_entry_at (held t) b).arg
  unfolding key_at
  argument_key b h = ap (λ e. e.arg) (sym (branch_held t b h))

  pub keys_arguments : (k : ℕ) → k ≡ length (held t).branches → Keys t (branches_from + 4) branch_wide k most_nodes
  keys_arguments k e =
      record {
        there = λ i h. omega (arith, ok.promises.limits.branches, ok.long);
        small = λ i h.
            let l : i < length (held t).branches = omega arith in
            omega (arith, argument_key i l, argument_small (people t) (held t) ok.promises i l);
      }

  pub named : (r : ℕ) (y : List ℕ) → r ≡ length (held t).branches → namers_long ≤ length y → Buckets (key_at t (branches_from + 4) branch_wide) r most_nodes y (drop branches_by y) → Named (held t) y
  named r y e l w =
      record {
        long = l;
        branches = subst (λ k. Buckets (λ b. (branch_entry_at (held t) b).arg) k most_nodes y (drop branches_by y)) e
            (buckets_frame (key_at t (branches_from + 4) branch_wide) (λ b. (branch_entry_at (held t) b).arg) r most_nodes y (drop branches_by y) y (drop branches_by y) (λ b h. argument_key b (omega arith)) (λ k h. refl) (λ j h. refl) w);
      }

pub rest-length : (x : List ℕ) (a : ℕ) → length (take (length x - a) (drop a x)) ≡ length x - a
rest-length x a = length-take-le (length x - a) (drop a x) (rw length-drop (omega arith))
