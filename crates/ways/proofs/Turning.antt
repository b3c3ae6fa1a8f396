-- The step that is taken: the lowest branch that leads on, and the lowest node in it that does. Assumes nothing.
use mathlib.Core.Path.{◌≡◌, refl, sym, ap, ◌∙◌, subst}
use mathlib.Core.Logic.{by_cases}
use Rattle.std.specs.Prelude.{Option, None, Some}
use Rattle.std.specs.Option.{MatchOption}
use Rattle.std.specs.List.{AllWithin, HoldsAt}
use Prim.Native.Nat.{ℕ, zero, suc, ◌+◌, ◌-◌, ◌≤◌, ◌<◌}
use native.Mathlib.Omega.{arith}
use native.Mathlib.Decide.{dec_le}
use mathlib.Core.Bool.{Bool, true, false, false≢true, cond}
use mathlib.Core.List.{List, [], ◌∷◌, Memᴰ}
use lib.ListN.{length, get_or}
use Rattle.bitml.specs.Lists.{keep, any, up_from}
use Rattle.bitml.specs.Sheet.{branches_at, branch_at, parts}
use Rattle.bitml.specs.Runs.{next}
use Rattle.bitml.specs.Why.{near, branch_toward, trail}
use Rattle.bitml.proofs.Lists.{is_false, any-mem, mem-any, all_of, all-mem, keep_imp, up_mem}
use Rattle.bitml.proofs.Shortest.{lowest-is, near_step, near-branch, trail-one, trail-lowest}
use Rattle.tables.specs.Entries.{Entries, most_nodes}
use Rattle.tables.specs.SheetOf.{sheet_of, branch_of, action_of, branch_entry_at, def_entry_at, branch_count, branch_number, part_numbers, part_count, part_number}
use Rattle.tables.proofs.SheetOf.{all_in, nodes-are, count_of, branch_of_lem, branch-small, part_small, next-renewal}
use Rattle.reading.specs.Promises.{Promises}
use Rattle.reading.proofs.Formed.{place_of, parts-are-nodes}
use Rattle.ways.specs.Distances.{Distances, Lowest, Found, Turned}
use Rattle.ways.proofs.Leading.{before_of}

-- ---- the lowest of a list

mem-at : (xs : List ℕ) (i : ℕ) → i < length xs → Memᴰ (get_or xs i 0) xs
mem-at xs i h = all_in xs i (all-mem (λ y. Memᴰ y xs) xs (λ y m. m)) h

-- what is kept of numbers that count up rises
kept_rise : (T : ℕ → Bool) (a n i j : ℕ) → i ≤ j → j < length (keep T (up_from a n)) → get_or (keep T (up_from a n)) i 0 ≤ get_or (keep T (up_from a n)) j 0
kept_rise T a zero i j h l = absurd (omega arith)
kept_rise T a (suc n) i j h l = go (T a) i j h l (kept_rise T (suc a) n)
  where
    ks : List ℕ
    ks = keep T (up_from (suc a) n)

    go : (b : Bool) (i j : ℕ) → i ≤ j → j < length (cond b (a ∷ ks) ks) → ((i j : ℕ) → i ≤ j → j < length ks → get_or ks i 0 ≤ get_or ks j 0)
        → get_or (cond b (a ∷ ks) ks) i 0 ≤ get_or (cond b (a ∷ ks) ks) j 0
    go false i j h l f = f i j h l
    go true zero zero h l f = omega arith
    go true zero (suc j) h l f =
        let w = all_of (keep_imp T (up_from (suc a) n) (up_mem (suc a) n)) (mem-at ks j (omega arith)) in
        omega (arith, w.0)
    go true (suc i) zero h l f = absurd (omega arith)
    go true (suc i) (suc j) h l f = f i j (omega arith) (omega arith)

module _ (E : Entries) (D : List ℕ) (b k : ℕ) where
  pub part_found : (i : ℕ) → length E.nodes ≤ most_nodes → i < part_count E b → get_or D (part_number E b i) 0 ≡ k → ((j : ℕ) → j < i → get_or D (part_number E b j) 0 ≡ k → ⊥)
      → Found D (part_numbers E b) k (Some (part_number E b i))
  unfolding part_count part_number part_numbers
  part_found i few h e f = (
    omega (arith, part_small E b i h),
    record {
      listed = mem-at (part_numbers E b) i h;
      mark = e;
      lowest = λ j hj q.
          let w = place_of (part_numbers E b) hj in
          by_cases (dec_le i w.0)
          (λ z. omega (arith, kept_rise _ 0 (length E.nodes) i w.0 z w.1, w.2))
          (λ z. absurd (f w.0 (omega arith) (ap (λ m. get_or D m 0) w.2 ∙ q)));
    },
  )

  pub part_missed : (i : ℕ) → part_count E b ≤ i → ((j : ℕ) → j < i → get_or D (part_number E b j) 0 ≡ k → ⊥) → Found D (part_numbers E b) k None
  unfolding part_count part_number
  part_missed i h f j hj q = let w = place_of (part_numbers E b) hj in f w.0 (omega (arith, w.1)) (ap (λ m. get_or D m 0) w.2 ∙ q)

-- what `find` says of the parts of a branch
pub first_part : (E : Entries) (D ms : List ℕ) (b k : ℕ) (r : Option ℕ) → length E.nodes ≤ most_nodes → ms ≡ part_numbers E b
    → MatchOption r (AllWithin (λ m. get_or D m 0 ≡ k → ⊥) ms 0 (length ms))
    (λ x. (get_or D x 0 ≡ k) × (i : ℕ) × (i < length ms) × HoldsAt (λ y. y ≡ x) ms i × AllWithin (λ m. get_or D m 0 ≡ k → ⊥) ms 0 i) → Found D (part_numbers E b) k r
unfolding part_count part_number
first_part E D ms b k None few e f = part_missed E D b k (part_count E b) (omega arith) (λ j h. rw (← e) (f j 0 (omega arith) (omega (arith, ap length e))))
first_part E D ms b k (Some x) few e (q, i, hi, at, f) =
    let z : part_number E b i ≡ x = rw (← e) (at 0) in
    subst (λ m. Found D (part_numbers E b) k (Some m)) z (part_found E D b k i few (omega (arith, ap length e)) (ap (λ m. get_or D m 0) z ∙ q) (λ j h. rw (← e) (f j 0 (omega arith) h)))

pub one_found : (D : List ℕ) (k m n : ℕ) → m ≡ n → m < most_nodes → get_or D m 0 ≡ k → Found D (n ∷ []) k (Some m)
one_found D k m n e h q = (h, record { listed = mathlib.Core.List.Memᴰ.head e; mark = q; lowest = λ j hj r. let z = mathlib.Core.List.Memᴰ.eq_of_singleton hj in omega arith })

pub one_missed : (D : List ℕ) (k m n : ℕ) → m ≡ n → (get_or D m 0 ≡ k → ⊥) → Found D (n ∷ []) k None
one_missed D k m n e f j hj q = f (ap (λ n. get_or D n 0) (e ∙ sym (mathlib.Core.List.Memᴰ.eq_of_singleton hj)) ∙ q)

-- a branch leads to its parts, or to the root of its definition
module _ (K : ℕ) (E : Entries) (ok : Promises K E) (b : ℕ) (hb : b < length E.branches) (D : List ℕ) (k : ℕ) (r : Option ℕ) where
  pub found_parts : ((branch_entry_at E b).kind ≡ 3 → ⊥) → Found D (part_numbers E b) k r → Found D (next (sheet_of K E) (branch_of E b).action) k r
  unfolding branch_of action_of
  found_parts ne w = subst (λ ns. Found D ns k r) (sym (go (branch_entry_at E b).kind refl ∙ parts-are-nodes K E ok b hb)) w
    where
      go : (j : ℕ) → (branch_entry_at E b).kind ≡ j → next (sheet_of K E) (branch_of E b).action ≡ parts (branch_of E b).action
      go zero e = rw e
      go (suc zero) e = rw e
      go (suc (suc zero)) e = rw e
      go (suc (suc (suc j))) e = absurd (ne (omega (arith, (ok.branch b hb).kind)))

  pub found_root : (branch_entry_at E b).kind ≡ 3 → Found D ((def_entry_at E (branch_entry_at E b).arg).root ∷ []) k r → Found D (next (sheet_of K E) (branch_of E b).action) k r
  found_root e w = subst (λ ns. Found D ns k r) (sym (next-renewal E b K e ((ok.branch b hb).renew e).definition)) w

-- ---- the step

-- no branch before the i-th of node n leads to a node with mark k
unfoldable pub NoneBefore : ℕ → Entries → List ℕ → ℕ → ℕ → ℕ → Type 0
NoneBefore K E D n k i = (j : ℕ) → j < i → (m : ℕ) → Memᴰ m (next (sheet_of K E) (branch_of E (branch_number E n j)).action) → get_or D m 0 ≡ k → ⊥

pub none_first : (K : ℕ) (E : Entries) (D : List ℕ) (n k : ℕ) → NoneBefore K E D n k 0
unfolding NoneBefore
none_first K E D n k j h = absurd (omega arith)

pub none_more : (K : ℕ) (E : Entries) (D : List ℕ) (n k i b : ℕ) → b ≡ branch_number E n i → NoneBefore K E D n k i
    → ((m : ℕ) → Memᴰ m (next (sheet_of K E) (branch_of E b).action) → get_or D m 0 ≡ k → ⊥) → NoneBefore K E D n k (i + 1)
unfolding NoneBefore
none_more K E D n k i b e f w j hj = by_cases (dec_le (suc j) i) (λ z. f j z) (λ z. let q : branch_number E n j ≡ b = ap (branch_number E n) (omega arith) ∙ sym e in rw q w)

module _ (K : ℕ) (E : Entries) (ok : Promises K E) (g : ℕ) (D : List ℕ) (x : Distances (sheet_of K E) g D) (n : ℕ) (hn : n < length E.nodes) (k : ℕ) (far : get_or D n 0 ≡ suc (suc k)) where
  in_sheet : (m : ℕ) → m < length E.nodes → m < length (sheet_of K E).nodes
  in_sheet m h = omega (arith, nodes-are K E)

  here : near (sheet_of K E) g (suc k) n ≡ true
  here = (x.exact (suc k) n (in_sheet n hn)).1 (omega arith, omega arith)

  not-less : near (sheet_of K E) g k n ≡ false
  not-less = is_false _ (λ e. let w = (x.exact k n (in_sheet n hn)).0 e in omega (arith, w.1))

  -- of what a branch of n leads to, that has mark k + 1 which is k steps away
  module _ (i : ℕ) (hi : i < branch_count E n) (m : ℕ) (hm : Memᴰ m (next (sheet_of K E) (branch_at (sheet_of K E) n i).action)) where
    made_in : m < length E.nodes
    made_in = (before_of K E ok (branch_number E n i) m (branch-small E n i hi) (subst (λ br. Memᴰ m (next (sheet_of K E) br.action)) (branch_of_lem K E n i hn hi) hm)).0

    near-mark : near (sheet_of K E) g k m ≡ true → get_or D m 0 ≡ suc k
    near-mark e =
        let w = (x.exact k m (in_sheet m made_in)).0 e in
        let z : suc (get_or D m 0 - 1) ≡ get_or D m 0 = omega (arith, w.0) in
        let v = (x.exact (get_or D m 0 - 1) m (in_sheet m made_in)).1 (w.0, omega arith) in
        let u = near_step (sheet_of K E) g (get_or D m 0 - 1) n i m (subst (λ c. i < c) (sym (count_of K E n hn)) hi) hm v in
        omega (arith, w.1, ((x.exact (suc (get_or D m 0 - 1)) n (in_sheet n hn)).0 u).1)

    mark-near : get_or D m 0 ≡ suc k → near (sheet_of K E) g k m ≡ true
    mark-near e = (x.exact k m (in_sheet m made_in)).1 (omega arith, omega arith)

  none-near : (i : ℕ) → NoneBefore K E D n (suc k) i → (j : ℕ) → j < i → j < branch_count E n → any (near (sheet_of K E) g k) (next (sheet_of K E) (branch_at (sheet_of K E) n j).action) ≡ false
  unfolding NoneBefore
  none-near i f j hj hb = is_false _ (λ e.
      let v = any-mem (near (sheet_of K E) g k) (next (sheet_of K E) (branch_at (sheet_of K E) n j).action) e in
      f j hj v.0 (subst (λ br. Memᴰ v.0 (next (sheet_of K E) br.action)) (branch_of_lem K E n j hn hb) v.1) (near-mark j hb v.0 v.1 v.2))

  pub turned_at : (i m : ℕ) → i < branch_count E n → NoneBefore K E D n (suc k) i → Lowest D (next (sheet_of K E) (branch_of E (branch_number E n i)).action) (suc k) m
      → Turned (sheet_of K E) g D n (record { branch = i; node = m })
  unfolding branch_toward
  turned_at i m hi f w =
      let S = sheet_of K E in
      let ns = next S (branch_at S n i).action in
      let there : Memᴰ m ns = subst (λ br. Memᴰ m (next S br.action)) (sym (branch_of_lem K E n i hn hi)) w.listed in
      let e = mark-near i hi m there w.mark in
      let test : ℕ → Bool = λ b. any (near S g k) (next S (branch_at S n b).action) in
      let q : branch_toward S g k n ≡ i =
      lowest-is test (length (branches_at S n)) i (mem-any (near S g k) ns there e) (λ j hj. none-near i f j hj (omega arith)) (omega (arith, count_of K E n hn)) in
      let r : trail S g k ns ≡ trail S g k (m ∷ []) =
      trail-lowest S g k m ns (in_sheet m (made_in i hi m there)) there e
      (λ j hj ej. w.lowest j (subst (λ br. Memᴰ j (next S br.action)) (branch_of_lem K E n i hn hi) hj) (near-mark i hi j hj ej)) in
      record {
        there = in_sheet m (made_in i hi m there);
        nearer = omega (arith, w.mark);
        way = λ k' z.
            let y : k' ≡ k = omega arith in
            rw y (trail-one S g k n i (in_sheet n hn) here q ∙ ap (λ ms. record { node = n; branch = i } ∷ ms) r);
      }

  -- some branch leads on
  pub never : NoneBefore K E D n (suc k) (branch_count E n) → ⊥
  never f =
      let w = near-branch (sheet_of K E) g k n here not-less in
      let hi : w.0 < branch_count E n = subst (λ c. w.0 < c) (count_of K E n hn) w.1 in
      false≢true (sym (none-near (branch_count E n) f w.0 hi hi) ∙ w.2)

-- for whatever node the distances are to
pub turned : (K : ℕ) (E : Entries) → Promises K E → (D : List ℕ) (n i b m : ℕ) → b ≡ branch_number E n i → n < length E.nodes → 1 < get_or D n 0 → i < branch_count E n
    → NoneBefore K E D n (get_or D n 0 - 1) i → Lowest D (next (sheet_of K E) (branch_of E b).action) (get_or D n 0 - 1) m
    → (g : ℕ) → Distances (sheet_of K E) g D → Turned (sheet_of K E) g D n (record { branch = i; node = m })
turned K E ok D n i b m e hn far hi f w g x =
    let k = get_or D n 0 - 2 in
    let q : get_or D n 0 - 1 ≡ suc k = omega arith in
    let l : Lowest D (next (sheet_of K E) (branch_of E (branch_number E n i)).action) (get_or D n 0 - 1) m =
    subst (λ b. Lowest D (next (sheet_of K E) (branch_of E b).action) (get_or D n 0 - 1) m) e w in
    turned_at K E ok g D x n hn k (omega arith) i m hi (subst (λ k. NoneBefore K E D n k i) q f) (subst (λ k. Lowest D (next (sheet_of K E) (branch_of E (branch_number E n i)).action) k m) q l)

pub not_turned : (K : ℕ) (E : Entries) → Promises K E → (D : List ℕ) (n i : ℕ) → n < length E.nodes → 1 < get_or D n 0 → branch_count E n ≤ i → i ≤ branch_count E n
    → NoneBefore K E D n (get_or D n 0 - 1) i → (g : ℕ) → Distances (sheet_of K E) g D → ⊥
not_turned K E ok D n i hn far hi hi' f g x =
    let k = get_or D n 0 - 2 in
    let q : get_or D n 0 - 1 ≡ suc k = omega arith in
    let z : i ≡ branch_count E n = omega arith in
    never K E ok g D x n hn k (omega arith) (subst (λ i. NoneBefore K E D n (suc k) i) z (subst (λ k. NoneBefore K E D n k i) q f))
