-- The ranks of the published rule: nonzero exactly where a node has an exit, and then the least. Assumes nothing.
use mathlib.Core.Path.{◌≡◌, refl, sym, ap, ap₂, ◌∙◌, subst, subst₂}
use mathlib.Core.Logic.{◌≢◌, ◌⊎◌, inl, inr, by_cases}
use Prim.Native.Nat.{ℕ, zero, suc, ◌+◌, ◌-◌, ◌≤◌, ◌<◌}
use native.Mathlib.Omega.{arith}
use native.Mathlib.Decide.{dec_le}
use mathlib.Core.Bool.{Bool, true, false}
use mathlib.Core.List.{List, [], ◌∷◌, ◌++◌, map, append_assoc, append-nil, Memᴰ}
use lib.ListN.{length, get_or, drop}
use lib.Seq.{get_or-drop}
use lib.Dec.{eqb, ltb, leb}
use borrow.Author.Tests.{eqb-true, eqb-false, ltb-true, ltb-false, leb-true, leb-false, lt-ltb, le-ltb}
use Rattle.bitml.specs.Lists.{◌&◌, ◌or◌, sum, every, up_from, All, nil, cons}
use Rattle.bitml.specs.Sheet.{Sheet, Node, no_node, branches_at, branch_at, node_at, parts}
use Rattle.bitml.specs.Runs.{OwnStep, own_step, Run, done, more, Exit, next, own}
use Rattle.bitml.specs.Promises.{WellFormed}
use Rattle.bitml.specs.Rule.{Choice, no_choice, cost_of, cost, better, choose, choices, choice_at, rank_at, candidates}
use Rattle.bitml.proofs.Actions.{own-parts}
use Rattle.bitml.proofs.Lists.{and_l, and_r, and_i, all_head, all_tail, all_append, all_left, all_right, all_of, all-mem, map_cong, every_map, map-every, mem-le-sum, in_range, mem_up, up_mem}

-- ---- what a cost says

cost-mine : (mine : Bool) (ks : List ℕ) → 0 < cost_of mine ks → (mine ≡ true) × (every (ltb 0) ks ≡ true) × (cost_of mine ks ≡ suc (sum ks))
unfolding cost_of
cost-mine mine ks h = go (mine & every (ltb 0) ks) refl
  where
    go : (t : Bool) → (mine & every (ltb 0) ks) ≡ t → (mine ≡ true) × (every (ltb 0) ks ≡ true) × (cost_of mine ks ≡ suc (sum ks))
    go true e = (and_l _ _ e, and_r _ _ e, rw e)
    go false e = absurd (let z : cost_of mine ks ≡ 0 = rw e in omega arith)

pub mine-cost : (mine : Bool) (ks : List ℕ) → mine ≡ true → every (ltb 0) ks ≡ true → cost_of mine ks ≡ suc (sum ks)
unfolding cost_of
mine-cost mine ks e f = let t : (mine & every (ltb 0) ks) ≡ true = and_i _ _ e f in rw t

-- ---- what a choice says

record First (k b : ℕ) (c : Choice) : Type 0 where
  any : 0 < k
  least : 0 < c.rank → k ≤ c.rank
  is : better k b c ≡ record { branch = b; rank = k }

record Later (k b : ℕ) (c : Choice) : Type 0 where
  worse : 0 < k → (0 < c.rank) × (c.rank < k)
  is : better k b c ≡ c

better-view : (k b : ℕ) (c : Choice) → First k b c ⊎ Later k b c
unfolding better ◌or◌ ◌&◌
better-view k b c = go (ltb 0 k) refl (eqb c.rank 0) refl (leb k c.rank) refl
  where
    go : (t : Bool) → ltb 0 k ≡ t → (u : Bool) → eqb c.rank 0 ≡ u → (v : Bool) → leb k c.rank ≡ v → First k b c ⊎ Later k b c
    go false e u eu v ev = inr (record { worse = λ h. absurd (omega (arith, ltb-false 0 k e)); is = rw e })
    go true e true eu v ev = inl (record { any = ltb-true 0 k e; least = λ h. absurd (omega (arith, eqb-true c.rank 0 eu)); is = rw (e, eu) })
    go true e false eu true ev = inl (record { any = ltb-true 0 k e; least = λ h. leb-true k c.rank ev; is = rw (e, eu, ev) })
    go true e false eu false ev =
        let ne : c.rank ≢ 0 = eqb-false c.rank 0 eu in
        inr (record { worse = λ h. (omega arith, leb-false k c.rank ev); is = rw (e, eu, ev) })

module _ (F : ℕ → ℕ) where
  -- the choice is a candidate, with the chosen rank for its cost
  pub choose_hit : (bs : List ℕ) → 0 < (choose F bs).rank → Memᴰ (choose F bs).branch bs × (F (choose F bs).branch ≡ (choose F bs).rank)
  unfolding choose
  choose_hit [] h = absurd (omega arith)
  choose_hit (b ∷ bs) h = go (better-view (F b) b (choose F bs)) (choose_hit bs)
    where
      go : First (F b) b (choose F bs) ⊎ Later (F b) b (choose F bs)
          → (0 < (choose F bs).rank → Memᴰ (choose F bs).branch bs × (F (choose F bs).branch ≡ (choose F bs).rank))
          → Memᴰ (choose F (b ∷ bs)).branch (b ∷ bs) × (F (choose F (b ∷ bs)).branch ≡ (choose F (b ∷ bs)).rank)
      go (inl v) ih = rw v.is (mathlib.Core.List.Memᴰ.head refl, refl)
      go (inr v) ih = let w = ih (rw v.is at h) in rw v.is (mathlib.Core.List.Memᴰ.tail w.0, w.1)

  -- no candidate that serves has a lower cost
  pub choose-least : {b : ℕ} (bs : List ℕ) → Memᴰ b bs → 0 < F b → (0 < (choose F bs).rank) × ((choose F bs).rank ≤ F b)
  unfolding choose
  choose-least {b} bs (mathlib.Core.List.Memᴰ.head {x = a} {xs = cs} p) h = go (better-view (F a) a (choose F cs)) (rw p at h)
    where
      go : First (F a) a (choose F cs) ⊎ Later (F a) a (choose F cs) → 0 < F a → (0 < (choose F (a ∷ cs)).rank) × ((choose F (a ∷ cs)).rank ≤ F b)
      go (inl v) h' = rw (v.is, p) (omega arith)
      go (inr v) h' = rw (v.is, p) (omega (arith, v.worse h'))
  choose-least {b} bs (mathlib.Core.List.Memᴰ.tail {x = a} {xs = cs} m) h = go (better-view (F a) a (choose F cs)) (choose-least cs m h)
    where
      go : First (F a) a (choose F cs) ⊎ Later (F a) a (choose F cs)
          → (0 < (choose F cs).rank) × ((choose F cs).rank ≤ F b) → (0 < (choose F (a ∷ cs)).rank) × ((choose F (a ∷ cs)).rank ≤ F b)
      go (inl v) ih = rw v.is (omega (arith, v.any, v.least ih.0, ih.1))
      go (inr v) ih = rw v.is ih

  -- no candidate in front of the choice has its cost
  pub choose-first : (k n b : ℕ) → 0 < (choose F (up_from k n)).rank → k ≤ b → b < (choose F (up_from k n)).branch → F b ≢ (choose F (up_from k n)).rank
  unfolding choose
  choose-first k zero b h hk hb = absurd (omega arith)
  choose-first k (suc n) b h hk hb = go (better-view (F k) k (choose F (up_from (suc k) n))) (choose-first (suc k) n b)
    where
      go : First (F k) k (choose F (up_from (suc k) n)) ⊎ Later (F k) k (choose F (up_from (suc k) n))
          → (0 < (choose F (up_from (suc k) n)).rank → suc k ≤ b → b < (choose F (up_from (suc k) n)).branch → F b ≢ (choose F (up_from (suc k) n)).rank)
          → F b ≢ (choose F (up_from k (suc n))).rank
      go (inl v) ih = absurd (let z : b < k = rw v.is at hb in omega arith)
      go (inr v) ih = rw v.is (by_cases (dec_le b k)
          (λ c e. let q : b ≡ k = omega arith in let e' : F k ≡ (choose F (up_from (suc k) n)).rank = rw q at e in
          let w = v.worse (rw e' (rw v.is at h)) in omega arith)
          (λ c. ih (rw v.is at h) (omega arith) (rw v.is at hb)))

  pub choose_cong : (G : ℕ → ℕ) (bs : List ℕ) → ((b : ℕ) → Memᴰ b bs → F b ≡ G b) → choose F bs ≡ choose G bs
  unfolding choose
  choose_cong G [] h = refl
  choose_cong G (b ∷ bs) h = ap₂ (λ k c. better k b c) (h b (mathlib.Core.List.Memᴰ.head refl)) (choose_cong G bs (λ a m. h a (mathlib.Core.List.Memᴰ.tail m)))

-- ---- the choices are those that the published rule asks for

choices-at : (s : Sheet) (p k : ℕ) (nds : List Node) (i n : ℕ) → n ≡ k + i → i < length nds
    → get_or (choices s p k nds) i no_choice
    ≡ choose (cost s p n (λ m. (get_or (drop (suc i) (choices s p k nds)) (m - suc n) no_choice).rank)) (candidates (get_or nds i (record { definition = 0; branches = [] })))
unfolding choices
choices-at s p k [] i n e h = absurd (omega arith)
choices-at s p k (nd ∷ nds) zero n e h = let e' : n ≡ k = omega arith in rw e'
choices-at s p k (nd ∷ nds) (suc i) n e h = choices-at s p (suc k) nds i n (omega arith) (omega arith)

choices-length : (s : Sheet) (p k : ℕ) (nds : List Node) → length (choices s p k nds) ≡ length nds
unfolding choices
choices-length s p k [] = refl
choices-length s p k (nd ∷ nds) = ap suc (choices-length s p (suc k) nds)

-- ---- runs, put together

pub run_trans : {R : List ℕ → List ℕ → Type 0} {xs ys zs : List ℕ} → Run R xs ys → Run R ys zs → Run R xs zs
run_trans done r = r
run_trans (more st q) r = more st (run_trans q r)

step_frame : (s : Sheet) (p : ℕ) {xs ys : List ℕ} (zs : List ℕ) → OwnStep s p xs ys → OwnStep s p (xs ++ zs) (ys ++ zs)
step_frame s p zs (own_step xs ys n b hb mine) =
    subst₂ (OwnStep s p) (sym (append_assoc xs (n ∷ ys) zs)) (sym (append_assoc (xs ++ next s (branch_at s n b).action) ys zs)) (own_step xs (ys ++ zs) n b hb mine)

run_frame : (s : Sheet) (p : ℕ) {xs ys : List ℕ} (zs : List ℕ) → Run (OwnStep s p) xs ys → Run (OwnStep s p) (xs ++ zs) (ys ++ zs)
run_frame s p zs done = done
run_frame s p zs (more st r) = more (step_frame s p zs st) (run_frame s p zs r)

pub exit_all : (s : Sheet) (p : ℕ) (ms : List ℕ) → All (Exit s p) ms → Run (OwnStep s p) ms []
unfolding Exit
exit_all s p [] a = done
exit_all s p (m ∷ ms) a = run_trans (run_frame s p ms (all_head a)) (exit_all s p ms (all_tail a))

-- what has a branch is a node of the sheet
pub in_nodes : (s : Sheet) (n b : ℕ) → b < length (branches_at s n) → n < length s.nodes
in_nodes s n b h = in_range (λ nd. ltb b (length nd.branches)) s.nodes n no_node (le-ltb b 0 (omega arith)) (lt-ltb _ _ h)

module _ (s : Sheet) (wf : WellFormed s) (p : ℕ) where
  candidate_in : (n b : ℕ) → Memᴰ b (candidates (node_at s n)) → b < length (branches_at s n)
  candidate_in n b h = omega (arith, all_of (up_mem 0 (length (branches_at s n))) h)

  pub in_candidates : (n b : ℕ) → b < length (branches_at s n) → Memᴰ b (candidates (node_at s n))
  in_candidates n b h = mem_up 0 (length (branches_at s n)) b (omega arith) (omega arith)

  pub choice_is : (n : ℕ) → n < length s.nodes → choice_at s p n ≡ choose (cost s p n (rank_at s p)) (candidates (node_at s n))
  unfolding choice_at cost
  choice_is n hn =
      choices-at s p 0 s.nodes n n (omega arith) hn
      ∙ choose_cong _ _ (candidates (node_at s n)) λ b hb. ap (cost_of (own s p n (branch_at s n b))) (map_cong _ _ _ λ m hm.
      let h = wf.part_after n b m (candidate_in n b hb) hm in
      ap (λ c. c.rank) (get_or-drop (suc n) (choices s p 0 s.nodes) (m - suc n) no_choice
      ∙ ap (λ a. get_or (choices s p 0 s.nodes) a no_choice) (let z : suc n + (m - suc n) ≡ m = omega arith in z)))

  -- the branch that a nonzero rank names
  pub record Chosen (n : ℕ) : Type 0 where
    pub there : (choice_at s p n).branch < length (branches_at s n)
    pub mine : own s p n (branch_at s n (choice_at s p n).branch) ≡ true
    pub served : All (λ m. 0 < rank_at s p m) (parts (branch_at s n (choice_at s p n).branch).action)
    pub rank : rank_at s p n ≡ suc (sum (map (rank_at s p) (parts (branch_at s n (choice_at s p n).branch).action)))

  pub ranked_in : (n : ℕ) → 0 < rank_at s p n → n < length s.nodes
  unfolding choice_at
  ranked_in n h =
      let r : n < length (choices s p 0 s.nodes) = in_range (λ c. ltb 0 c.rank) (choices s p 0 s.nodes) n no_choice refl (lt-ltb _ _ h) in
      omega (arith, choices-length s p 0 s.nodes)

  pub chosen : (n : ℕ) → 0 < rank_at s p n → Chosen n
  unfolding cost
  chosen n h =
      let F = cost s p n (rank_at s p) in
      let b = (choice_at s p n).branch in
      let e = choice_is n (ranked_in n h) in
      let v : Memᴰ b (candidates (node_at s n)) × (F b ≡ rank_at s p n) =
      subst (λ c. Memᴰ c.branch (candidates (node_at s n)) × (F c.branch ≡ c.rank)) (sym e)
      (choose_hit F (candidates (node_at s n)) (subst (λ c. 0 < c.rank) e h)) in
      let z : 0 < F b = omega (arith, v.1, h) in
      let u = cost-mine (own s p n (branch_at s n b)) (map (rank_at s p) (parts (branch_at s n b).action)) z in
      record {
        there = candidate_in n b v.0;
        mine = u.0;
        served = all-mem _ _ (λ m hm. ltb-true _ _ (all_of (every_map _ _ _ u.1) hm));
        rank = sym v.1 ∙ u.2;
      }

  rank_exit : (k n : ℕ) → 0 < rank_at s p n → rank_at s p n ≤ k → Exit s p n
  unfolding Exit
  rank_exit zero n h hk = absurd (omega arith)
  rank_exit (suc k) n h hk =
      let c = chosen n h in
      let b = (choice_at s p n).branch in
      let a = (branch_at s n b).action in
      let r : Run (OwnStep s p) (parts a) [] =
      exit_all s p (parts a) (all-mem _ _ λ m hm. rank_exit k m (all_of c.served hm)
      (omega (arith, mem-le-sum (rank_at s p) (parts a) hm, c.rank, hk))) in
      let r' : Run (OwnStep s p) (next s a ++ []) [] =
      rw (append-nil, own-parts s p n (branch_at s n b) c.mine) r in
      more (own_step [] [] n b c.there c.mine) r'

  -- a step to nodes with ranks is from nodes with ranks
  step_back : {xs ys : List ℕ} → OwnStep s p xs ys → All (λ m. 0 < rank_at s p m) ys → All (λ m. 0 < rank_at s p m) xs
  unfolding cost
  step_back (own_step xs ys n b hb mine) a =
      let act = (branch_at s n b).action in
      let q = all_right xs (next s act) (all_left (xs ++ next s act) ys a) in
      let q' = subst (All (λ m. 0 < rank_at s p m)) (own-parts s p n (branch_at s n b) mine) q in
      let z = mine-cost (own s p n (branch_at s n b)) (map (rank_at s p) (parts act)) mine
      (map-every (ltb 0) (rank_at s p) (parts act) (all-mem _ _ λ m hm. lt-ltb _ _ (all_of q' hm))) in
      let w = choose-least (cost s p n (rank_at s p)) (candidates (node_at s n)) (in_candidates n b hb) (omega arith) in
      all_append (all_left xs (next s act) (all_left (xs ++ next s act) ys a))
      (cons (subst (λ c. 0 < c.rank) (sym (choice_is n (in_nodes s n b hb))) w.0) (all_right (xs ++ next s act) ys a))

  run-back : {xs ys : List ℕ} → Run (OwnStep s p) xs ys → All (λ m. 0 < rank_at s p m) ys → All (λ m. 0 < rank_at s p m) xs
  run-back done a = a
  run-back (more st r) a = step_back st (run-back r a)

  pub exit_ranked : (n : ℕ) → Exit s p n → 0 < rank_at s p n
  unfolding Exit
  exit_ranked n r = all_head (run-back r nil)

  pub ranked_exit : (n : ℕ) → 0 < rank_at s p n → Exit s p n
  ranked_exit n h = rank_exit (rank_at s p n) n h (omega arith)
