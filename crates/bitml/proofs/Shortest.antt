-- The computed steps are a run to the node, a shortest one, and the first of those. Assumes nothing.
use mathlib.Core.Path.{◌≡◌, refl, sym, ap, ◌∙◌, subst, subst₂}
use mathlib.Core.Logic.{◌⊎◌, inl, inr, ⊎_elim, by_cases}
use Prim.Native.Nat.{ℕ, zero, suc, ◌+◌, ◌≤◌, ◌<◌}
use native.Mathlib.Omega.{arith}
use native.Mathlib.Decide.{dec_le}
use mathlib.Core.Bool.{Bool, true, false, false≢true, cond}
use mathlib.Core.List.{List, [], ◌∷◌, ◌++◌, Memᴰ}
use lib.ListN.{length, get_or}
use lib.Dec.{eqb}
use borrow.Author.Tests.{eqb-true, eq-eqb}
use Rattle.bitml.specs.Lists.{◌&◌, any}
use Rattle.bitml.specs.Sheet.{Sheet, branches_at, branch_at, no_branch, def_at}
use Rattle.bitml.specs.Runs.{Step, step, Run, done, more, next}
use Rattle.bitml.specs.Rule.{rounds, reached, leads}
use Rattle.bitml.specs.Why.{Move, moves, LeadsTo, NotAfter, ended, by_node, by_branch, by_rest, FirstShortest, near, lowest, node_toward, branch_toward, trail, distance, steps_to}
use Rattle.bitml.proofs.Lists.{is_false, and_l, and_r, and_i, or_l, or_r, or_cases, or_no_l, any-mem, mem-any, any_at_lem, at-any, mem-split}
use Rattle.bitml.proofs.Exits.{in_nodes}
use Rattle.bitml.proofs.Reach.{marked_all}

-- ---- the lowest number that passes

module _ (t : ℕ → Bool) where
  pub lowest_hit : (k n i : ℕ) → t i ≡ true → k ≤ i → i ≤ k + n → t (lowest t k n) ≡ true
  unfolding lowest
  lowest_hit k zero i e h h' = let q : i ≡ k = omega arith in rw q at e
  lowest_hit k (suc n) i e h h' = go (t k) refl (lowest_hit (suc k) n i e)
    where
      go : (b : Bool) → t k ≡ b → (suc k ≤ i → i ≤ suc k + n → t (lowest t (suc k) n) ≡ true) → t (cond b k (lowest t (suc k) n)) ≡ true
      go true q f = q
      go false q f =
          by_cases (dec_le i k) (λ c. absurd (let z : i ≡ k = omega arith in false≢true (sym q ∙ (rw z at e)))) (λ c. f (omega arith) (omega arith))

  pub lowest-none : (k n i : ℕ) → k ≤ i → i < lowest t k n → t i ≡ false
  unfolding lowest
  lowest-none k zero i h h' = absurd (omega arith)
  lowest-none k (suc n) i h h' = go (t k) refl (lowest-none (suc k) n i) h'
    where
      go : (b : Bool) → t k ≡ b → (suc k ≤ i → i < lowest t (suc k) n → t i ≡ false) → i < cond b k (lowest t (suc k) n) → t i ≡ false
      go true q f l = absurd (omega arith)
      go false q f l = by_cases (dec_le i k) (λ c. let z : i ≡ k = omega arith in rw z q) (λ c. f (omega arith) l)

  pub lowest-le : (n i : ℕ) → t i ≡ true → lowest t 0 n ≤ i
  lowest-le n i e = by_cases (dec_le (lowest t 0 n) i) (λ h. h) (λ h. absurd (false≢true (sym (lowest-none 0 n i (omega arith) (omega arith)) ∙ e)))

  pub lowest-is : (n i : ℕ) → t i ≡ true → ((j : ℕ) → j < i → t j ≡ false) → i ≤ n → lowest t 0 n ≡ i
  lowest-is n i e f h = by_cases (dec_le i (lowest t 0 n)) (λ l. omega (arith, lowest-le n i e))
      (λ l. absurd (false≢true (sym (f (lowest t 0 n) (omega arith)) ∙ lowest_hit 0 n i e (omega arith) (omega arith))))

-- a list of three: in the middle, or at the sides
mid_cases : {m : ℕ} (ps xs qs : List ℕ) → Memᴰ m (ps ++ xs ++ qs) → (Memᴰ m ps ⊎ Memᴰ m qs) ⊎ Memᴰ m xs
mid_cases ps xs qs h = ⊎_elim (λ a. ⊎_elim (λ b. inl (inl b)) inr (mathlib.Core.List.Memᴰ.append_cases ps a)) (λ b. inl (inr b)) (mathlib.Core.List.Memᴰ.append_cases (ps ++ xs) h)

module _ (s : Sheet) (t : ℕ) where
  pub near-there : near s t 0 t ≡ true
  unfolding near
  near-there = eq-eqb t t refl

  pub near-is : (n : ℕ) → near s t 0 n ≡ true → n ≡ t
  unfolding near
  near-is n e = eqb-true n t e

  pub near-more : (k n : ℕ) → near s t k n ≡ true → near s t (suc k) n ≡ true
  unfolding near
  near-more k n e = or_l _ _ e

  near-less : (k n : ℕ) → near s t (suc k) n ≡ false → near s t k n ≡ false
  unfolding near
  near-less k n e = or_no_l _ _ e

  pub near_step : (k n b m : ℕ) → b < length (branches_at s n) → Memᴰ m (next s (branch_at s n b).action) → near s t k m ≡ true → near s t (suc k) n ≡ true
  unfolding near
  near_step k n b m hb hm e =
      or_r _ _ (at-any (λ br. any (near s t k) (next s br.action)) (branches_at s n) b no_branch hb (mem-any (near s t k) _ hm e))

  -- a node that k + 1 steps serve and k don't has a branch
  pub near-branch : (k n : ℕ) → near s t (suc k) n ≡ true → near s t k n ≡ false
      → (b : ℕ) × (b < length (branches_at s n)) × (any (near s t k) (next s (branch_at s n b).action) ≡ true)
  unfolding near
  near-branch k n e f =
      any_at_lem (λ br. any (near s t k) (next s br.action)) (branches_at s n) no_branch
      (⊎_elim (λ h. absurd (false≢true (sym f ∙ h))) (λ h. h) (or_cases _ _ e))

  -- no node of the list serves with a step less
  abbrev Far : ℕ → List ℕ → Type 0
  Far zero zs = Unit {0}
  Far (suc k) zs = (m : ℕ) → Memᴰ m zs → near s t k m ≡ false

  near-not : (k n b m : ℕ) → b < length (branches_at s n) → Memᴰ m (next s (branch_at s n b).action) → near s t (suc k) n ≡ false → near s t k m ≡ false
  near-not k n b m hb hm f = go (near s t k m) refl
    where
      go : (v : Bool) → near s t k m ≡ v → v ≡ false
      go true e = absurd (false≢true (sym f ∙ near_step k n b m hb hm e))
      go false e = refl

  far_next : (k n b : ℕ) → b < length (branches_at s n) → near s t k n ≡ false → Far k (next s (branch_at s n b).action)
  far_next zero n b hb f = tt
  far_next (suc k) n b hb f = λ m hm. near-not k n b m hb hm f

  far_after : (k n b : ℕ) (ps qs : List ℕ) → b < length (branches_at s n) → Far (suc k) (ps ++ n ∷ qs) → Far k (ps ++ next s (branch_at s n b).action ++ qs)
  far_after zero n b ps qs hb far = tt
  far_after (suc k) n b ps qs hb far =
      λ m hm. ⊎_elim (⊎_elim (λ h. near-less k m (far m (mathlib.Core.List.Memᴰ.append_left (n ∷ qs) h))) (λ h. near-less k m (far m (mathlib.Core.List.Memᴰ.append_right ps (mathlib.Core.List.Memᴰ.tail h)))))
      (λ h. near-not k n b m hb h (far n (mathlib.Core.List.Memᴰ.append_right ps (mathlib.Core.List.Memᴰ.head refl)))) (mid_cases ps (next s (branch_at s n b).action) qs hm)

  -- ---- no run is shorter than the distance

  near-run : {xs zs : List ℕ} (r : Run (Step s) xs zs) → Memᴰ t zs → (m : ℕ) × Memᴰ m xs × (near s t (length (moves r)) m ≡ true)
  near-run done h = (t, h, near-there)
  near-run (more (step ps qs n b hb) r) h =
      let w = near-run r h in
      ⊎_elim (⊎_elim (λ a. (w.0, mathlib.Core.List.Memᴰ.append_left (n ∷ qs) a, near-more _ _ w.2)) (λ a. (w.0, mathlib.Core.List.Memᴰ.append_right ps (mathlib.Core.List.Memᴰ.tail a), near-more _ _ w.2)))
      (λ a. (n, mathlib.Core.List.Memᴰ.append_right ps (mathlib.Core.List.Memᴰ.head refl), near_step _ n b w.0 hb a w.2)) (mid_cases ps (next s (branch_at s n b).action) qs w.1)

  -- ---- the steps are a run

  -- where k + 1 steps serve a node of xs and k serve none: the lowest such node, and its lowest branch
  record Goes (k : ℕ) (xs : List ℕ) (n b : ℕ) : Type 0 where
    listed : Memᴰ n xs
    there : b < length (branches_at s n)
    serves : any (near s t k) (next s (branch_at s n b).action) ≡ true

  branch_toward_lem : (k n : ℕ) → near s t (suc k) n ≡ true → near s t k n ≡ false
      → (branch_toward s t k n < length (branches_at s n)) × (any (near s t k) (next s (branch_at s n (branch_toward s t k n)).action) ≡ true)
  unfolding branch_toward
  branch_toward_lem k n e f =
      let w = near-branch k n e f in
      let test : ℕ → Bool = λ b. any (near s t k) (next s (branch_at s n b).action) in (
        omega (arith, lowest-le test (length (branches_at s n)) w.0 w.2, w.1),
        lowest_hit test 0 (length (branches_at s n)) w.0 w.2 (omega arith) (omega (arith, w.1)),
      )

  lowest-branch : (k n b : ℕ) → any (near s t k) (next s (branch_at s n b).action) ≡ true → branch_toward s t k n ≤ b
  unfolding branch_toward
  lowest-branch k n b e = lowest-le (λ b. any (near s t k) (next s (branch_at s n b).action)) (length (branches_at s n)) b e

  goes : (k : ℕ) (xs : List ℕ) (m : ℕ) → Memᴰ m xs → near s t (suc k) m ≡ true → Far (suc k) xs
      → Goes k xs (node_toward s t k xs) (branch_toward s t k (node_toward s t k xs))
  unfolding node_toward
  goes k xs m hm e far =
      let test : ℕ → Bool = λ n. any (eqb n) xs & near s t (suc k) n in
      let w = near-branch k m e (far m hm) in
      let n = lowest test 0 (length s.nodes) in
      let hit = lowest_hit test 0 (length s.nodes) m (and_i _ _ (mem-any (eqb m) xs hm (eq-eqb m m refl)) e) (omega arith) (omega (arith, in_nodes s m w.0 w.1)) in
      let v = any-mem (eqb n) xs (and_l _ _ hit) in
      let hn : Memᴰ n xs = subst (λ a. Memᴰ a xs) (sym (eqb-true n v.0 v.2)) v.1 in
      let b = branch_toward_lem k n (and_r _ _ hit) (far n hn) in
      record { listed = hn; there = b.0; serves = b.1 }

  trail-run : (k : ℕ) (xs zs : List ℕ) → ((m : ℕ) → Memᴰ m xs → Memᴰ m zs) → (m : ℕ) → Memᴰ m xs → near s t k m ≡ true → Far k xs
      → LeadsTo s zs t (trail s t k xs)
  unfolding trail
  trail-run zero xs zs f m hm e far = record { list = zs; run = done; there = subst (λ a. Memᴰ a zs) (near-is m e) (f m hm); written = refl }
  trail-run (suc k) xs zs f m hm e far =
      let n = node_toward s t k xs in
      let b = branch_toward s t k n in
      let ns = next s (branch_at s n b).action in
      let g = goes k xs m hm e far in
      let w = mem-split (f n g.listed) in
      let v = any-mem (near s t k) ns g.serves in
      let r = trail-run k ns (w.0 ++ ns ++ w.1) (λ a ha. mathlib.Core.List.Memᴰ.append_left w.1 (mathlib.Core.List.Memᴰ.append_right w.0 ha)) v.0 v.1 v.2
      (far_next k n b g.there (far n g.listed)) in
      let q : LeadsTo s (w.0 ++ n ∷ w.1) t (trail s t (suc k) xs) =
      record { list = r.list; run = more (step w.0 w.1 n b g.there) r.run; there = r.there; written = ap (λ ms. record { node = n; branch = b } ∷ ms) r.written } in
      subst (λ zs. LeadsTo s zs t (trail s t (suc k) xs)) (sym w.2) q

  pub trail-length : (k : ℕ) (xs : List ℕ) → length (trail s t k xs) ≡ k
  unfolding trail
  trail-length zero xs = refl
  trail-length (suc k) xs = ap suc (trail-length k _)

  lowest-listed : (k n : ℕ) (ns : List ℕ) → n < length s.nodes → Memᴰ n ns → near s t k n ≡ true → ((m : ℕ) → Memᴰ m ns → near s t k m ≡ true → n ≤ m)
      → lowest (λ m. any (eqb m) ns & near s t k m) 0 (length s.nodes) ≡ n
  lowest-listed k n ns hn hm e f =
      lowest-is (λ m. any (eqb m) ns & near s t k m) (length s.nodes) n (and_i _ _ (mem-any (eqb n) ns hm (eq-eqb n n refl)) e)
      (λ j hj. is_false _ (λ z.
      let v = any-mem (eqb j) ns (and_l _ _ z) in
      let hm' : Memᴰ j ns = subst (λ a. Memᴰ a ns) (sym (eqb-true j v.0 v.2)) v.1 in
      let l = f j hm' (and_r _ _ z) in omega arith)) (omega arith)

  only : (k n : ℕ) → n < length s.nodes → near s t (suc k) n ≡ true → lowest (λ m. any (eqb m) (n ∷ []) & near s t (suc k) m) 0 (length s.nodes) ≡ n
  only k n hn e = lowest-listed (suc k) n (n ∷ []) hn (mathlib.Core.List.Memᴰ.head refl) e (λ m hm q. let z = mathlib.Core.List.Memᴰ.eq_of_singleton hm in omega arith)

  -- where k + 1 steps serve node n: its step, and the rest from what that makes
  pub trail-one : (k n b : ℕ) → n < length s.nodes → near s t (suc k) n ≡ true → branch_toward s t k n ≡ b
      → trail s t (suc k) (n ∷ []) ≡ record { node = n; branch = b } ∷ trail s t k (next s (branch_at s n b).action)
  unfolding trail node_toward
  trail-one k n b hn e q =
      let z : lowest (λ m. any (eqb m) (n ∷ []) & near s t (suc k) m) 0 (length s.nodes) ≡ n = only k n hn e in
      rw (z, q)

  -- the lowest node alone stands for all that serve
  pub trail-lowest : (k n : ℕ) (ns : List ℕ) → n < length s.nodes → Memᴰ n ns → near s t k n ≡ true → ((m : ℕ) → Memᴰ m ns → near s t k m ≡ true → n ≤ m)
      → trail s t k ns ≡ trail s t k (n ∷ [])
  unfolding trail node_toward
  trail-lowest zero n ns hn hm e f = refl
  trail-lowest (suc k) n ns hn hm e f =
      let z : lowest (λ m. any (eqb m) ns & near s t (suc k) m) 0 (length s.nodes) ≡ n = lowest-listed (suc k) n ns hn hm e f in
      let y : lowest (λ m. any (eqb m) (n ∷ []) & near s t (suc k) m) 0 (length s.nodes) ≡ n = only k n hn e in
      rw (z, y)

  -- ---- and the first of the shortest

  -- one step and the rest against the first step and the rest
  first-branch : (k n b b' : ℕ) (ks : List Move) → b' ≤ b → NotAfter (trail s t k (next s (branch_at s n b).action)) ks
      → NotAfter (record { node = n; branch = b' } ∷ trail s t k (next s (branch_at s n b').action)) (record { node = n; branch = b } ∷ ks)
  first-branch k n b b' ks h r = by_cases (dec_le b b')
      (λ c. let e : b' ≡ b = omega arith in rw e (by_rest r))
      (λ c. by_branch refl (omega arith))

  first-node : (k n b n' : ℕ) (ks : List Move) → n' ≤ n → branch_toward s t k n ≤ b → NotAfter (trail s t k (next s (branch_at s n b).action)) ks
      → NotAfter (record { node = n'; branch = branch_toward s t k n' } ∷ trail s t k (next s (branch_at s n' (branch_toward s t k n')).action)) (record { node = n; branch = b } ∷ ks)
  first-node k n b n' ks h hb r = by_cases (dec_le n n')
      (λ c. let e : n' ≡ n = omega arith in rw e (first-branch k n b (branch_toward s t k n) ks hb r))
      (λ c. by_node (omega arith))

  -- Far holds of the whole list zs, and what still serves in it stands in xs: the other nodes are off the way
  not_after : (k : ℕ) (xs : List ℕ) {zs list : List ℕ} (r : Run (Step s) zs list) → Memᴰ t list → length (moves r) ≡ k
      → ((m : ℕ) → Memᴰ m zs → near s t k m ≡ true → Memᴰ m xs) → Far k zs
      → NotAfter (trail s t k xs) (moves r)
  unfolding trail node_toward
  not_after zero xs done h e on far = ended
  not_after zero xs (more st r) h e on far = absurd (omega arith)
  not_after (suc k) xs done h e on far = absurd (omega arith)
  not_after (suc k) xs (more (step ps qs n b hb) r) h e on far =
      let ns = next s (branch_at s n b).action in
      let len : length (moves r) ≡ k = omega arith in
      let made : (m : ℕ) → Memᴰ m (ps ++ ns ++ qs) → near s t k m ≡ true → Memᴰ m ns = λ m hm q.
      ⊎_elim (⊎_elim (λ a. absurd (false≢true (sym (far m (mathlib.Core.List.Memᴰ.append_left (n ∷ qs) a)) ∙ q))) (λ a. absurd (false≢true (sym (far m (mathlib.Core.List.Memᴰ.append_right ps (mathlib.Core.List.Memᴰ.tail a))) ∙ q))))
      (λ a. a) (mid_cases ps ns qs hm) in
      let w = near-run r h in
      let nm : near s t k w.0 ≡ true = subst (λ j. near s t j w.0 ≡ true) len w.2 in
      let hm = made w.0 w.1 nm in
      let nn = near_step k n b w.0 hb hm nm in
      let hn = on n (mathlib.Core.List.Memᴰ.append_right ps (mathlib.Core.List.Memᴰ.head refl)) nn in
      first-node k n b (node_toward s t k xs) (moves r)
      (lowest-le (λ n. any (eqb n) xs & near s t (suc k) n) (length s.nodes) n (and_i _ _ (mem-any (eqb n) xs hn (eq-eqb n n refl)) nn))
      (lowest-branch k n b (mem-any (near s t k) ns hm nm)) (not_after k ns r h len made (far_after k n b ps qs hb far))

  -- ---- from the root

  -- a chain to t from a node that round k marks
  pub root-near : (k n : ℕ) → get_or (rounds s k) n false ≡ true → (j i : ℕ) → i ≡ k + j → near s t j n ≡ true → near s t i (def_at s 0).root ≡ true
  root-near = marked_all s (λ k n. (j i : ℕ) → i ≡ k + j → near s t j n ≡ true → near s t i (def_at s 0).root ≡ true)
      (λ j i e h. let q : i ≡ j = omega arith in rw q h)
      (λ k n f j i e h. let q : i ≡ suc (k + j) = omega arith in rw q (near-more (k + j) _ (f j (k + j) refl h)))
      (λ k m n l f j i e h. f (suc j) i (omega arith) (leads-near m n j l h))
    where
      leads-near : (m n j : ℕ) → leads s m n ≡ true → near s t j n ≡ true → near s t (suc j) m ≡ true
      leads-near m n j l h =
          let w = any_at_lem (λ br. any (eqb n) (next s br.action)) (branches_at s m) no_branch l in
          let v = any-mem (eqb n) (next s (branch_at s m w.0).action) w.2 in
          near_step j m w.0 n w.1 (subst (λ a. Memᴰ a (next s (branch_at s m w.0).action)) (sym (eqb-true n v.0 v.2)) v.1) h

  -- a reached node is as near to the root as there are nodes
  pub reached-near : reached s t ≡ true → near s t (length s.nodes) (def_at s 0).root ≡ true
  unfolding reached
  reached-near e = let N = length s.nodes in root-near N t e 0 N (omega arith) near-there

  -- and its distance is the number of steps that serve while no fewer do
  pub distance_is : reached s t ≡ true → (d : ℕ) → near s t d (def_at s 0).root ≡ true → ((k : ℕ) → k < d → near s t k (def_at s 0).root ≡ false) → distance s t ≡ d
  unfolding distance
  distance_is e d hit none =
      let N = length s.nodes in
      let test : ℕ → Bool = λ k. near s t k (def_at s 0).root in
      lowest-is test N d hit none (by_cases (dec_le d N) (λ h. h) (λ h. absurd (false≢true (sym (none N (omega arith)) ∙ reached-near e))))

  pub steps_first : reached s t ≡ true → FirstShortest s ((def_at s 0).root ∷ []) t (steps_to s t)
  unfolding steps_to distance
  steps_first e =
      let root = (def_at s 0).root in
      let N = length s.nodes in
      let test : ℕ → Bool = λ k. near s t k root in
      let d = lowest test 0 N in
      let hit : near s t d root ≡ true = lowest_hit test 0 N N (reached-near e) (omega arith) (omega arith) in
      let far : (k : ℕ) → k ≡ d → Far k (root ∷ []) = far_root d (λ i. lowest-none test 0 N i (omega arith)) in
      record {
        leads = trail-run d (root ∷ []) (root ∷ []) (λ m h. h) root (mathlib.Core.List.Memᴰ.head refl) hit (far d refl);
        shortest = λ ks l.
            let w = near-run l.run l.there in
            let q : near s t (length ks) root ≡ true =
            subst₂ (λ ms m. near s t (length ms) m ≡ true) l.written (mathlib.Core.List.Memᴰ.eq_of_singleton w.1) w.2 in
            omega (arith, trail-length d (root ∷ []), lowest-le test N (length ks) q);
        first = λ ks l h. subst (NotAfter _) l.written (against d far ks l h);
      }
    where
      far_root : (d : ℕ) → ((i : ℕ) → i < d → near s t i (def_at s 0).root ≡ false) → (k : ℕ) → k ≡ d → Far k ((def_at s 0).root ∷ [])
      far_root d f zero q = tt
      far_root d f (suc k) q = λ m hm. rw (mathlib.Core.List.Memᴰ.eq_of_singleton hm) (f k (omega arith))

      against : (d : ℕ) → ((k : ℕ) → k ≡ d → Far k ((def_at s 0).root ∷ [])) → (ks : List Move) (l : LeadsTo s ((def_at s 0).root ∷ []) t ks)
          → length ks ≡ length (trail s t d ((def_at s 0).root ∷ []))
          → NotAfter (trail s t d ((def_at s 0).root ∷ [])) (moves l.run)
      against d far ks l h =
          not_after d ((def_at s 0).root ∷ []) l.run l.there (ap (λ ms. length ms) l.written ∙ h ∙ trail-length d _) (λ m hm e. hm) (far d refl)
