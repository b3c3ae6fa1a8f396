-- Reached nodes, by rounds, are those that occur in a run. Assumes nothing.
use mathlib.Core.Path.{◌≡◌, refl, sym, ap, ◌∙◌, subst}
use mathlib.Core.Logic.{◌⊎◌, inl, inr, ⊎_elim}
use Prim.Native.Nat.{ℕ, zero, suc, ◌≤◌, ◌<◌}
use native.Mathlib.Omega.{arith}
use mathlib.Core.Bool.{Bool, true, false, false≢true, cond}
use mathlib.Core.List.Memᴰ
use mathlib.Core.List.{List, [], ◌∷◌, ◌++◌, map, Memᴰ}
use lib.ListN.{length, get_or, length-map}
use lib.Dec.{eqb}
use borrow.Author.Tests.{eqb-true, eq-eqb}
use Rattle.bitml.specs.Lists.{◌&◌, ◌or◌, sum, any, below, All, nil, cons}
use Rattle.bitml.specs.Sheet.{Sheet, Action, withdraw, split, reveal, renew_as, branches_at, branch_at, no_branch, def_at, parts}
use Rattle.bitml.specs.Runs.{Step, step, Run, done, more, Reached, next}
use Rattle.bitml.specs.Promises.{WellFormed}
use Rattle.bitml.specs.Rule.{leads, round, rounds, reached}
use Rattle.bitml.proofs.Exits.{run_trans}
use Rattle.bitml.proofs.Lists.{and_l, and_r, and_i, or_l, or_r, or_cases, all_head, all_tail, all_append, all_left, all_right, all_of, all-mem, in_range, any-mem, mem-any, any_at_lem, at-any, mem-split, length_up, mem_up, up_mem, get_d_up}

-- ---- a round never loses a mark: it changes nothing, or there are more

abbrev count : List Bool → ℕ
count ms = sum (map (λ b. cond b 1 0) ms)

count-le : (ms : List Bool) → count ms ≤ length ms
count-le [] = omega arith
count-le (true ∷ ms) = let h = count-le ms in omega arith
count-le (false ∷ ms) = let h = count-le ms in omega arith

grows : (f g : ℕ → Bool) (ns : List ℕ) → All (λ n. f n ≡ true → g n ≡ true) ns → (map g ns ≡ map f ns) ⊎ (count (map f ns) < count (map g ns))
grows f g [] h = inl refl
grows f g (n ∷ ns) h = go (f n) refl (g n) refl (grows f g ns (all_tail h))
  where
    go : (a : Bool) → f n ≡ a → (b : Bool) → g n ≡ b → (map g ns ≡ map f ns) ⊎ (count (map f ns) < count (map g ns))
        → (map g (n ∷ ns) ≡ map f (n ∷ ns)) ⊎ (count (map f (n ∷ ns)) < count (map g (n ∷ ns)))
    go true e true e' (inl q) = inl (rw (e, e', q))
    go true e true e' (inr q) = inr (rw (e, e') (omega arith))
    go true e false e' q = absurd (false≢true (sym e' ∙ all_head h e))
    go false e true e' (inl q) = inr (rw (e, e', q) (omega arith))
    go false e true e' (inr q) = inr (rw (e, e') (omega arith))
    go false e false e' (inl q) = inl (rw (e, e', q))
    go false e false e' (inr q) = inr (rw (e, e') (omega arith))

module _ (s : Sheet) where
  abbrev N : ℕ
  N = length s.nodes

  -- round k as a function of the node
  mark : ℕ → ℕ → Bool
  mark zero n = eqb (def_at s 0).root n
  mark (suc k) n = get_or (rounds s k) n false or any (λ m. get_or (rounds s k) m false & leads s m n) (below N)

  rounds-map : (k : ℕ) → rounds s k ≡ map (mark k) (below N)
  unfolding rounds mark round
  rounds-map zero = refl
  rounds-map (suc k) = refl

  round-at : (k n : ℕ) → n < N → get_or (rounds s k) n false ≡ mark k n
  round-at k n h = rw (rounds-map k) (get_d_up (mark k) false 0 N n n (omega arith) h)

  marked_in : (k n : ℕ) → get_or (rounds s k) n false ≡ true → n < N
  marked_in k n e =
      let h : n < length (map (mark k) (below N)) = in_range (λ b. b) (map (mark k) (below N)) n false refl (rw (rounds-map k) at e) in
      omega (arith, length-map (below N) (mark k), length_up 0 N)

  rounds-length : (k : ℕ) → length (rounds s k) ≡ N
  rounds-length k = rw (rounds-map k) (length-map (below N) (mark k) ∙ length_up 0 N)

  round-more : (k : ℕ) → (rounds s (suc k) ≡ rounds s k) ⊎ (count (rounds s k) < count (rounds s (suc k)))
  unfolding mark
  round-more k =
      rw (rounds-map k, rounds-map (suc k))
      (grows (mark k) (mark (suc k)) (below N) (all-mem _ _ λ n hn e. or_l _ _ (round-at k n (omega (arith, all_of (up_mem 0 N) hn)) ∙ e)))

  stable_or : (k : ℕ) → (rounds s (suc k) ≡ rounds s k) ⊎ (k < count (rounds s (suc k)))
  unfolding rounds
  stable_or zero = ⊎_elim inl (λ h. inr (omega arith)) (round-more zero)
  stable_or (suc k) = go (stable_or k) (round-more (suc k))
    where
      go : (rounds s (suc k) ≡ rounds s k) ⊎ (k < count (rounds s (suc k)))
          → (rounds s (suc (suc k)) ≡ rounds s (suc k)) ⊎ (count (rounds s (suc k)) < count (rounds s (suc (suc k))))
          → (rounds s (suc (suc k)) ≡ rounds s (suc k)) ⊎ (suc k < count (rounds s (suc (suc k))))
      go (inl e) q = inl (ap (round s) e)
      go (inr h) (inl e) = inl e
      go (inr h) (inr h') = inr (omega arith)

  stable : rounds s (suc N) ≡ rounds s N
  stable = ⊎_elim (λ e. e) (λ h. absurd (omega (arith, count-le (rounds s (suc N)), rounds-length (suc N)))) (stable_or N)

  -- ---- marked nodes are reached

  start-reached : Reached s (def_at s 0).root
  start-reached = record { list = (def_at s 0).root ∷ []; run = done; there = Memᴰ.head refl }

  next-reached : (m b n : ℕ) → b < length (branches_at s m) → Memᴰ n (next s (branch_at s m b).action) → Reached s m → Reached s n
  next-reached m b n hb hn r =
      let w = mem-split r.there in
      record {
        list = w.0 ++ next s (branch_at s m b).action ++ w.1;
        run = run_trans r.run (more (subst (λ xs. Step s xs (w.0 ++ next s (branch_at s m b).action ++ w.1)) (sym w.2) (step w.0 w.1 m b hb)) done);
        there = Memᴰ.append_left w.1 (Memᴰ.append_right w.0 hn);
      }

  leads-reached : (m n : ℕ) → leads s m n ≡ true → Reached s m → Reached s n
  leads-reached m n e r =
      let w = any_at_lem (λ br. any (eqb n) (next s br.action)) (branches_at s m) no_branch e in
      let v = any-mem (eqb n) (next s (branch_at s m w.0).action) w.2 in
      next-reached m w.0 n w.1 (subst (λ a. Memᴰ a (next s (branch_at s m w.0).action)) (sym (eqb-true n v.0 v.2)) v.1) r

  -- what holds of the root, stays, and goes from a node to those that it leads to, holds of every marked node
  pub marked_all : (Q : ℕ → ℕ → Type 0) → Q 0 (def_at s 0).root → ((k n : ℕ) → Q k n → Q (suc k) n)
      → ((k m n : ℕ) → leads s m n ≡ true → Q k m → Q (suc k) n) → (k n : ℕ) → get_or (rounds s k) n false ≡ true → Q k n
  unfolding mark
  marked_all Q start stays goes zero n e = subst (Q 0) (eqb-true (def_at s 0).root n (sym (round-at zero n (marked_in zero n e)) ∙ e)) start
  marked_all Q start stays goes (suc k) n e = go (or_cases _ _ (sym (round-at (suc k) n (marked_in (suc k) n e)) ∙ e)) (marked_all Q start stays goes k)
    where
      go : (get_or (rounds s k) n false ≡ true) ⊎ (any (λ m. get_or (rounds s k) m false & leads s m n) (below N) ≡ true)
          → ((m : ℕ) → get_or (rounds s k) m false ≡ true → Q k m) → Q (suc k) n
      go (inl h) f = stays k n (f n h)
      go (inr h) f = let w = any-mem (λ m. get_or (rounds s k) m false & leads s m n) (below N) h in goes k w.0 n (and_r _ _ w.2) (f w.0 (and_l _ _ w.2))

  pub reached-sound : (n : ℕ) → reached s n ≡ true → Reached s n
  unfolding reached
  reached-sound n e = marked_all (λ k n. Reached s n) start-reached (λ k n r. r) (λ k m n l r. leads-reached m n l r) N n e

  -- ---- reached nodes are marked

  module _ (wf : WellFormed s) where
    kept : (k n : ℕ) → get_or (rounds s k) n false ≡ true → get_or (rounds s (suc k)) n false ≡ true
    unfolding mark
    kept k n e = round-at (suc k) n (marked_in k n e) ∙ or_l _ _ e

    root-marked : (k : ℕ) → get_or (rounds s k) (def_at s 0).root false ≡ true
    unfolding mark
    root-marked zero = round-at zero _ (wf.root_in 0 wf.some-def) ∙ eq-eqb (def_at s 0).root _ refl
    root-marked (suc k) = kept k _ (root-marked k)

    pub reached-next : (m n : ℕ) → n < N → reached s m ≡ true → leads s m n ≡ true → reached s n ≡ true
    unfolding reached mark
    reached-next m n hn e l =
        subst (λ ms. get_or ms n false ≡ true) stable
        (round-at (suc N) n hn ∙ or_r _ _ (mem-any (λ m. get_or (rounds s N) m false & leads s m n) (below N) (mem_up 0 N m (omega arith) (omega (arith, marked_in N m e))) (and_i _ _ e l)))

    next_in : (a : Action) → ((m : ℕ) → Memᴰ m (parts a) → m < N) → ((d : ℕ) → a ≡ renew_as d → d < length s.defs) → (m : ℕ) → Memᴰ m (next s a) → m < N
    next_in (withdraw p) f g m h = f m h
    next_in (split qs) f g m h = f m h
    next_in (reveal js c n) f g m h = f m h
    next_in (renew_as d) f g m h = rw (Memᴰ.eq_of_singleton h) (wf.root_in d (g d refl))

    pub branch_in_lem : (n b m : ℕ) → b < length (branches_at s n) → Memᴰ m (next s (branch_at s n b).action) → m < N
    branch_in_lem n b m hb = next_in (branch_at s n b).action (λ m hm. (wf.part_after n b m hb hm).1) (λ d e. wf.renewal_in n b d hb e) m

    pub branch-reached : (n b m : ℕ) → b < length (branches_at s n) → Memᴰ m (next s (branch_at s n b).action) → reached s n ≡ true → reached s m ≡ true
    branch-reached n b m hb hm e =
        reached-next n m (branch_in_lem n b m hb hm) e
        (at-any (λ br. any (eqb m) (next s br.action)) (branches_at s n) b no_branch hb (mem-any (eqb m) _ hm (eq-eqb m m refl)))

    step-marks : {xs ys : List ℕ} → Step s xs ys → All (λ n. reached s n ≡ true) xs → All (λ n. reached s n ≡ true) ys
    step-marks (step xs ys n b hb) a =
        all_append (all_append (all_left xs _ a) (all-mem _ _ λ m hm. branch-reached n b m hb hm (all_head (all_right xs _ a)))) (all_tail (all_right xs _ a))

    run-marks : {xs ys : List ℕ} → Run (Step s) xs ys → All (λ n. reached s n ≡ true) xs → All (λ n. reached s n ≡ true) ys
    run-marks done a = a
    run-marks (more st r) a = run-marks r (step-marks st a)

    pub reached_complete : (n : ℕ) → Reached s n → reached s n ≡ true
    unfolding reached
    reached_complete n r = all_of (run-marks r.run (cons (root-marked N) nil)) r.there

    pub root-reached : reached s (def_at s 0).root ≡ true
    unfolding reached
    root-reached = root-marked N

  pub reached_in : (n : ℕ) → reached s n ≡ true → n < N
  unfolding reached
  reached_in n e = marked_in N n e
