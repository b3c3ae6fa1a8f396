-- Reached nodes are those of the definitions whose root is reached. Assumes nothing.
use mathlib.Core.Path.{◌≡◌, refl, sym, ap, subst}
use mathlib.Core.Logic.{◌⊎◌, inl, inr, by_cases}
use Prim.Native.Nat.{ℕ, zero, suc, ◌≤◌, ◌<◌}
use native.Mathlib.Omega.{arith}
use native.Mathlib.Decide.{dec_le}
use mathlib.Core.Bool.{true}
use mathlib.Core.List.Memᴰ
use mathlib.Core.List.{List, [], ◌∷◌, Memᴰ}
use lib.ListN.{length, get_or}
use Rattle.bitml.specs.Lists.{All, nil, cons}
use Rattle.bitml.specs.Sheet.{Sheet, Action, withdraw, split, reveal, renew_as, parts}
use Rattle.bitml.specs.Runs.{next, Step, step, Run, done, more}
use Rattle.bitml.specs.Rule.{reached}
use Rattle.bitml.proofs.Reach.{reached-sound, reached_in, branch-reached, root-reached}
use Rattle.bitml.proofs.Lists.{all_head, all_tail, all_left, all_right, all_append, all_of, all-mem}
use Rattle.tables.specs.Entries.{Entries}
use Rattle.tables.specs.SheetOf.{sheet_of, branch_of, action_of, node_entry_at, branch_entry_at, def_entry_at, branch_count, branch_number}
use Rattle.tables.proofs.SheetOf.{nodes-are, count_of, branch_of_lem, branch-small, root_is, next-renewal}
use Rattle.reading.specs.Promises.{Promises, Inside}
use Rattle.reading.proofs.Formed.{contract_in, contract_of_lem, well_formed_lem}
use Rattle.reached.specs.Marks.{DefReached, Marked, BranchLed, NodeLed, DefLed, LedUpTo, Spread, MarksReached}

pub parts_next : (s : Sheet) (a : Action) (m : ℕ) → Memᴰ m (parts a) → Memᴰ m (next s a)
parts_next s (withdraw p) m h = h
parts_next s (split qs) m h = h
parts_next s (reveal js c n) m h = h
parts_next s (renew_as d) m h = absurd (Memᴰ.not-nil h)

-- a branch that renews nothing leads to the contracts in it
pub next-parts : (s : Sheet) (E : Entries) (b m : ℕ) → (branch_entry_at E b).kind < 3 → Memᴰ m (next s (branch_of E b).action) → Memᴰ m (parts (branch_of E b).action)
unfolding branch_of action_of
next-parts s E b m = go (branch_entry_at E b).kind
  where
    go : (k : ℕ) → k < 3 → Memᴰ m (next s (action_of E b k)) → Memᴰ m (parts (action_of E b k))
    go zero l h = h
    go (suc zero) l h = h
    go (suc (suc zero)) l h = h
    go (suc (suc (suc k))) l h = absurd (omega arith)

module _ (K : ℕ) (E : Entries) (ok : Promises K E) where
  -- what branch i of a reached node leads to is reached
  next-reached : (n i m : ℕ) → n < length E.nodes → i < branch_count E n → Memᴰ m (next (sheet_of K E) (branch_of E (branch_number E n i)).action)
      → reached (sheet_of K E) n ≡ true → reached (sheet_of K E) m ≡ true
  next-reached n i m hn hi h =
      branch-reached (sheet_of K E) (well_formed_lem K E ok) n i m (subst (λ c. i < c) (sym (count_of K E n hn)) hi)
      (subst (λ br. Memᴰ m (next (sheet_of K E) br.action)) (sym (branch_of_lem K E n i hn hi)) h)

  pub renews : (n i : ℕ) → n < length E.nodes → i < branch_count E n → reached (sheet_of K E) n ≡ true → (branch_entry_at E (branch_number E n i)).kind ≡ 3
      → DefReached K E (branch_entry_at E (branch_number E n i)).arg
  renews n i hn hi e k =
      let b = branch_number E n i in
      let hd = ((ok.branch b (branch-small E n i hi)).renew k).definition in
      let d = (branch_entry_at E b).arg in
      record {
        there = hd;
        root = next-reached n i (def_entry_at E d).root hn hi (subst (Memᴰ (def_entry_at E d).root) (sym (next-renewal E b K k hd)) (Memᴰ.head refl)) e;
      }

  -- ---- the nodes of a definition

  abbrev FromRoot : ℕ → Type 0
  FromRoot n =
      ((def_entry_at E (node_entry_at E n).definition).root ≤ n)
      × (reached (sheet_of K E) (def_entry_at E (node_entry_at E n).definition).root ≡ true → reached (sheet_of K E) n ≡ true)

  -- a node is not before the root of its definition, and is reached where the root is
  from_root : (k n : ℕ) → n < k → n < length E.nodes → FromRoot n
  from_root zero n h hn = absurd (omega arith)
  from_root (suc k) n h hn = go (ok.node n hn).place (from_root k)
    where
      go : (n ≡ (def_entry_at E (node_entry_at E n).definition).root) ⊎ Inside E n → ((m : ℕ) → m < k → m < length E.nodes → FromRoot m) → FromRoot n
      go (inl e) f = (omega arith, λ r. subst (λ m. reached (sheet_of K E) m ≡ true) (sym e) r)
      go (inr w') f =
          let w = contract_of_lem K E ok n hn w' in
          let m = w.node in
          let hm : m < length E.nodes = omega (arith, w.before) in
          let ih = f m (omega (arith, w.before)) hm in
          let e = ap (λ d. (def_entry_at E d).root) (contract_in K E ok m w.place n w.there w.part).2 in (
            omega (arith, w.before, ih.0),
            λ r.
                next-reached m w.place n hm w.there (parts_next (sheet_of K E) (branch_of E (branch_number E m w.place)).action n w.part)
                (ih.1 (subst (λ x. reached (sheet_of K E) x ≡ true) e r)),
          )

  pub node-reached : (n d : ℕ) → n < length E.nodes → (node_entry_at E n).definition ≡ d → DefReached K E d → reached (sheet_of K E) n ≡ true
  node-reached n d hn e r = (from_root (suc n) n (omega arith) hn).1 (subst (λ d. reached (sheet_of K E) (def_entry_at E d).root ≡ true) (sym e) r.root)

  -- a definition's nodes stand one behind the other
  pub def-all : (M : List ℕ) (d n : ℕ) → d < length E.defs → (def_entry_at E d).root ≤ n → (n < length E.nodes → (node_entry_at E n).definition ≡ d → ⊥)
      → DefLed E M d (def_entry_at E d).root n → DefLed E M d 0 (length E.nodes)
  unfolding DefLed
  def-all M d n hd l f g m a h e =
      let w : (def_entry_at E d).root ≤ m = omega (arith, (from_root (suc m) m (omega arith) h).0, ap (λ j. (def_entry_at E j).root) e) in
      by_cases (dec_le (suc m) n) (λ z. g m w z e) (λ z. absurd (
      let hn : n < length E.nodes = omega arith in
      let r = (ok.def d hd).own in
      let u = ok.nesting.rising (def_entry_at E d).root n l hn in
      let v = ok.nesting.rising n m (omega arith) h in
      f hn (omega arith)))

  -- ---- all

  some-def : 0 < length E.defs
  some-def = ok.limits.defs.0

  pub first-reached : DefReached K E 0
  first-reached = record { there = some-def; root = subst (λ n. reached (sheet_of K E) n ≡ true) (root_is K E 0 some-def) (root-reached (sheet_of K E) (well_formed_lem K E ok)) }

  pub reached-small : (m : ℕ) → reached (sheet_of K E) m ≡ true → m < length E.nodes
  reached-small m e = omega (arith, reached_in (sheet_of K E) m e, nodes-are K E)

  module _ (M Q : List ℕ) (tail : ℕ) (mk : Marked K E M Q tail) (led : LedUpTo E M tail) where
    -- a node of a marked definition
    pub record In (m : ℕ) : Type 0 where
      pub there : m < length E.nodes
      pub mark : 0 < get_or M (node_entry_at E m).definition 0

    root_in : (d : ℕ) → 0 < get_or M d 0 → In (def_entry_at E d).root
    root_in d h =
        let r = mk.sound d h in
        let w = ok.def d r.there in
        record { there = w.root; mark = subst (λ d. 0 < get_or M d 0) (sym w.own) h }

    -- what a step from such a node leads to
    next_in : (n i m : ℕ) → i < branch_count E n → In n → Memᴰ m (next (sheet_of K E) (branch_of E (branch_number E n i)).action) → In m
    unfolding LedUpTo DefLed NodeLed BranchLed
    next_in n i m hi a h =
        let b = branch_number E n i in
        let hb : b < length E.branches = branch-small E n i hi in
        by_cases (dec_le 3 (branch_entry_at E b).kind)
        (λ z.
        let k : (branch_entry_at E b).kind ≡ 3 = omega (arith, (ok.branch b hb).kind) in
        let hd = ((ok.branch b hb).renew k).definition in
        let q : m ≡ (def_entry_at E (branch_entry_at E b).arg).root = Memᴰ.eq_of_singleton (subst (Memᴰ m) (next-renewal E b K k hd) h) in
        subst In (sym q) (root_in (branch_entry_at E b).arg (led (node_entry_at E n).definition a.mark (mk.queued (node_entry_at E n).definition a.mark).0 n (omega arith) a.there refl i hi k)))
        (λ z.
        let w = contract_in K E ok n i m hi (next-parts (sheet_of K E) E b m (omega arith) h) in
        record { there = w.1; mark = subst (λ d. 0 < get_or M d 0) (sym w.2) a.mark })

    step-marks : {xs ys : List ℕ} → Step (sheet_of K E) xs ys → All In xs → All In ys
    step-marks (step xs ys n b hb) a =
        let h = all_head (all_right xs _ a) in
        let hb' : b < branch_count E n = subst (λ k. b < k) (count_of K E n h.there) hb in
        all_append (all_append (all_left xs _ a) (all-mem _ _ λ m hm. next_in n b m hb' h (subst (λ br. Memᴰ m (next (sheet_of K E) br.action)) (branch_of_lem K E n b h.there hb') hm))) (all_tail (all_right xs _ a))

    run-marks : {xs ys : List ℕ} → Run (Step (sheet_of K E)) xs ys → All In xs → All In ys
    run-marks done a = a
    run-marks (more st r) a = run-marks r (step-marks st a)

    pub marks-reached : (W : List ℕ) → 0 < get_or M 0 0 → Spread E M W (length E.nodes) → MarksReached K E W
    unfolding MarksReached
    marks-reached W h s m = (
      (λ x. by_cases (dec_le (suc m) (length E.nodes))
          (λ l. let e = s.same m l in node-reached m (node_entry_at E m).definition l refl (mk.sound (node_entry_at E m).definition (omega arith)))
          (λ l. absurd (let e = s.none m (omega arith) in omega arith))),
      (λ e.
          let r = reached-sound (sheet_of K E) m e in
          let i = all_of (run-marks r.run (subst (λ n. All In (n ∷ [])) (sym (root_is K E 0 some-def)) (cons (root_in 0 h) nil))) r.there in
          omega (arith, s.same m i.there, i.mark)),
    )
