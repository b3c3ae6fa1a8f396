-- `check` answers 0 exactly for accepted rows, and else the number and the place of the fault that comes first. Assumes nothing.
use mathlib.Core.Path.{◌≡◌, refl, sym, ap, ap₂, ◌∙◌, subst}
use mathlib.Core.Logic.{◌↔◌, ◌⊎◌, inl, inr, ⊎_elim}
use Prim.Native.Nat.{ℕ, suc, ◌+◌, ◌≤◌, ◌<◌}
use native.Mathlib.Omega.{arith}
use native.Mathlib.Decide.{dec_le}
use mathlib.Core.Bool.{Bool, true, false, false≢true}
use mathlib.Core.List.{List, [], ◌∷◌, ◌++◌}
use lib.ListN.{length}
use lib.Dec.{eqb}
use borrow.Author.Tests.{eqb-false, eq-eqb, ne_eqb, ltb-true, lt-ltb, le-ltb, le-leb, lt-leb}
use Rattle.bitml.specs.Lists.{◌&◌, ◌or◌, ask, every, All, nil, cons}
use Rattle.bitml.specs.Sheet.{Sheet, branches_at, branch_at, no_branch, has_branch, def_at}
use Rattle.bitml.specs.Runs.{next, own}
use Rattle.bitml.specs.Rows.{Row, has, least_rank, Distinct, empty, apart, Closed, Mine, Holds, Rising, end, rise, Accepted, Wrong, missing, foreign, low, FaultAt, twice, fall, rootless, row, Fault, or_else, repeated, falling, row_fault, faulty, check}
use Rattle.bitml.proofs.Lists.{is_false, and_l, and_r, and_i, or_no_l, or_no_r, or_no, or_l, or_r, or_cases, all_head, all_tail, all_imp, all_both, every-at, every-mem, every_by_at, every_by_mem, every-not-at, every-not-mem}
use Rattle.bitml.proofs.Order.{rising-first, rising-rest}

abbrev at : ℕ → ℕ → Fault
at n i = record { number = n; place = i }

all-fresh : (R : List Row) → All (λ q. has [] q.node ≡ false) R
all-fresh [] = nil
all-fresh (r ∷ R) = cons refl (all-fresh R)

else_first : (f g : Fault) → (f.number ≡ 0 → ⊥) → or_else f g ≡ f
else_first f g h = rw (ne_eqb f.number 0 h)

else_rest : (f g : Fault) → f.number ≡ 0 → or_else f g ≡ g
else_rest f g h = rw (eq-eqb f.number 0 h)

-- ---- 10

-- Rows of distinct nodes, none of which has a row among those seen
abbrev Fresh : List Row → List Row → Type 0
Fresh seen R = Distinct R × All (λ q. has seen q.node ≡ false) R

fresh-more : (seen : List Row) (r : Row) (R : List Row) → has seen r.node ≡ false → Fresh (r ∷ seen) R → Fresh seen (r ∷ R)
fresh-more seen r R e (d, a) =
    (apart (all_imp (λ q h. eqb-false _ _ (or_no_l _ _ h)) a) d, cons e (all_imp (λ q h. or_no_r _ _ h) a))

fresh-less : (seen : List Row) (r : Row) (R : List Row) → Fresh seen (r ∷ R) → Fresh (r ∷ seen) R
fresh-less seen r R (apart ne d, a) = (d, all_both (λ q h k. or_no _ _ (ne_eqb _ _ h) k) ne (all_tail a))

-- either no node comes twice among rows that are seen and rows that follow, or there is a first row whose node came before
record Again (seen R : List Row) : Type 0 where
  pub before : List Row
  pub after : List Row
  pub other : Row
  pub split : R ≡ before ++ other ∷ after
  pub fresh : Fresh seen before
  pub again : (has seen other.node or has before other.node) ≡ true

again_more : (seen : List Row) (r : Row) (R : List Row) → has seen r.node ≡ false → Again (r ∷ seen) R → Again seen (r ∷ R)
again_more seen r R e w =
    record {
      before = r ∷ w.before;
      after = w.after;
      other = w.other;
      split = ap (λ Q. r ∷ Q) w.split;
      fresh = fresh-more seen r w.before e w.fresh;
      again = moved (eqb r.node w.other.node) (has seen w.other.node) (has w.before w.other.node) w.again;
    }
  where
    moved : (a b c : Bool) → ((a or b) or c) ≡ true → (b or (a or c)) ≡ true
    moved a b c h = ⊎_elim (λ k. ⊎_elim (λ l. or_r _ _ (or_l _ _ l)) (λ l. or_l _ _ l) (or_cases a b k)) (λ k. or_r _ _ (or_r _ _ k)) (or_cases _ _ h)

first_again : (seen R : List Row) → Fresh seen R ⊎ Again seen R
first_again seen [] = inl (empty, nil)
first_again seen (r ∷ R) = go (has seen r.node) refl (first_again (r ∷ seen) R)
  where
    go : (b : Bool) → has seen r.node ≡ b → Fresh (r ∷ seen) R ⊎ Again (r ∷ seen) R → Fresh seen (r ∷ R) ⊎ Again seen (r ∷ R)
    go true e w = inr (record { before = []; after = R; other = r; split = refl; fresh = (empty, nil); again = or_l _ _ e })
    go false e (inl h) = inl (fresh-more seen r R e h)
    go false e (inr w) = inr (again_more seen r R e w)

repeated-at : (i : ℕ) (seen before after : List Row) (r : Row) → Fresh seen before → (has seen r.node or has before r.node) ≡ true
    → repeated i seen (before ++ r ∷ after) ≡ at 10 (i + length before)
unfolding repeated
repeated-at i seen [] after r f h =
    let e : has seen r.node ≡ true = ⊎_elim (λ k. k) (λ k. absurd (false≢true k)) (or_cases _ _ h) in
    rw e (ap (at 10) (omega arith))
repeated-at i seen (q ∷ before) after r f h =
    let e : has seen q.node ≡ false = all_head f.1 in
    rw e (repeated-at (suc i) (q ∷ seen) before after r (fresh-less seen q before f) (moved _ _ _ h) ∙ ap (at 10) (omega arith))
  where
    moved : (a b c : Bool) → (b or (a or c)) ≡ true → ((a or b) or c) ≡ true
    moved a b c h = ⊎_elim (λ k. or_l _ _ (or_r _ _ k)) (λ k. ⊎_elim (λ l. or_l _ _ (or_l _ _ l)) (λ l. or_r _ _ l) (or_cases a c k)) (or_cases _ _ h)

repeated-none : (i : ℕ) (seen R : List Row) → Fresh seen R → (repeated i seen R).number ≡ 0
unfolding repeated
repeated-none i seen [] f = refl
repeated-none i seen (r ∷ R) f = let e : has seen r.node ≡ false = all_head f.1 in rw e (repeated-none (suc i) (r ∷ seen) R (fresh-less seen r R f))

-- ---- 21

-- either the rows rise, or there is a first that is below the one before it
record Fallen (n : ℕ) (R : List Row) : Type 0 where
  pub before : List Row
  pub after : List Row
  pub last : Row
  pub other : Row
  pub split : R ≡ before ++ last ∷ other ∷ after
  pub risen : Rising n (before ++ last ∷ [])
  pub below : other.node < last.node

first-fall : (n : ℕ) (q : Row) (R : List Row) → n ≤ q.node → Rising n (q ∷ R) ⊎ Fallen n (q ∷ R)
first-fall n q [] h = inl (rise h end)
first-fall n q (r ∷ R) h = go (dec_le q.node r.node) (first-fall q.node r R)
  where
    more : Rising q.node (r ∷ R) ⊎ Fallen q.node (r ∷ R) → Rising n (q ∷ r ∷ R) ⊎ Fallen n (q ∷ r ∷ R)
    more (inl u) = inl (rise h u)
    more (inr w) = inr (record { before = q ∷ w.before; after = w.after; last = w.last; other = w.other; split = ap (λ Q. q ∷ Q) w.split; risen = rise h w.risen; below = w.below })

    go : Dec (q.node ≤ r.node) → (q.node ≤ r.node → Rising q.node (r ∷ R) ⊎ Fallen q.node (r ∷ R)) → Rising n (q ∷ r ∷ R) ⊎ Fallen n (q ∷ r ∷ R)
    go (yes k) f = more (f k)
    go (no k) f = inr (record { before = []; after = R; last = q; other = r; split = refl; risen = rise h end; below = omega arith })

risen_or_fallen : (R : List Row) → Rising 0 R ⊎ Fallen 0 R
risen_or_fallen [] = inl end
risen_or_fallen (r ∷ R) = first-fall 0 r R (omega arith)

falling-at : (i n : ℕ) (before after : List Row) (q r : Row) → Rising n (before ++ q ∷ []) → r.node < q.node
    → falling i n (before ++ q ∷ r ∷ after) ≡ at 21 (suc (i + length before))
unfolding falling
falling-at i n [] after q r u h = rw (le-ltb q.node n (rising-first u), lt-ltb r.node q.node h) (ap (at 21) (omega arith))
falling-at i n (x ∷ before) after q r u h =
    rw (le-ltb x.node n (rising-first u)) (falling-at (suc i) x.node before after q r (rising-rest u) h ∙ ap (at 21) (omega arith))

falling-none : (i n : ℕ) (R : List Row) → Rising n R → (falling i n R).number ≡ 0
unfolding falling
falling-none i n [] u = refl
falling-none i n (r ∷ R) u = rw (le-ltb r.node n (rising-first u)) (falling-none (suc i) r.node R (rising-rest u))

-- ---- 11, 12 and 13 of a row

module _ (s : Sheet) (p : ℕ) (R : List Row) where
  -- the test of `row_fault` for needed rows, and what it says
  abbrev needed : Row → Bool
  needed r = every (λ br. every (has R) (next s br.action)) (branches_at s r.node)

  needed_closed : (r : Row) → needed r ≡ true → Closed s R r
  needed_closed r e b m hb hm = every-mem (has R) _ (every-at (λ br. every (has R) (next s br.action)) (branches_at s r.node) b no_branch e hb) hm

  closed_needed : (r : Row) → Closed s R r → needed r ≡ true
  closed_needed r f = every_by_at _ (branches_at s r.node) no_branch λ b hb. every_by_mem _ _ λ m hm. f b m hb hm

  abbrev mine : Row → Bool
  mine r = has_branch s r.node r.branch & own s p r.node (branch_at s r.node r.branch)

  own-mine : (r : Row) → mine r ≡ true → Mine s p r
  own-mine r e = (ltb-true _ _ (and_l _ _ e), and_r _ _ e)

  mine-own : (r : Row) → Mine s p r → mine r ≡ true
  mine-own r h = and_i _ _ (lt-ltb _ _ h.0) h.1

  abbrev least : Row → ℕ
  least r = least_rank R (branch_at s r.node r.branch).action

  holds-none : (r : Row) → Holds s p R r → row_fault s p R r ≡ 0
  unfolding row_fault ask
  holds-none r h = rw (closed_needed r h.closed, mine-own r h.mine, le-leb (least r) r.rank h.enough)

  wrong_number : (r : Row) {n : ℕ} → Wrong s p R r n → row_fault s p R r ≡ n
  unfolding row_fault ask
  wrong_number r (missing b m hb hm e) = rw (is_false (needed r) λ k. false≢true (sym e ∙ needed_closed r k b m hb hm))
  wrong_number r (foreign f h) = rw (closed_needed r f, is_false (mine r) λ k. h (own-mine r k))
  wrong_number r (low f o k) = rw (closed_needed r f, mine-own r o, lt-leb (least r) r.rank k)

  wrong_some : (r : Row) {n : ℕ} → Wrong s p R r n → 0 < n
  wrong_some r (missing b m hb hm e) = omega arith
  wrong_some r (foreign f h) = omega arith
  wrong_some r (low f o k) = omega arith

  judged : (r : Row) → Holds s p R r ⊎ ((n : ℕ) × Wrong s p R r n)
  judged r = first (needed r) refl
    where
      third : Closed s R r → mine r ≡ true → Dec (least r ≤ r.rank) → Holds s p R r ⊎ ((n : ℕ) × Wrong s p R r n)
      third f e (yes k) = inl (record { closed = f; mine = own-mine r e; enough = k })
      third f e (no k) = inr (13, low f (own-mine r e) (omega arith))

      second : Closed s R r → (b : Bool) → mine r ≡ b → Holds s p R r ⊎ ((n : ℕ) × Wrong s p R r n)
      second f true e = third f e (dec_le (least r) r.rank)
      second f false e = inr (12, foreign f λ h. false≢true (sym e ∙ mine-own r h))

      first : (b : Bool) → needed r ≡ b → Holds s p R r ⊎ ((n : ℕ) × Wrong s p R r n)
      first true e = second (needed_closed r e) (mine r) refl
      first false e =
          let w = every-not-at (λ br. every (has R) (next s br.action)) (branches_at s r.node) no_branch e in
          let v = every-not-mem (has R) (next s (branch_at s r.node w.0).action) w.2 in
          inr (11, missing w.0 v.0 w.1 v.1 v.2)

  -- ---- row by row

  record First (rs : List Row) : Type 0 where
    pub before : List Row
    pub after : List Row
    pub other : Row
    pub number : ℕ
    pub split : rs ≡ before ++ other ∷ after
    pub held : All (Holds s p R) before
    pub wrong : Wrong s p R other number

  first_wrong : (rs : List Row) → All (Holds s p R) rs ⊎ First rs
  first_wrong [] = inl nil
  first_wrong (r ∷ rs) = go (judged r) (first_wrong rs)
    where
      go : Holds s p R r ⊎ ((n : ℕ) × Wrong s p R r n) → All (Holds s p R) rs ⊎ First rs → All (Holds s p R) (r ∷ rs) ⊎ First (r ∷ rs)
      go (inr w) f = inr (record { before = []; after = rs; other = r; number = w.0; split = refl; held = nil; wrong = w.1 })
      go (inl h) (inl a) = inl (cons h a)
      go (inl h) (inr w) = inr (record { before = r ∷ w.before; after = w.after; other = w.other; number = w.number; split = ap (λ Q. r ∷ Q) w.split; held = cons h w.held; wrong = w.wrong })

  faulty-at : (i : ℕ) (before after : List Row) (r : Row) (n : ℕ) → All (Holds s p R) before → Wrong s p R r n
      → faulty s p R i (before ++ r ∷ after) ≡ at n (i + length before)
  unfolding faulty
  faulty-at i [] after r n a w =
      let e = wrong_number r w in
      else_first (at (row_fault s p R r) i) (faulty s p R (suc i) after) (λ z. omega (arith, wrong_some r w, e, z)) ∙ ap₂ at e (omega arith)
  faulty-at i (q ∷ before) after r n a w =
      else_rest (at (row_fault s p R q) i) _ (holds-none q (all_head a)) ∙ faulty-at (suc i) before after r n (all_tail a) w ∙ ap (at n) (omega arith)

  faulty-none : (i : ℕ) (rs : List Row) → All (Holds s p R) rs → (faulty s p R i rs).number ≡ 0
  unfolding faulty
  faulty-none i [] a = refl
  faulty-none i (r ∷ rs) a = ap (λ (x : Fault). x.number) (else_rest (at (row_fault s p R r) i) _ (holds-none r (all_head a))) ∙ faulty-none (suc i) rs (all_tail a)

  -- ---- all in their order

  check-at : (n i : ℕ) → FaultAt s p R n i → (0 < n) × (check s p R ≡ at n i)
  unfolding check ask
  check-at n i (twice before after r e d h) =
      let f : Fresh [] before = (d, all-fresh before) in
      let k : repeated 1 [] R ≡ at 10 (suc (length before)) = ap (repeated 1 []) e ∙ repeated-at 1 [] before after r f (or_r _ _ h) ∙ ap (at 10) (omega arith) in
      (omega arith, rw k)
  check-at n i (fall before after q r d e u h) =
      let k : falling 1 0 R ≡ at 21 (suc (suc (length before))) = ap (falling 1 0) e ∙ falling-at 1 0 before after q r u h ∙ ap (at 21) (omega arith) in
      (omega arith, rw (repeated-none 1 [] R (d, all-fresh R), k))
  check-at n i (rootless d u e) = (omega arith, rw (repeated-none 1 [] R (d, all-fresh R), falling-none 1 0 R u, e))
  check-at n i (row before after r m d u e q a w) =
      let k : faulty s p R 1 R ≡ at m (suc (length before)) = ap (faulty s p R 1) q ∙ faulty-at 1 before after r m a w ∙ ap (at m) (omega arith) in
      (wrong_some r w, rw (repeated-none 1 [] R (d, all-fresh R), falling-none 1 0 R u, e) k)

  check-none : Accepted s p R → (check s p R).number ≡ 0
  unfolding check ask
  check-none a =
      let q = a.asked in
      rw (repeated-none 1 [] R (q.distinct, all-fresh R), falling-none 1 0 R a.rising, q.root) (faulty-none 1 R q.each)

  abbrev Found : Type 0
  Found = Accepted s p R ⊎ ((n : ℕ) × (i : ℕ) × FaultAt s p R n i)

  found : Found
  found = first (first_again [] R)
    where
      fourth : Distinct R → Rising 0 R → has R (def_at s 0).root ≡ true → All (Holds s p R) R ⊎ First R → Found
      fourth d u e (inl a) = inl (record { asked = record { distinct = d; root = e; each = a }; rising = u })
      fourth d u e (inr w) = inr (w.number, suc (length w.before), row w.before w.after w.other w.number d u e w.split w.held w.wrong)

      third : Distinct R → Rising 0 R → (b : Bool) → has R (def_at s 0).root ≡ b → Found
      third d u true e = fourth d u e (first_wrong R)
      third d u false e = inr (11, 0, rootless d u e)

      second : Distinct R → Rising 0 R ⊎ Fallen 0 R → Found
      second d (inl u) = third d u (has R (def_at s 0).root) refl
      second d (inr w) = inr (21, suc (suc (length w.before)), fall w.before w.after w.last w.other d w.split w.risen w.below)

      first : Fresh [] R ⊎ Again [] R → Found
      first (inl f) = second f.0 (risen_or_fallen R)
      first (inr w) = inr (10, suc (length w.before), twice w.before w.after w.other w.split w.fresh.0 (⊎_elim (λ k. absurd (false≢true k)) (λ k. k) (or_cases _ _ w.again)))

  pub check-is-accepted : ((check s p R).number ≡ 0) ↔ Accepted s p R
  check-is-accepted = (λ z. ⊎_elim (λ a. a) (λ w. let k = check-at w.0 w.1 w.2 in absurd (omega (arith, k.0, ap (λ (x : Fault). x.number) k.1, z))) found, check-none)

  pub check-is-fault : (n i : ℕ) → ((0 < n) × (check s p R ≡ at n i)) ↔ FaultAt s p R n i
  check-is-fault n i = (there, check-at n i)
    where
      there : (0 < n) × (check s p R ≡ at n i) → FaultAt s p R n i
      there h = ⊎_elim
          (λ a. absurd (omega (arith, h.0, ap (λ (x : Fault). x.number) h.1, check-none a)))
          (λ w.
          let e = sym (check-at w.0 w.1 w.2).1 ∙ h.1 in
          subst (λ m. FaultAt s p R m i) (ap (λ (x : Fault). x.number) e) (subst (λ j. FaultAt s p R w.0 j) (ap (λ (x : Fault). x.place) e) w.2))
          found
