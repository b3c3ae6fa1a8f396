-- The rows that are put into the row buffer, and what the published rule makes. Assumes nothing.
use mathlib.Core.Path.{◌≡◌, refl, sym, ap, ap₂, ◌∙◌, subst}
use Prim.Native.Nat.{ℕ, suc, ◌+◌, ◌-◌, ◌*◌, ◌≤◌, ◌<◌}
use native.Mathlib.Omega.{arith}
use mathlib.Core.Bool.{Bool, true, false, cond}
use mathlib.Core.List.{List, [], ◌∷◌, ◌++◌, map, append-nil, Memᴰ}
use lib.ListN.{length, get_or, length-append}
use lib.Dec.{eqb, ltb}
use borrow.Author.Tests.{lt-ltb, ltb-true, eqb-true, eqb-false}
use Rattle.bitml.specs.Lists.{◌&◌, keep, below, up_from}
use Rattle.bitml.specs.Rows.{Row, rank_of}
use Rattle.bitml.specs.Rule as rule
use Rattle.bitml.specs.Rule.{make, stuck, rows, row_for, reached, rank_at, verdict, liquid, frozen}
use Rattle.bitml.proofs.Lists.{all_of, keep_imp, up_mem, map_cong}
use Rattle.bitml.proofs.Counting.{keep_cong, keep_append, up_split}
use Rattle.tables.specs.Entries.{Entries}
use Rattle.tables.specs.SheetOf.{sheet_of}
use Rattle.tables.proofs.SheetOf.{nodes-are}
use Rattle.buffer.specs.Buffer.{row_wide, row, stored, filled}
use Rattle.buffer.proofs.Buffer.{stored-length, filled-stored}
use Rattle.reading.specs.Promises.{Promises}
use Rattle.reached.specs.Marks.{MarksReached}
use Rattle.reached.proofs.Reaching.{first-reached, reached-small}
use Rattle.exits.specs.declared.Verdict.TheVariants.{Liquid, Frozen}
use Rattle.exits.specs.Costs.{Ranks}
use Rattle.exits.specs.Made.{answer_of, buffer_of, stuck_by, marked_by, row_by, rows_by}
use Rattle.std.specs.Prelude.{None, Some, not, ◌&&◌}
use Rattle.std.specs.List.{find}

-- ---- the first that a test finds is the first that it keeps

module _ (T : ℕ → Bool) where
  pub found : (xs : List ℕ) (m : ℕ) → Some m ≡ find T xs → (ms : List ℕ) × (keep T xs ≡ m ∷ ms)
  found [] m e = absurd (cc)
  found (x ∷ xs) m e = go (T x) (found xs m) e
    where
      go : (b : Bool) → (Some m ≡ find T xs → (ms : List ℕ) × (keep T xs ≡ m ∷ ms)) → Some m ≡ cond b (Some x) (find T xs)
          → (ms : List ℕ) × (cond b (x ∷ keep T xs) (keep T xs) ≡ m ∷ ms)
      go true f e = let z : x ≡ m = cc in (keep T xs, ap (λ a. a ∷ keep T xs) z)
      go false f e = f e

  pub found-none : (xs : List ℕ) → None ≡ find T xs → keep T xs ≡ []
  found-none [] e = refl
  found-none (x ∷ xs) e = go (T x) (found-none xs) e
    where
      go : (b : Bool) → (None ≡ find T xs → keep T xs ≡ []) → None ≡ cond b (Some x) (find T xs) → cond b (x ∷ keep T xs) (keep T xs) ≡ []
      go true f e = absurd (cc)
      go false f e = f e

pub stuck-test : (M R : List ℕ) (n : ℕ) → (not (eqb (get_or M n 0) 0) && eqb (get_or R n 0) 0) ≡ stuck_by M R n
unfolding stuck_by ◌&◌
stuck-test M R n = go (eqb (get_or M n 0) 0) refl
  where
    go : (b : Bool) → eqb (get_or M n 0) 0 ≡ b → (not b && eqb (get_or R n 0) 0) ≡ (ltb 0 (get_or M n 0) & eqb (get_or R n 0) 0)
    go true e = rw (eqb-true (get_or M n 0) 0 e)
    go false e = let f = eqb-false (get_or M n 0) 0 e in rw (lt-ltb 0 (get_or M n 0) (omega arith))

-- ---- the rows of marked nodes

module _ (M R B : List ℕ) (i : ℕ) where
  rows_next : rows_by M R B (i + 1) ≡ rows_by M R B i ++ map (row_by R B) (keep (marked_by M) (i ∷ []))
  unfolding rows_by
  rows_next =
      let w : up_from (0 + i) 1 ≡ i ∷ [] = ap (λ k. k ∷ []) (let y : 0 + i ≡ i = omega arith in y) in
      ap (λ xs. map (row_by R B) (keep (marked_by M) xs)) (up_split 0 i 1 ∙ ap (λ xs. up_from 0 i ++ xs) w)
      ∙ ap (map (row_by R B)) (keep_append (marked_by M) (up_from 0 i) (i ∷ []))
      ∙ map-append (keep (marked_by M) (up_from 0 i)) (keep (marked_by M) (i ∷ []))
    where
      map-append : (xs ys : List ℕ) → map (row_by R B) (xs ++ ys) ≡ map (row_by R B) xs ++ map (row_by R B) ys
      map-append [] ys = refl
      map-append (x ∷ xs) ys = ap (λ zs. row_by R B x ∷ zs) (map-append xs ys)

  pub rows_skip : get_or M i 0 ≡ 0 → rows_by M R B (i + 1) ≡ rows_by M R B i
  unfolding marked_by
  rows_skip e = rows_next ∙ rw e (append-nil (rows_by M R B i))

  pub rows_take : (get_or M i 0 ≡ 0 → ⊥) → rows_by M R B (i + 1) ≡ rows_by M R B i ++ (row_by R B i ∷ [])
  unfolding marked_by
  rows_take f = rows_next ∙ rw (lt-ltb 0 (get_or M i 0) (omega arith))

pub record Put (M R B ys : List ℕ) (L i j : ℕ) : Type 0 where
  pub few : j ≤ i
  pub long : length ys ≡ L
  pub count : j ≡ length (rows_by M R B i)
  pub is : ys ≡ filled L (rows_by M R B i)

pub put-none : (M R B ys : List ℕ) → ys ≡ filled (length ys) [] → Put M R B ys (length ys) 0 0
unfolding rows_by
put-none M R B ys e = record { few = omega arith; long = refl; count = refl; is = e }

module _ (M R B xs : List ℕ) (L i j : ℕ) (r : Put M R B xs L i j) where
  pub put_skip : get_or M i 0 ≡ 0 → Put M R B xs L (i + 1) j
  put_skip e =
      let k = rows_skip M R B i e in
      record { few = omega (arith, r.few); long = r.long; count = r.count ∙ ap (λ x. length x) (sym k); is = r.is ∙ ap (filled L) (sym k) }

  pub put_take : (get_or M i 0 ≡ 0 → ⊥) → row_wide * j + row_wide ≤ L → Put M R B (stored xs j (row i (get_or B i 0) (get_or R i 0))) L (i + 1) (j + 1)
  unfolding row_by
  put_take f h =
      let k = rows_take M R B i f in
      record {
        few = omega (arith, r.few);
        long = stored-length xs j _ ∙ r.long;
        count = (let z : j + 1 ≡ length (rows_by M R B i) + 1 = omega (arith, r.count) in z) ∙ sym (length-append (rows_by M R B i) (row_by R B i ∷ [])) ∙ ap (λ x. length x) (sym k);
        is = ap₂ (λ x m. stored x m (row_by R B i)) r.is r.count ∙ filled-stored L (rows_by M R B i) (row_by R B i) (omega (arith, r.count)) ∙ ap (filled L) (sym k);
      }

-- ---- what is made

module _ (K : ℕ) (E : Entries) (p : ℕ) (ok : Promises K E) (M R B : List ℕ) (mr : MarksReached K E M) (rk : Ranks K E p R B 0) where
  small : (m : ℕ) → Memᴰ m (below (length E.nodes)) → m < length E.nodes
  small m h = omega (arith, all_of (up_mem 0 (length E.nodes)) h)

  marked-is : (m : ℕ) → marked_by M m ≡ reached (sheet_of K E) m
  unfolding marked_by MarksReached
  marked-is m = go (ltb 0 (get_or M m 0)) refl (reached (sheet_of K E) m) refl
    where
      go : (a : Bool) → ltb 0 (get_or M m 0) ≡ a → (b : Bool) → reached (sheet_of K E) m ≡ b → a ≡ b
      go true e true f = refl
      go false e false f = refl
      go true e false f = sym ((mr m).0 (ltb-true _ _ e)) ∙ f
      go false e true f = sym e ∙ lt-ltb _ _ ((mr m).1 f)

  stuck-is : keep (stuck_by M R) (below (length E.nodes)) ≡ stuck (sheet_of K E) p
  unfolding stuck_by stuck marked_by
  stuck-is =
      keep_cong _ (λ n. reached (sheet_of K E) n & eqb (rank_at (sheet_of K E) p n) 0) (below (length E.nodes)) (λ m h. ap₂ (λ a k. a & eqb k 0) (marked-is m) (rk.rank m (omega arith) (small m h)))
      ∙ ap (λ k. keep (λ n. reached (sheet_of K E) n & eqb (rank_at (sheet_of K E) p n) 0) (below k)) (sym (nodes-are K E))

  rows_are : rows_by M R B (length E.nodes) ≡ rows (sheet_of K E) p
  unfolding rows_by rows row_by row_for
  rows_are =
      map_cong _ _ _ (λ m h. let l = all_of (keep_imp (marked_by M) (below (length E.nodes)) (up_mem 0 (length E.nodes))) h in
      ap₂ (row m) (rk.branch m (omega arith) (omega (arith, l))) (rk.rank m (omega arith) (omega (arith, l))))
      ∙ ap (map (row_for (sheet_of K E) p)) (keep_cong (marked_by M) (reached (sheet_of K E)) (below (length E.nodes)) (λ m h. marked-is m)
      ∙ ap (λ k. keep (reached (sheet_of K E)) (below k)) (sym (nodes-are K E)))

  pub made-frozen : (k : ℕ) → Some k ≡ find (stuck_by M R) (below (length E.nodes)) → make (sheet_of K E) p ≡ frozen k
  unfolding make
  made-frozen k e = ap (λ xs. verdict xs (rows (sheet_of K E) p)) (sym stuck-is ∙ (found (stuck_by M R) (below (length E.nodes)) k e).1)

  pub made-liquid : None ≡ find (stuck_by M R) (below (length E.nodes)) → make (sheet_of K E) p ≡ liquid (rows_by M R B (length E.nodes))
  unfolding make
  made-liquid e = ap₂ verdict (sym stuck-is ∙ found-none (stuck_by M R) (below (length E.nodes)) e) (sym rows_are)

  -- node 0 is reached, so its row is the first
  pub first-rank : rank_of (rows_by M R B (length E.nodes)) 0 ≡ get_or R 0 0
  unfolding rows_by row_by
  first-rank =
      let e = subst (λ n. reached (sheet_of K E) n ≡ true) ok.nesting.start (first-reached K E ok).root in
      let h = reached-small K E ok 0 e in
      let z : length E.nodes ≡ suc (length E.nodes - 1) = omega arith in
      let w : marked_by M 0 ≡ true = marked-is 0 ∙ e in
      ap (λ k. rank_of (map (row_by R B) (keep (marked_by M) (below k))) 0) z ∙ rw w

pub answer-frozen : (S : rule.Verdict) (n : ℕ) → S ≡ frozen n → Frozen n ≡ answer_of S
unfolding answer_of
answer-frozen S n e = rw e

pub buffer_frozen : (S : rule.Verdict) (n L : ℕ) (xs : List ℕ) → S ≡ frozen n → xs ≡ filled L [] → xs ≡ buffer_of L S
unfolding buffer_of
buffer_frozen S n L xs e f = rw e f

pub answer-liquid : (S : rule.Verdict) (rs : List Row) (n k : ℕ) → S ≡ liquid rs → n ≡ length rs → rank_of rs 0 ≡ k → Liquid n k ≡ answer_of S
unfolding answer_of
answer-liquid S rs n k e f g = rw (e, f) (ap (Liquid (length rs)) (sym g))

pub buffer_liquid : (S : rule.Verdict) (rs : List Row) (L : ℕ) (xs : List ℕ) → S ≡ liquid rs → xs ≡ filled L rs → xs ≡ buffer_of L S
unfolding buffer_of
buffer_liquid S rs L xs e f = rw e f
