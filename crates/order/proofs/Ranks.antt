-- The rows of a buffer one by one, and the array of their ranks. Assumes nothing.
use mathlib.Core.Path.{◌≡◌, refl, sym, ap, ap₂, ◌∙◌}
use Prim.Native.Nat.{ℕ, suc, ◌+◌, ◌≤◌, ◌<◌}
use native.Mathlib.Omega.{arith}
use mathlib.Core.Bool.{Bool, true, false, not, cond}
use mathlib.Core.List.{List, [], ◌∷◌, ◌++◌}
use lib.ListN.{length, get_or, set, drop, replicate, length-set, length-replicate, drop_of_length-le}
use Rattle.std.proofs.lemmas.List.{drop_more}
use lib.Dec.{eqb}
use borrow.Author.Tests.{eq-eqb, ne_eqb, eqb-false}
use Rattle.bitml.specs.Lists.{◌or◌, All, nil, cons}
use Rattle.bitml.specs.Rows.{Row, has, rank_of, repeated}
use Rattle.bitml.proofs.Lists.{or_no_l, or_no_r, all_head, all_tail, all_append, at-replicate}
use Rattle.bitml.proofs.Sorting.{rank_swap}
use Rattle.bitml.proofs.Counting.{at_store}
use Rattle.tables.proofs.Runs.{first_of_get_d}
use Rattle.tables.specs.Entries.{most_nodes}
use Rattle.buffer.specs.Buffer.{row_in, rows_of, row}
use Rattle.buffer.proofs.Buffer.{rows_none, rows_next, rows-length}
use Rattle.requests.specs.Rows.{most_rank}
use Rattle.order.specs.Nodes.{RowsSmall, Known, has_by}

-- ---- the rows from a place on

module _ (u : List ℕ) where
  row_at : (n i : ℕ) → i < n → get_or (rows_of n u) i (row 0 0 0) ≡ row_in u i
  unfolding rows_of
  row_at n i h = first_of_get_d (row_in u) n i (row 0 0 0) h

  pub rows_from_lem : (n i : ℕ) → i < n → drop i (rows_of n u) ≡ row_in u i ∷ drop (i + 1) (rows_of n u)
  rows_from_lem n i h =
      drop_more (rows_of n u) i (row 0 0 0) (omega (arith, rows-length n u)) ∙ ap (λ r. r ∷ drop (i + 1) (rows_of n u)) (row_at n i h)

  pub rows_end : (n i : ℕ) → n ≤ i → drop i (rows_of n u) ≡ []
  rows_end n i h = drop_of_length-le (rows_of n u) {i = i} (omega (arith, rows-length n u))

-- ---- the array of ranks

has-rank : (R : List Row) → All (λ r. 0 < r.rank) R → (m : ℕ) → has R m ≡ not (eqb (rank_of R m) 0)
unfolding ◌or◌
has-rank [] a m = refl
has-rank (r ∷ R) a m = go (eqb r.node m) (has-rank R (all_tail a) m)
  where
    go : (b : Bool) → has R m ≡ not (eqb (rank_of R m) 0) → (b or has R m) ≡ not (eqb (cond b r.rank (rank_of R m)) 0)
    go true e = rw (ne_eqb r.rank 0 (λ z. omega (arith, all_head a)))
    go false e = e

rank-next : (P : List Row) (r : Row) (m : ℕ) → has P r.node ≡ false → rank_of (P ++ (r ∷ [])) m ≡ rank_of (r ∷ P) m
rank-next [] r m e = refl
rank-next (q ∷ P) r m e =
    ap (cond (eqb q.node m) q.rank) (rank-next P r m (or_no_r (eqb q.node r.node) (has P r.node) e))
    ∙ rank_swap q r P m (eqb-false q.node r.node (or_no_l (eqb q.node r.node) (has P r.node) e))

pub known_has : (R : List Row) (A : List ℕ) → Known R A → (m : ℕ) → has R m ≡ has_by A m
unfolding has_by
known_has R A kn m = has-rank R kn.some m ∙ ap (λ k. not (eqb k 0)) (sym (kn.rank m))

pub known_none : Known [] (replicate most_nodes 0)
known_none = record { long = length-replicate {A = ℕ} most_nodes 0; rank = λ m. at-replicate most_nodes m 0; some = nil; most = λ m. omega (arith, at-replicate {A = ℕ} most_nodes m 0) }

-- ---- repeated nodes

-- what was seen counts only by the nodes that have a row in it
repeated-same : (k : ℕ) (S S' xs : List Row) → ((m : ℕ) → has S m ≡ has S' m) → repeated k S xs ≡ repeated k S' xs
unfolding repeated
repeated-same k S S' [] e = refl
repeated-same k S S' (x ∷ xs) e =
    ap₂ (λ b f. cond b (record { number = 10; place = k }) f) (e x.node) (repeated-same (suc k) (x ∷ S) (x ∷ S') xs (λ m. ap (λ b. eqb x.node m or b) (e m)))

module _ (u A : List ℕ) (i n : ℕ) (ok : RowsSmall u n) (kn : Known (rows_of i u) A) (h : i < n) where
  turn : repeated (i + 1) (rows_of i u) (drop i (rows_of n u))
      ≡ cond (has_by A (row_in u i).node) (record { number = 10; place = i + 1 }) (repeated (i + 1 + 1) (row_in u i ∷ rows_of i u) (drop (i + 1) (rows_of n u)))
  unfolding repeated
  turn =
      let v : suc (i + 1) ≡ i + 1 + 1 = omega arith in
      ap (repeated (i + 1) (rows_of i u)) (rows_from_lem u n i h)
      ∙ ap₂ (λ b k. cond b (record { number = 10; place = i + 1 }) (repeated k (row_in u i ∷ rows_of i u) (drop (i + 1) (rows_of n u)))) (known_has (rows_of i u) A kn (row_in u i).node) v

  pub twice_hit : (get_or A (row_in u i).node 0 ≡ 0 → ⊥) → repeated (i + 1) (rows_of i u) (drop i (rows_of n u)) ≡ record { number = 10; place = i + 1 }
  unfolding has_by
  twice_hit f = turn ∙ rw (ne_eqb (get_or A (row_in u i).node 0) 0 f)

  module _ (e : get_or A (row_in u i).node 0 ≡ 0) where
    fresh : has (rows_of i u) (row_in u i).node ≡ false
    unfolding has_by
    fresh = known_has (rows_of i u) A kn (row_in u i).node ∙ rw e

    pub known_next : Known (rows_of (i + 1) u) (set A (row_in u i).node (row_in u i).rank)
    known_next =
        let k = (row_in u i).node in
        let r = (row_in u i).rank in
        let hk : k < length A = omega (arith, kn.long, ok.node i h) in
        let R = rows_of i u ++ (row_in u i ∷ []) in
        let rs : (m : ℕ) → rank_of R m ≡ cond (eqb k m) r (rank_of (rows_of i u) m) = λ m. rank-next (rows_of i u) (row_in u i) m fresh in
        rw (rows_next u i) (record {
          long = length-set A k r ∙ kn.long;
          rank = λ m. at_store (λ x. x ≡ rank_of R m) A k m r 0 hk
              (λ ne. kn.rank m ∙ sym (rs m ∙ ap (λ b. cond b r (rank_of (rows_of i u) m)) (ne_eqb k m (λ z. ne (sym z)))))
              (λ z. sym (rs m ∙ ap (λ b. cond b r (rank_of (rows_of i u) m)) (eq-eqb k m (sym z))));
          some = all_append kn.some (cons (ok.some i h) nil);
          most = λ m. at_store (λ x. x ≤ most_rank) A k m r 0 hk (λ ne. kn.most m) (λ z. ok.most i h);
        })

    pub twice_miss : repeated (i + 1) (rows_of i u) (drop i (rows_of n u)) ≡ repeated (i + 1 + 1) (rows_of (i + 1) u) (drop (i + 1) (rows_of n u))
    unfolding has_by
    twice_miss =
        let R = rows_of i u ++ (row_in u i ∷ []) in
        turn ∙ rw e (repeated-same (i + 1 + 1) (row_in u i ∷ rows_of i u) (rows_of (i + 1) u) (drop (i + 1) (rows_of n u))
        (λ m. rw (rows_next u i) (has-rank (row_in u i ∷ rows_of i u) (cons (ok.some i h) kn.some) m ∙ sym (has-rank R (all_append kn.some (cons (ok.some i h) nil)) m ∙ ap (λ k. not (eqb k 0)) (rank-next (rows_of i u) (row_in u i) m fresh)))))

pub twice-end : (u : List ℕ) (i n : ℕ) → n ≤ i → repeated (i + 1) (rows_of i u) (drop i (rows_of n u)) ≡ record { number = 0; place = 0 }
unfolding repeated
twice-end u i n h = ap (repeated (i + 1) (rows_of i u)) (rows_end u n i h)

pub twice-start : (u : List ℕ) (n : ℕ) → repeated (0 + 1) (rows_of 0 u) (drop 0 (rows_of n u)) ≡ repeated 1 [] (rows_of n u)
twice-start u n = ap (λ R. repeated 1 R (rows_of n u)) (rows_none u)
