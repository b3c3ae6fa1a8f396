-- The rows of a buffer by rising node: one that is above all before it has no row yet. Assumes nothing.
use mathlib.Core.Path.{◌≡◌, refl, sym, ap, ◌∙◌}
use Prim.Native.Nat.{ℕ, suc, ◌+◌, ◌-◌, ◌≤◌, ◌<◌}
use native.Mathlib.Omega.{arith}
use mathlib.Core.Bool.{Bool, true, false, cond}
use mathlib.Core.List.{List, []}
use lib.ListN.{length, get_or, set, drop}
use lib.Dec.{eqb, ltb}
use borrow.Author.Tests.{eqb-true, eqb-false, lt-ltb, le-ltb}
use Rattle.bitml.specs.Rows as bitml
use Rattle.bitml.specs.Rows.{Row, or_else, repeated, falling}
use Rattle.bitml.proofs.Counting.{at_store}
use Rattle.buffer.specs.Buffer.{row_in, rows_of}
use Rattle.order.specs.Nodes.{RowsSmall, Known, fall_at, order_fault}
use Rattle.order.proofs.Ranks.{rows_from_lem, rows_end, twice_hit, twice-end}

-- `above` is one more than the largest node that has a rank in A, and 0 where none has
pub record Topped (above : ℕ) (A : List ℕ) : Type 0 where
  pub top : 0 < above → 0 < get_or A (above - 1) 0
  pub rest : (m : ℕ) → above ≤ m → get_or A m 0 ≡ 0

pub topped_none : (A : List ℕ) → Known [] A → Topped 0 A
topped_none A kn = record { top = λ h. absurd (omega arith); rest = λ m h. kn.rank m }

pub topped_next : (above : ℕ) (A : List ℕ) (m r : ℕ) → Topped above A → m < length A → 0 < r → above ≤ m → Topped (m + 1) (set A m r)
topped_next above A m r t hm hr h =
    record {
      top = λ z. at_store (λ x. 0 < x) A m (m + 1 - 1) r 0 hm (λ ne. absurd (ne (omega arith))) (λ e. hr);
      rest = λ k hk. at_store (λ x. x ≡ 0) A m k r 0 hm (λ ne. t.rest k (omega arith)) (λ e. absurd (omega arith));
    }

-- ---- a turn of the loop

module _ (u : List ℕ) (i n : ℕ) (h : i < n) where
  fall-turn : (k : ℕ) → falling (i + 1) k (drop i (rows_of n u)) ≡ cond (ltb (row_in u i).node k) (fall_at (i + 1)) (falling (i + 1 + 1) (row_in u i).node (drop (i + 1) (rows_of n u)))
  unfolding falling
  fall-turn k =
      let v : suc (i + 1) ≡ i + 1 + 1 = omega arith in
      ap (falling (i + 1) k) (rows_from_lem u n i h) ∙ ap (λ j. cond (ltb (row_in u i).node k) (fall_at (i + 1)) (falling j (row_in u i).node (drop (i + 1) (rows_of n u)))) v

  fall_hit : (k : ℕ) → (row_in u i).node < k → falling (i + 1) k (drop i (rows_of n u)) ≡ fall_at (i + 1)
  fall_hit k l = fall-turn k ∙ rw (lt-ltb (row_in u i).node k l)

  pub fall_miss : (above : ℕ) → above ≤ (row_in u i).node
      → falling (i + 1) (above - 1) (drop i (rows_of n u)) ≡ falling (i + 1 + 1) ((row_in u i).node + 1 - 1) (drop (i + 1) (rows_of n u))
  fall_miss above l =
      let e : (row_in u i).node ≡ (row_in u i).node + 1 - 1 = omega arith in
      fall-turn (above - 1) ∙ rw (le-ltb (row_in u i).node (above - 1) (omega arith)) (ap (λ k. falling (i + 1 + 1) k (drop (i + 1) (rows_of n u))) e)

  module _ (A : List ℕ) (above : ℕ) (ok : RowsSmall u n) (kn : Known (rows_of i u) A) (t : Topped above A) (l : (row_in u i).node < above) where
    abbrev twice : bitml.Fault
    twice = repeated (i + 1) (rows_of i u) (drop i (rows_of n u))

    -- a row that is not above the one before it has its node, or is out of order
    pub order_hit : or_else twice (fall_at (i + 1)) ≡ or_else twice (falling (i + 1) (above - 1) (drop i (rows_of n u)))
    order_hit = go (eqb (get_or A (row_in u i).node 0) 0) refl
      where
        go : (b : Bool) → eqb (get_or A (row_in u i).node 0) 0 ≡ b → or_else twice (fall_at (i + 1)) ≡ or_else twice (falling (i + 1) (above - 1) (drop i (rows_of n u)))
        go false e = rw (twice_hit u A i n ok kn h (eqb-false _ _ e))
        go true e =
            let z = eqb-true (get_or A (row_in u i).node 0) 0 e in
            let some : 0 < get_or A (above - 1) 0 = t.top (omega arith) in
            let ne : (row_in u i).node ≡ above - 1 → ⊥ = λ q. let y : get_or A (row_in u i).node 0 ≡ get_or A (above - 1) 0 = ap (λ k. get_or A k 0) q in omega arith in
            ap (or_else twice) (sym (fall_hit (above - 1) (lower ne)))
          where
            lower : ((row_in u i).node ≡ above - 1 → ⊥) → (row_in u i).node < above - 1
            lower ne = omega (arith, ne)

-- ---- where the loop ends

pub order-end : (u : List ℕ) (i n above : ℕ) → n ≤ i
    → or_else (repeated (i + 1) (rows_of i u) (drop i (rows_of n u))) (falling (i + 1) (above - 1) (drop i (rows_of n u))) ≡ record { number = 0; place = 0 }
unfolding falling
order-end u i n above h = rw (twice-end u i n h) (ap (falling (i + 1) (above - 1)) (rows_end u n i h))

-- ---- first two of one node, then the order, then the rest

or_else_assoc : (f g h : bitml.Fault) → or_else (or_else f g) h ≡ or_else f (or_else g h)
or_else_assoc f g h = go (eqb f.number 0) refl
  where
    go : (b : Bool) → eqb f.number 0 ≡ b → or_else (cond b g f) h ≡ cond b (or_else g h) f
    go true e = refl
    go false e = rw e

pub order_then : (R : List Row) (f : bitml.Fault) → or_else (repeated 1 [] R) (or_else (falling 1 0 R) f) ≡ or_else (order_fault R) f
unfolding order_fault
order_then R f = sym (or_else_assoc (repeated 1 [] R) (falling 1 0 R) f)
