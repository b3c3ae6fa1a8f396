-- Rows by rising node: of distinct nodes each is above those before it, so that the nodes fix the order. Assumes nothing.
use mathlib.Core.Path.{◌≡◌, refl, ap₂}
use mathlib.Core.Logic.{⊎_elim, by_cases}
use Prim.Native.Nat.{ℕ, ◌≤◌, ◌<◌}
use native.Mathlib.Omega.{arith}
use native.Mathlib.Decide.{dec_le}
use mathlib.Core.Bool.{true, false≢true}
use mathlib.Core.List.{List, [], ◌∷◌, Memᴰ}
use lib.Dec.{eqb}
use borrow.Author.Tests.{eqb-true, eq-eqb}
use Rattle.bitml.specs.Lists.{All, nil, cons}
use Rattle.bitml.specs.Rows.{Row, has, Distinct, apart, Rising, end, rise}
use Rattle.bitml.proofs.Lists.{or_l, or_r, or_cases, all_imp, all_of, any-mem}

-- ---- one row, and those behind it

pub distinct-first : {r : Row} {R : List Row} → Distinct (r ∷ R) → All (λ q. r.node ≡ q.node → ⊥) R
distinct-first (apart a d) = a

pub distinct-rest : {r : Row} {R : List Row} → Distinct (r ∷ R) → Distinct R
distinct-rest (apart a d) = d

pub rising-first : {n : ℕ} {r : Row} {R : List Row} → Rising n (r ∷ R) → n ≤ r.node
rising-first (rise h u) = h

pub rising-rest : {n : ℕ} {r : Row} {R : List Row} → Rising n (r ∷ R) → Rising r.node R
rising-rest (rise h u) = u

-- from a lower number on
pub rising_from : {j k : ℕ} {R : List Row} → j ≤ k → Rising k R → Rising j R
rising_from h end = end
rising_from {j} h (rise {r = r} g u) = rise {n = j} {r = r} (omega arith) u

-- and no node is below that number
pub rising-all : {n : ℕ} {R : List Row} → Rising n R → All (λ q. n ≤ q.node) R
rising-all end = nil
rising-all {n} (rise {r = r} h u) = cons h (all_imp (λ q k. let k' : r.node ≤ q.node = k in omega arith) (rising-all u))

-- ---- of distinct nodes

pub record Ordered (n : ℕ) (R : List Row) : Type 0 where
  pub distinct : Distinct R
  pub rising : Rising n R

module _ {m : ℕ} {r : Row} {R : List Row} (u : Ordered m (r ∷ R)) where
  rest : Ordered r.node R
  rest = record { distinct = distinct-rest u.distinct; rising = rising-rest u.rising }

  behind : (n : ℕ) → has R n ≡ true → r.node < n
  behind n h =
      let w = any-mem (λ q. eqb q.node n) R h in
      let e = eqb-true w.0.node n w.2 in
      let k : r.node ≤ w.0.node = all_of (rising-all (rising-rest u.rising)) w.1 in
      let ne : r.node ≡ w.0.node → ⊥ = all_of (distinct-first u.distinct) w.1 in
      by_cases (dec_le w.0.node r.node) (λ l. absurd (ne (omega arith))) (λ l. omega arith)

  first : (n : ℕ) → has (r ∷ R) n ≡ true → r.node ≤ n
  first n h = ⊎_elim (λ e. omega (arith, eqb-true r.node n e)) (λ k. omega (arith, behind n k)) (or_cases _ _ h)

later : (q : Row) (Q : List Row) (n : ℕ) → q.node < n → has (q ∷ Q) n ≡ true → has Q n ≡ true
later q Q n l h = ⊎_elim (λ e. absurd (omega (arith, eqb-true q.node n e))) (λ k. k) (or_cases _ _ h)

has_first : (r : Row) (R : List Row) → has (r ∷ R) r.node ≡ true
has_first r R = or_l _ _ (eq-eqb r.node r.node refl)

-- One list of rows for the same nodes
pub same_lists : (k l : ℕ) (R Q : List Row) → Ordered k R → Ordered l Q → ((n : ℕ) → has R n ≡ true → has Q n ≡ true) → ((n : ℕ) → has Q n ≡ true → has R n ≡ true)
    → ((r q : Row) → Memᴰ r R → Memᴰ q Q → r.node ≡ q.node → r ≡ q) → R ≡ Q
same_lists k l [] [] u v f g h = refl
same_lists k l [] (q ∷ Q) u v f g h = absurd (false≢true (g q.node (has_first q Q)))
same_lists k l (r ∷ R) [] u v f g h = absurd (false≢true (f r.node (has_first r R)))
same_lists k l (r ∷ R) (q ∷ Q) u v f g h =
    let e : r.node ≡ q.node = omega (arith, first u q.node (g q.node (has_first q Q)), first v r.node (f r.node (has_first r R))) in
    ap₂ ◌∷◌ (h r q (Memᴰ.head refl) (Memᴰ.head refl) e)
    (same_lists r.node q.node R Q (rest u) (rest v)
    (λ n i. later q Q n (omega (arith, behind u n i, e)) (f n (or_r _ _ i)))
    (λ n i. later r R n (omega (arith, behind v n i, e)) (g n (or_r _ _ i)))
    (λ x y a b. h x y (Memᴰ.tail a) (Memᴰ.tail b)))
