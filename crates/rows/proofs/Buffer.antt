-- The row buffer after `check`. Assumes nothing.
use mathlib.Core.Path.{◌≡◌, refl, ap}
use Prim.Native.Nat.{ℕ}
use mathlib.Core.Bool.{Bool, true, false, cond}
use mathlib.Core.List.{List, []}
use lib.ListN.{length}
use lib.Dec.{eqb}
use Rattle.bitml.specs.Rows as bitml
use Rattle.bitml.specs.Rows.{rank_of}
use Rattle.buffer.specs.Buffer.{rows_of, filled}
use Rattle.buffer.proofs.Buffer.{rows_none}
use Rattle.rows.specs.Given.{Liquid, Refused, answer_of, buffer_of}

module _ (u : List ℕ) (n : ℕ) (f : bitml.Fault) where
  -- accepted rows stay
  pub rows-stay : (c k : ℕ) → Liquid c k ≡ answer_of (rows_of n u) f → filled (length u) (rows_of n u) ≡ buffer_of (length u) (rows_of n u) f
  unfolding buffer_of answer_of
  rows-stay c k = go (eqb f.number 0)
    where
      go : (b : Bool) → Liquid c k ≡ cond b (Liquid (length (rows_of n u)) (rank_of (rows_of n u) 0)) (Refused f.number f.place)
          → filled (length u) (rows_of n u) ≡ cond b (filled (length u) (rows_of n u)) (filled (length u) [])
      go true e = refl
      go false e = absurd (cc)

  -- and refused ones do not
  pub rows-go : (m i : ℕ) → Refused m i ≡ answer_of (rows_of n u) f → filled (length u) (rows_of 0 u) ≡ buffer_of (length u) (rows_of n u) f
  unfolding buffer_of answer_of
  rows-go m i = go (eqb f.number 0)
    where
      go : (b : Bool) → Refused m i ≡ cond b (Liquid (length (rows_of n u)) (rank_of (rows_of n u) 0)) (Refused f.number f.place)
          → filled (length u) (rows_of 0 u) ≡ cond b (filled (length u) (rows_of n u)) (filled (length u) [])
      go true e = absurd (cc)
      go false e = ap (filled (length u)) (rows_none u)
