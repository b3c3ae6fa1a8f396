-- Nodes numbered in order of appearance, and the bound that follows: no rank is above the number of nodes. Assumes nothing.
use mathlib.Core.Path.{◌≡◌, refl}
use Prim.Native.Nat.{ℕ, zero, suc, ◌+◌, ◌≤◌, ◌<◌}
use native.Mathlib.Omega.{arith}
use native.Mathlib.Decide.{dec_le}
use mathlib.Core.Logic.{by_cases}
use mathlib.Core.List.{List, [], ◌∷◌, ◌++◌, map, Memᴰ}
use lib.ListN.{length, get_or}
use Rattle.bitml.specs.Lists.{sum}
use Rattle.bitml.specs.Sheet.{Sheet, Branch, branches_at, branch_at, no_branch, parts}
use Rattle.bitml.specs.Promises.{WellFormed}
use Rattle.bitml.specs.Rule.{choice_at, rank_at}
use Rattle.bitml.proofs.Exits.{chosen, ranked_in}
use Rattle.bitml.proofs.Lists.{mem-le-sum, all_of}

-- All contracts of all branches, in order
abbrev pub inner : List Branch → List ℕ
inner [] = []
inner (br ∷ brs) = parts br.action ++ inner brs

-- The nodes ms stand one behind the other, from number k up to e
abbrev pub Chain : (ℕ → ℕ) → ℕ → List ℕ → ℕ → Type 0
Chain end k [] e = k ≡ e
Chain end k (m ∷ ms) e = (k ≡ m) × Chain end (end m) ms e

-- "Each `c` is a node, numbered over the whole sheet in order of appearance": the contracts in a node's branches follow it, one behind the other
pub record Preorder (s : Sheet) : Type 0 where
  pub end : ℕ → ℕ
  pub after : (n : ℕ) → n < end n
  pub inside : (n : ℕ) → n < length s.nodes → Chain end (suc n) (inner (branches_at s n)) (end n) × (end n ≤ length s.nodes)

module _ (end : ℕ → ℕ) (after : (n : ℕ) → n < end n) where
  chain_le : (k : ℕ) (ms : List ℕ) (e : ℕ) → Chain end k ms e → k ≤ e
  chain_le k [] e c = omega arith
  chain_le k (m ∷ ms) e c = omega (arith, chain_le (end m) ms e c.1, after m, c.0)

  -- part of a chain
  chain_sum : (f : ℕ → ℕ) (k : ℕ) (ms ns : List ℕ) (e : ℕ) → Chain end k (ms ++ ns) e
      → ((m : ℕ) → Memᴰ m ms → f m + m ≤ end m) → sum (map f ms) + k ≤ e
  chain_sum f k [] ns e c h = omega (arith, chain_le k ns e c)
  chain_sum f k (m ∷ ms) ns e c h =
      omega (arith, chain_sum f (end m) ms ns e c.1 (λ a b. h a (Memᴰ.tail b)), h m (Memᴰ.head refl), c.0)

  chain_skip : (k : ℕ) (ms ns : List ℕ) (e : ℕ) → Chain end k (ms ++ ns) e → (k' : ℕ) × (k ≤ k') × Chain end k' ns e
  chain_skip k [] ns e c = (k, omega arith, c)
  chain_skip k (m ∷ ms) ns e c = let w = chain_skip (end m) ms ns e c.1 in (w.0, omega (arith, w.1, after m, c.0), w.2)

  chain_branch : (k : ℕ) (brs : List Branch) (b : ℕ) (e : ℕ) → b < length brs → Chain end k (inner brs) e
      → (k' : ℕ) × (ns : List ℕ) × (k ≤ k') × Chain end k' (parts (get_or brs b no_branch).action ++ ns) e
  chain_branch k [] b e h c = absurd (omega arith)
  chain_branch k (br ∷ brs) zero e h c = (k, inner brs, omega arith, c)
  chain_branch k (br ∷ brs) (suc b) e h c =
      let d = chain_skip k (parts br.action) (inner brs) e c in
      let w = chain_branch d.0 brs b e (omega arith) d.2 in
      (w.0, w.1, omega (arith, w.2, d.1), w.3)

module _ (s : Sheet) (wf : WellFormed s) (pre : Preorder s) (p : ℕ) where
  -- by induction on the rank
  rank-end : (k n : ℕ) → rank_at s p n ≤ k → 0 < rank_at s p n → rank_at s p n + n ≤ pre.end n
  rank-end zero n hk h = absurd (omega arith)
  rank-end (suc k) n hk h =
      let c = chosen s wf p n h in
      let b = (choice_at s p n).branch in
      let i = pre.inside n (ranked_in s wf p n h) in
      let w = chain_branch pre.end pre.after (suc n) (branches_at s n) b (pre.end n) c.there i.0 in
      let u = chain_sum pre.end pre.after (rank_at s p) w.0 (parts (branch_at s n b).action) w.1 (pre.end n) w.3
      (λ m hm. rank-end k m (omega (arith, mem-le-sum (rank_at s p) (parts (branch_at s n b).action) hm, c.rank)) (all_of c.served hm)) in
      omega (arith, w.2, c.rank)

  pub rank_bound : (n : ℕ) → rank_at s p n ≤ length s.nodes
  rank_bound n = by_cases (dec_le 1 (rank_at s p n))
      (λ h. omega (arith, rank-end (rank_at s p n) n (omega arith) h, (pre.inside n (ranked_in s wf p n h)).1))
      (λ h. omega arith)
