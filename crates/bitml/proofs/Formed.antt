-- The promises as a test that computes: so the starred sheets keep them. Assumes nothing.
use mathlib.Core.Path.{◌≡◌, refl}
use Prim.Native.Nat.{ℕ, ◌<◌}
use native.Mathlib.Omega.{arith}
use mathlib.Core.Bool.{Bool, true}
use mathlib.Core.List.{Memᴰ}
use lib.ListN.{length}
use lib.Dec.{eqb, ltb}
use borrow.Author.Tests.{eqb-true, ltb-true, lt-ltb, le-ltb}
use Rattle.bitml.specs.Lists.{◌&◌, every, below, nil, cons}
use Rattle.bitml.specs.Sheet.{Sheet, Branch, Action, withdraw, split, reveal, renew_as, no_node, node_at, no_branch, branches_at, branch_at, def_at, parts}
use Rattle.bitml.specs.Promises.{WellFormed}
use Rattle.bitml.specs.Stars.{branch, node, halves, sheet, T, M, D, R, On, Seven, Promised}
use Rattle.bitml.proofs.Lists.{and_l, and_r, every-mem, every-at, in_range, mem_up}

abbrev renews_in : ℕ → Action → Bool
renews_in k (withdraw p) = true
renews_in k (split qs) = true
renews_in k (reveal js c n) = true
renews_in k (renew_as d) = ltb d k

abbrev part_fits : Sheet → ℕ → ℕ → Bool
part_fits s n m = ltb n m & ltb m (length s.nodes) & eqb (node_at s m).definition (node_at s n).definition

abbrev branch_fits : Sheet → ℕ → Branch → Bool
branch_fits s n br = renews_in (length s.defs) br.action & every (part_fits s n) (parts br.action)

abbrev root_fits : Sheet → ℕ → Bool
root_fits s d = ltb (def_at s d).root (length s.nodes) & eqb (node_at s (def_at s d).root).definition d

unfoldable formed : Sheet → Bool
formed s =
    ltb 0 (length s.defs) & every (root_fits s) (below (length s.defs))
    & every (λ n. every (branch_fits s n) (branches_at s n)) (below (length s.nodes))

renews_in_lem : (k d : ℕ) (a : Action) → a ≡ renew_as d → renews_in k a ≡ true → d < k
renews_in_lem k d a e h = ltb-true d k (rw e at h)

module _ (s : Sheet) (f : formed s ≡ true) where
  root-fits : (d : ℕ) → d < length s.defs → root_fits s d ≡ true
  unfolding formed
  root-fits d h = every-mem (root_fits s) (below (length s.defs)) (and_l _ _ (and_r _ _ f)) (mem_up 0 (length s.defs) d (omega arith) (omega arith))

  branch_fits_lem : (n b : ℕ) → b < length (branches_at s n) → branch_fits s n (branch_at s n b) ≡ true
  unfolding formed
  branch_fits_lem n b h =
      let hn : n < length s.nodes = in_range (λ nd. ltb b (length nd.branches)) s.nodes n no_node (le-ltb b 0 (omega arith)) (lt-ltb _ _ h) in
      every-at (branch_fits s n) (branches_at s n) b no_branch
      (every-mem (λ n. every (branch_fits s n) (branches_at s n)) (below (length s.nodes)) (and_r _ _ (and_r _ _ f)) (mem_up 0 (length s.nodes) n (omega arith) (omega arith))) h

  part_fits_lem : (n b m : ℕ) → b < length (branches_at s n) → Memᴰ m (parts (branch_at s n b).action) → part_fits s n m ≡ true
  part_fits_lem n b m h hm = every-mem (part_fits s n) _ (and_r _ _ (branch_fits_lem n b h)) hm

  well_formed_lem : WellFormed s
  unfolding formed
  well_formed_lem =
      record {
        some-def = ltb-true _ _ (and_l _ _ f);
        part_after = λ n b m h hm. (ltb-true _ _ (and_l _ _ (part_fits_lem n b m h hm)), ltb-true _ _ (and_l _ _ (and_r _ _ (part_fits_lem n b m h hm))));
        part_of = λ n b m h hm. eqb-true _ _ (and_r _ _ (and_r _ _ (part_fits_lem n b m h hm)));
        root_in = λ d h. ltb-true _ _ (and_l _ _ (root-fits d h));
        root_of = λ d h. eqb-true _ _ (and_r _ _ (root-fits d h));
        renewal_in = λ n b d h e. renews_in_lem _ d _ e (and_l _ _ (branch_fits_lem n b h));
      }

pub promised : Promised
unfolding Promised formed T M D R On Seven sheet node branch halves ◌&◌
promised c =
    cons (well_formed_lem T refl) (cons (well_formed_lem M refl) (cons (well_formed_lem D refl) (cons (well_formed_lem R refl)
    (cons (well_formed_lem (On c) refl) (cons (well_formed_lem Seven refl) nil)))))
