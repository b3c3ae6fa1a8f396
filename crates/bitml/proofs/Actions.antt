-- Laws of actions: what an own action is not, and what firing makes of it. Assumes nothing.
use mathlib.Core.Path.{◌≡◌, refl, ap}
use Prim.Native.Nat.{ℕ, ◌+◌, ◌-◌, ◌*◌, ◌/◌}
use mathlib.Core.Bool.{true, not, false≢true}
use mathlib.Core.List.{List, [], ◌∷◌, map}
use Rattle.bitml.specs.Lists.{sum, All, nil, cons}
use Rattle.bitml.specs.Sheet.{Sheet, Part, Branch, Action, withdraw, split, reveal, renew_as, node_at, def_at, parts}
use Rattle.bitml.specs.Runs.{next, own_action, own}
use Rattle.bitml.specs.Rows.{Row, rank_of}
use Rattle.bitml.specs.Ledger.{Contract, new_contract, is_renewal, renewed_as, splitting, making}
use Rattle.bitml.specs.Liquidity.{live_rank}
use Rattle.bitml.proofs.Lists.{and_r, all_head, all_tail}

pub renewal-is : (a : Action) → is_renewal a ≡ true → a ≡ renew_as (renewed_as a)
renewal-is (withdraw p) e = absurd (false≢true e)
renewal-is (split qs) e = absurd (false≢true e)
renewal-is (reveal js p n) e = absurd (false≢true e)
renewal-is (renew_as d) e = refl

pub parts_next : (s : Sheet) (a : Action) → not (is_renewal a) ≡ true → next s a ≡ parts a
parts_next s (withdraw p) e = refl
parts_next s (split qs) e = refl
parts_next s (reveal js p n) e = refl
parts_next s (renew_as d) e = absurd (false≢true e)

pub renewal-next : (s : Sheet) (a : Action) → is_renewal a ≡ true → next s a ≡ (def_at s (renewed_as a)).root ∷ []
renewal-next s a e = ap (next s) (renewal-is a e)

pub own-not-renewal : (s : Sheet) (p n : ℕ) (a : Action) → own_action s p n a ≡ true → not (is_renewal a) ≡ true
own-not-renewal s p n (withdraw q) e = refl
own-not-renewal s p n (split qs) e = refl
own-not-renewal s p n (reveal js c m) e = refl
own-not-renewal s p n (renew_as d) e = e

-- so what takes the node's place by an own branch are its contracts
pub own-parts : (s : Sheet) (p n : ℕ) (br : Branch) → own s p n br ≡ true → next s br.action ≡ parts br.action
own-parts s p n br e = parts_next s br.action (own-not-renewal s p (node_at s n).definition br.action (and_r _ _ e))

-- The contracts that firing makes have the nodes of the branch and the old set
pub making-all : (Q : Contract → Type 0) (k : Contract) (a : Action) → All (λ m. (v : ℕ) → Q (new_contract m v k.set)) (parts a) → All Q (making k a)
making-all Q k (withdraw p) h = nil
making-all Q k (split qs) h = go k.balance qs h
  where
    go : (left : ℕ) (ps : List Part) → All (λ m. (v : ℕ) → Q (new_contract m v k.set)) (parts (split ps))
        → All Q (splitting k.balance (sum (map (λ q. q.weight) qs)) left k.set ps)
    go left [] h = nil
    go left (q ∷ []) h = cons (all_head h left) nil
    go left (q ∷ r ∷ ps) h = cons (all_head h _) (go (left - k.balance * q.weight / sum (map (λ q. q.weight) qs)) (r ∷ ps) (all_tail h))
making-all Q k (reveal js p n) h = cons (all_head h k.balance) nil
making-all Q k (renew_as d) h = nil

-- Each of them lives, so their ranks add up to those of the branch's contracts
pub making-rank : (R : List Row) (k : Contract) (a : Action) → live_rank R (making k a) ≡ sum (map (rank_of R) (parts a))
making-rank R k (withdraw p) = refl
making-rank R k (split qs) = go k.balance qs
  where
    go : (left : ℕ) (ps : List Part)
        → live_rank R (splitting k.balance (sum (map (λ q. q.weight) qs)) left k.set ps) ≡ sum (map (rank_of R) (parts (split ps)))
    go left [] = refl
    go left (q ∷ []) = refl
    go left (q ∷ r ∷ ps) = ap (λ t. rank_of R q.node + t) (go (left - k.balance * q.weight / sum (map (λ q. q.weight) qs)) (r ∷ ps))
making-rank R k (reveal js p n) = refl
making-rank R k (renew_as d) = refl
