-- P's own events, firings, what P committed, and the first half of demand 3. Assumes nothing.
use Rattle.std.specs.Prelude.{◌≡◌, ℕ, ◌≤◌, Bool, true, false, not, cond, List, [], ◌∷◌, map, get_or, eqb}
use Rattle.std.proofs.Math.Option.{Option, none, some as the}
use Rattle.bitml.specs.Lists.{sum, every}
use Rattle.bitml.specs.Sheet.{Sheet, owns}
use Rattle.bitml.specs.Rows.{Row, rank_of, InAnyOrder}
use Rattle.bitml.specs.Ledger.{Ledger, Contract, Event, wait, sign, tell, fire, renew, set_at, the_branch, renewed_as, refusal, step, play, stipulated}
use Rattle.bitml.specs.Promises.{WellFormed}

-- "P's own events are `wait`, `fire`, `sign` by P and `tell` of P's secrets"
abbrev pub own_event : Sheet → ℕ → Ledger → Event → Bool
own_event s p l (wait d) = true
own_event s p l (sign q c b) = eqb q p
own_event s p l (tell i j) = owns s p (set_at l i).definition j
own_event s p l (fire c b) = true
own_event s p l (renew c b vs) = false

-- Each event of the list is P's own, and the ledger takes it
abbrev pub OwnPlay : Sheet → ℕ → Ledger → List Event → Type 0
OwnPlay s p l [] = Unit {0}
OwnPlay s p l (e ∷ es) = (own_event s p l e ≡ true) × (refusal s l e ≡ 0) × OwnPlay s p (step s l e) es

-- "Firings are `fire` events"
abbrev pub firing : Event → ℕ
firing (wait d) = 0
firing (sign p c b) = 0
firing (tell i j) = 0
firing (fire c b) = 1
firing (renew c b vs) = 0

abbrev pub firings : List Event → ℕ
firings es = sum (map firing es)

-- All contracts are empty: none lives
abbrev pub NoneLive : Ledger → Type 0
NoneLive l = every (λ k. not k.alive) l.contracts ≡ true

-- "a contract's rank in R is that of its node's row": the ranks of the live contracts, added up
abbrev pub live_rank : List Row → List Contract → ℕ
live_rank R ks = sum (map (λ k. cond k.alive (rank_of R k.node) 0) ks)

-- P alone can bring the ledger to one with Q, in at most m firings
pub record Way (s : Sheet) (p : ℕ) (l : Ledger) (Q : Ledger → Type 0) (m : ℕ) : Type 0 where
  pub events : List Event
  pub plays : OwnPlay s p l events
  pub ends : Q (play s l events)
  pub count : firings events ≤ m

-- ---- "Committed by P are the secrets that P owns, in set 0 and in the set of each taken renewal": they are numbers, and no `x`

abbrev pub is_number : Option ℕ → Bool
is_number none = false
is_number (the v) = true

-- In the values vs of a set of definition d
abbrev pub Numbers : Sheet → ℕ → ℕ → List (Option ℕ) → Type 0
Numbers s p d vs = (j : ℕ) → owns s p d j ≡ true → is_number (get_or vs j none) ≡ true

abbrev pub NumbersAt : Sheet → ℕ → Ledger → Event → Type 0
NumbersAt s p l (wait d) = Unit {0}
NumbersAt s p l (sign q c b) = Unit {0}
NumbersAt s p l (tell i j) = Unit {0}
NumbersAt s p l (fire c b) = Unit {0}
NumbersAt s p l (renew c b vs) = refusal s l (renew c b vs) ≡ 0 → Numbers s p (renewed_as (the_branch s l c b).action) vs

abbrev pub NumbersAlong : Sheet → ℕ → Ledger → List Event → Type 0
NumbersAlong s p l [] = Unit {0}
NumbersAlong s p l (e ∷ es) = NumbersAt s p l e × NumbersAlong s p (step s l e) es

-- ---- DEMAND 3, FIRST HALF, one claim about the whole list of events: wherever they lead from stipulation, taken or refused,
-- whoever made them and whatever the others committed, P alone can empty all contracts, in no more firings than the rows rank
-- the live contracts: accepted rows, or rows that only their order keeps from being so
unfoldable pub Liquidity : Type 0
Liquidity =
    (s : Sheet) → WellFormed s
    → (p : ℕ) (R : List Row) → InAnyOrder s p R
    → (vs : List (Option ℕ)) → Numbers s p 0 vs
    → (es : List Event) → NumbersAlong s p (stipulated s vs) es
    → Way s p (play s (stipulated s vs) es) NoneLive (live_rank R (play s (stipulated s vs) es).contracts)
