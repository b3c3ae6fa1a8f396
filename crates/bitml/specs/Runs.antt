-- "Runs and exits": abstract steps, runs, reached nodes, own branches, exits, liquid sheets. Assumes nothing.
use Rattle.std.specs.Prelude.{◌≡◌, ℕ, ◌<◌, Bool, true, false, length, eqb}
use mathlib.Core.List.{List, [], ◌∷◌, ◌++◌, map, Memᴰ}
use Rattle.bitml.specs.Lists.{◌&◌, ◌⇒◌, every, below}
use Rattle.bitml.specs.Sheet.{Sheet, Branch, Expr, number, secret, add, sub, Cond, always, both, neg, equal, less, holds, Action, withdraw, split, reveal, renew_as, node_at, def_at, branches_at, branch_at, signs, owns}

-- "`w` by nothing, `s` by its n contracts, `r` by its contract, `g` by the root of d"
abbrev pub next : Sheet → Action → List ℕ
next s (withdraw p) = []
next s (split ps) = map (λ q. q.node) ps
next s (reveal js c n) = n ∷ []
next s (renew_as d) = (def_at s d).root ∷ []

-- "An abstract configuration is a list of nodes .. A step replaces one node, by any of its branches"
pub data Step (s : Sheet) : List ℕ → List ℕ → Type 0 where
  step : (xs ys : List ℕ) (n b : ℕ) → b < length (branches_at s n) → Step s (xs ++ n ∷ ys) (xs ++ next s (branch_at s n b).action ++ ys)

-- Any number of steps
pub data Run (R : List ℕ → List ℕ → Type 0) : List ℕ → List ℕ → Type 0 where
  done : {xs : List ℕ} → Run R xs xs
  more : {xs ys zs : List ℕ} → R xs ys → Run R ys zs → Run R xs zs

-- "at first the root of definition 0 .. A node is reached if it occurs in some run"
pub record Reached (s : Sheet) (n : ℕ) : Type 0 where
  pub list : List ℕ
  pub run : Run (Step s) ((def_at s 0).root ∷ []) list
  pub there : Memᴰ n list

-- ---- "The steps own to P"

-- "branches whose signers are none but P": no signer, or P alone
abbrev pub only_signer : Sheet → ℕ → Branch → Bool
only_signer s p br = every (λ q. signs br q ⇒ eqb q p) (below s.participants)

-- "a condition that names no secret": no `v` stands anywhere in it, also not where it can't matter
abbrev pub closed_expr : Expr → Bool
closed_expr (number k) = true
closed_expr (secret j) = false
closed_expr (add e f) = closed_expr e & closed_expr f
closed_expr (sub e f) = closed_expr e & closed_expr f

abbrev pub closed : Cond → Bool
closed always = true
closed (both p q) = closed p & closed q
closed (neg p) = closed p
closed (equal e f) = closed_expr e & closed_expr f
closed (less e f) = closed_expr e & closed_expr f

-- "a condition that names no secret and is true counts as `t` when asking whether a branch is own": it asks for no value, so that any
-- serve to tell its truth
unfoldable pub counts_always : Cond → Bool
counts_always c = closed c & holds (λ j. 0) c

-- "with `w`, `s`, or an `r` whose secrets P owns all" and whose condition counts as `t`, in definition d. "`g` is never own, even with K = 1"
abbrev pub own_action : Sheet → ℕ → ℕ → Action → Bool
own_action s p d (withdraw q) = true
own_action s p d (split ps) = true
own_action s p d (reveal js c n) = every (owns s p d) js & counts_always c
own_action s p d (renew_as e) = false

-- Branch br of node n is own to p
abbrev pub own : Sheet → ℕ → ℕ → Branch → Bool
own s p n br = only_signer s p br & own_action s p (node_at s n).definition br.action

pub data OwnStep (s : Sheet) (p : ℕ) : List ℕ → List ℕ → Type 0 where
  own_step : (xs ys : List ℕ) (n b : ℕ) → b < length (branches_at s n) → own s p n (branch_at s n b) ≡ true
      → OwnStep s p (xs ++ n ∷ ys) (xs ++ next s (branch_at s n b).action ++ ys)

-- ---- exits

-- "A node has an exit if steps own to P lead from it alone to the empty list"
unfoldable pub Exit : Sheet → ℕ → ℕ → Type 0
Exit s p n = Run (OwnStep s p) (n ∷ []) []

-- The same without runs (`exit_is_tree`): an own branch, and exits of all that takes the node's place
pub data ExitTree (s : Sheet) (p : ℕ) : ℕ → Type 0 where
  leave : {n : ℕ} (b : ℕ) → b < length (branches_at s n) → own s p n (branch_at s n b) ≡ true
      → ((m : ℕ) → Memᴰ m (next s (branch_at s n b).action) → ExitTree s p m) → ExitTree s p n

-- "A sheet is liquid for P if every reached node has an exit"
unfoldable pub Liquid : Sheet → ℕ → Type 0
Liquid s p = (n : ℕ) → Reached s n → Exit s p n
