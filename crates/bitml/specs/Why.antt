-- "Telling the drafter why": a shortest run to the frozen node, the first of them, and a cause for each branch there. Assumes nothing.
use Rattle.std.specs.Prelude.{◌≡◌, ℕ, zero, suc, ◌≤◌, ◌<◌, Bool, true, false, not, cond, length, get_or, eqb, ltb}
use mathlib.Core.List.{List, [], ◌∷◌, ◌++◌, map, Memᴰ}
use Rattle.bitml.specs.Lists.{◌&◌, ◌or◌, ask, every, any}
use Rattle.bitml.specs.Sheet.{Sheet, Branch, Cond, always, Action, withdraw, split, reveal, renew_as, node_at, def_at, branches_at, branch_at, signs, owns, parts}
use Rattle.bitml.specs.Runs.{Step, step, Run, done, more, next, only_signer, counts_always, Exit}
use Rattle.bitml.specs.Rule.{rank_at, make, frozen}
use Rattle.bitml.specs.Ledger.{is_renewal}
use Rattle.bitml.specs.Promises.{WellFormed}

-- ---- runs, written down

-- "`step`,node,branch"
pub record Move : Type 0 where
  pub node : ℕ
  pub branch : ℕ

-- "A step replaces one node, by any of its branches": which node, and which branch
abbrev pub move_of : {s : Sheet} {xs ys : List ℕ} → Step s xs ys → Move
move_of (step xs ys n b h) = record { node = n; branch = b }

-- The moves of a run, in their order
abbrev pub moves : {s : Sheet} {xs ys : List ℕ} → Run (Step s) xs ys → List Move
moves done = []
moves (more st r) = move_of st ∷ moves r

-- The moves ms are "an abstract run from the start to a list that holds" node t
pub record LeadsTo (s : Sheet) (start : List ℕ) (t : ℕ) (ms : List Move) : Type 0 where
  pub list : List ℕ
  pub run : Run (Step s) start list
  pub there : Memᴰ t list
  pub written : moves run ≡ ms

-- "compared step by step by node, then branch": the first list is the second, or comes before it
pub data NotAfter : List Move → List Move → Type 0 where
  ended : NotAfter [] []
  by_node : {m k : Move} {ms ks : List Move} → m.node < k.node → NotAfter (m ∷ ms) (k ∷ ks)
  by_branch : {m k : Move} {ms ks : List Move} → m.node ≡ k.node → m.branch < k.branch → NotAfter (m ∷ ms) (k ∷ ks)
  by_rest : {m : Move} {ms ks : List Move} → NotAfter ms ks → NotAfter (m ∷ ms) (m ∷ ks)

-- "with no shorter run doing so. Among the shortest runs it takes the first"
pub record FirstShortest (s : Sheet) (start : List ℕ) (t : ℕ) (ms : List Move) : Type 0 where
  pub leads : LeadsTo s start t ms
  pub shortest : (ks : List Move) → LeadsTo s start t ks → length ms ≤ length ks
  pub first : (ks : List Move) → LeadsTo s start t ks → length ks ≡ length ms → NotAfter ms ks

-- ---- the same, computed

-- At most k steps, one after the other, lead from node n to node t
unfoldable pub near : Sheet → ℕ → ℕ → ℕ → Bool
near s t zero n = eqb n t
near s t (suc k) n = near s t k n or any (λ br. any (near s t k) (next s br.action)) (branches_at s n)

-- The lowest of the numbers k, k + 1, .., k + n - 1 that passes the test; k + n where none does
unfoldable pub lowest : (ℕ → Bool) → ℕ → ℕ → ℕ
lowest t k zero = k
lowest t k (suc n) = cond (t k) k (lowest t (suc k) n)

-- With k + 1 steps to go from one of the nodes xs: the lowest node that will do, and its lowest branch that will
unfoldable pub node_toward : Sheet → ℕ → ℕ → List ℕ → ℕ
node_toward s t k xs = lowest (λ n. any (eqb n) xs & near s t (suc k) n) 0 (length s.nodes)

unfoldable pub branch_toward : Sheet → ℕ → ℕ → ℕ → ℕ
branch_toward s t k n = lowest (λ b. any (near s t k) (next s (branch_at s n b).action)) 0 (length (branches_at s n))

-- k steps, the first from one of the nodes xs, each other from a node that the step before it made
unfoldable pub trail : Sheet → ℕ → ℕ → List ℕ → List Move
trail s t zero xs = []
trail s t (suc k) xs =
    let n = node_toward s t k xs in
    let b = branch_toward s t k n in
    record { node = n; branch = b } ∷ trail s t k (next s (branch_at s n b).action)

-- "no shorter run": how many steps a run from the start needs, looked for up to the number of nodes, which is enough
unfoldable pub distance : Sheet → ℕ → ℕ
distance s t = lowest (λ k. near s t k (def_at s 0).root) 0 (length s.nodes)

-- The lines `step`
unfoldable pub steps_to : Sheet → ℕ → List Move
steps_to s t = trail s t (distance s t) ((def_at s 0).root ∷ [])

-- ---- causes

-- "1 another must sign, 2 a secret is another's, 3 a condition that doesn't count as `t`, 4 a renewal, 5 a contract in it lacks an
-- exit": of branch br of node n
pub data Cause (s : Sheet) (p n : ℕ) (br : Branch) : ℕ → Type 0 where
  signer : (q : ℕ) → q < s.participants → signs br q ≡ true → (q ≡ p → ⊥) → Cause s p n br 1
  secret : (js : List ℕ) (c : Cond) (m j : ℕ) → br.action ≡ reveal js c m → Memᴰ j js → owns s p (node_at s n).definition j ≡ false → Cause s p n br 2
  condition : (js : List ℕ) (c : Cond) (m : ℕ) → br.action ≡ reveal js c m → counts_always c ≡ false → Cause s p n br 3
  renewal : (d : ℕ) → br.action ≡ renew_as d → Cause s p n br 4
  contract : (m : ℕ) → Memᴰ m (parts br.action) → (Exit s p m → ⊥) → Cause s p n br 5

-- "The lowest that applies is printed .. the cause holds, and no lower cause does"
pub record LowestCause (s : Sheet) (p n : ℕ) (br : Branch) (k : ℕ) : Type 0 where
  pub holds : Cause s p n br k
  pub lowest : (j : ℕ) → j < k → Cause s p n br j → ⊥

-- "`r`, count (1 to 8), secrets, condition, contract": what an action lists and asks; any other lists nothing, and asks what always holds
abbrev pub secrets_of : Action → List ℕ
secrets_of (withdraw q) = []
secrets_of (split qs) = []
secrets_of (reveal js c m) = js
secrets_of (renew_as d) = []

abbrev pub condition_of : Action → Cond
condition_of (withdraw q) = always
condition_of (split qs) = always
condition_of (reveal js c m) = c
condition_of (renew_as d) = always

-- One test for each of the causes 1 to 4, which passes where the cause does not hold: a branch that passes them all is own
unfoldable pub own_tests : Sheet → ℕ → ℕ → Branch → List Bool
own_tests s p n br =
    only_signer s p br
    ∷ every (owns s p (node_at s n).definition) (secrets_of br.action)
    ∷ counts_always (condition_of br.action)
    ∷ not (is_renewal br.action)
    ∷ []

-- and one for cause 5
unfoldable pub clear : Sheet → ℕ → ℕ → Branch → List Bool
clear s p n br = own_tests s p n br ++ (every (λ m. ltb 0 (rank_at s p m)) (parts br.action) ∷ [])

-- The number, from k, of the first test that fails; 0 where none does
unfoldable pub failing : ℕ → List Bool → ℕ
failing k [] = 0
failing k (t ∷ ts) = ask t k (failing (suc k) ts)

-- What keeps a branch from being own; 0 where it is own
unfoldable pub bar : Sheet → ℕ → ℕ → Branch → ℕ
bar s p n br = failing 1 (own_tests s p n br)

-- "The lowest that applies": 0 where none does
unfoldable pub cause : Sheet → ℕ → ℕ → Branch → ℕ
cause s p n br = failing 1 (clear s p n br)

-- The lines `branch`: "for each branch of the frozen node, by rising number"
unfoldable pub causes : Sheet → ℕ → ℕ → List ℕ
causes s p n = map (cause s p n) (branches_at s n)

-- ---- THE CLAIM, of every frozen node that `make` names

pub record Explained (s : Sheet) (p n : ℕ) : Type 0 where
  pub steps : FirstShortest s ((def_at s 0).root ∷ []) n (steps_to s n)
  pub each : length (causes s p n) ≡ length (branches_at s n)
  pub branch : (b : ℕ) → b < length (branches_at s n) → LowestCause s p n (branch_at s n b) (get_or (causes s p n) b 0)

unfoldable pub Why : Type 0
Why = (s : Sheet) → WellFormed s → (p n : ℕ) → make s p ≡ frozen n → Explained s p n
