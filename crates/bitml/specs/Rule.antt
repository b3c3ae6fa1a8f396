-- "The published rule": ranks and branches, reached nodes, and what `make` answers. Assumes nothing.
use Rattle.std.specs.Prelude.{ℕ, zero, suc, ◌-◌, Bool, false, cond, List, [], ◌∷◌, map, length, get_or, eqb, ltb, leb}
use Rattle.bitml.specs.Lists.{◌&◌, ◌or◌, sum, every, any, keep, below}
use Rattle.bitml.specs.Sheet.{Sheet, Node, branches_at, branch_at, parts, def_at}
use Rattle.bitml.specs.Runs.{next, own}
use Rattle.bitml.specs.Rows.{Row}

-- ---- ranks: 0 where the node has no exit

pub record Choice : Type 0 where
  pub branch : ℕ
  pub rank : ℕ

abbrev pub no_choice : Choice
no_choice = record { branch = 0; rank = 0 }

-- "rank is the least such number over own branches whose contracts all have exits": 1 + the sum, by the ranks ks of the
-- contracts in a branch; 0 where the branch is not own, or some contract has no exit
unfoldable pub cost_of : Bool → List ℕ → ℕ
cost_of mine ks = cond (mine & every (ltb 0) ks) (suc (sum ks)) 0

-- Branch b of node n, by the ranks of the nodes after n
unfoldable pub cost : Sheet → ℕ → ℕ → (ℕ → ℕ) → ℕ → ℕ
cost s p n rank_of b = cost_of (own s p n (branch_at s n b)) (map rank_of (parts (branch_at s n b).action))

-- "branch the lowest with that rank": one candidate against the choice among those behind it
unfoldable pub better : ℕ → ℕ → Choice → Choice
better k b c = cond (ltb 0 k & (eqb c.rank 0 or leb k c.rank)) (record { branch = b; rank = k }) c

unfoldable pub choose : (ℕ → ℕ) → List ℕ → Choice
choose f [] = no_choice
choose f (b ∷ bs) = better (f b) b (choose f bs)

-- The candidates at a node, in the order in which they are preferred
abbrev pub candidates : Node → List ℕ
candidates nd = below (length nd.branches)

-- The choices at the nodes from number k on. Contracts stand behind the node whose branch holds them, so that their ranks are known
unfoldable pub choices : Sheet → ℕ → ℕ → List Node → List Choice
choices s p k [] = []
choices s p k (nd ∷ nds) =
    let later = choices s p (suc k) nds in
    choose (cost s p k (λ m. (get_or later (m - suc k) no_choice).rank)) (candidates nd) ∷ later

unfoldable pub choice_at : Sheet → ℕ → ℕ → Choice
choice_at s p n = get_or (choices s p 0 s.nodes) n no_choice

abbrev pub rank_at : Sheet → ℕ → ℕ → ℕ
rank_at s p n = (choice_at s p n).rank

-- ---- reached nodes: the root of definition 0, and in as many rounds as there are nodes what a step leads to

abbrev pub leads : Sheet → ℕ → ℕ → Bool
leads s m n = any (λ br. any (eqb n) (next s br.action)) (branches_at s m)

unfoldable pub round : Sheet → List Bool → List Bool
round s ms = map (λ n. get_or ms n false or any (λ m. get_or ms m false & leads s m n) (below (length s.nodes))) (below (length s.nodes))

unfoldable pub rounds : Sheet → ℕ → List Bool
rounds s zero = map (eqb (def_at s 0).root) (below (length s.nodes))
rounds s (suc k) = round s (rounds s k)

unfoldable pub reached : Sheet → ℕ → Bool
reached s n = get_or (rounds s (length s.nodes)) n false

-- ---- `make`

-- "one row for each reached node", by rising number
unfoldable pub row_for : Sheet → ℕ → ℕ → Row
row_for s p n = record { node = n; branch = (choice_at s p n).branch; rank = (choice_at s p n).rank }

unfoldable pub rows : Sheet → ℕ → List Row
rows s p = map (row_for s p) (keep (reached s) (below (length s.nodes)))

-- The reached nodes without exit, by rising number
unfoldable pub stuck : Sheet → ℕ → List ℕ
stuck s p = keep (λ n. reached s n & eqb (rank_at s p n) 0) (below (length s.nodes))

-- "`liquid` ..; `frozen` has participant, node, and is printed without rows": the lowest reached node that has no exit
pub data Verdict : Type 0 where
  liquid : List Row → Verdict
  frozen : ℕ → Verdict

abbrev pub verdict : List ℕ → List Row → Verdict
verdict [] R = liquid R
verdict (n ∷ ns) R = frozen n

unfoldable pub make : Sheet → ℕ → Verdict
make s p = verdict (stuck s p) (rows s p)
