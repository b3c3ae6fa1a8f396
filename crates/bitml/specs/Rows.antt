-- "Rows": when rows are accepted, and the refusals 10 to 13 and 21 in their order and place. Assumes nothing.
use Rattle.std.specs.Prelude.{◌≡◌, ℕ, suc, ◌+◌, ◌≤◌, ◌<◌, Bool, true, false, cond, length, eqb, ltb, leb}
use mathlib.Core.List.{List, [], ◌∷◌, ◌++◌, map, Memᴰ}
use Rattle.bitml.specs.Lists.{◌&◌, ask, sum, every, any, All}
use Rattle.bitml.specs.Sheet.{Sheet, Action, branches_at, branch_at, has_branch, parts, def_at}
use Rattle.bitml.specs.Runs.{next, own}

-- "`row`,node,branch,rank"
pub record Row : Type 0 where
  pub node : ℕ
  pub branch : ℕ
  pub rank : ℕ

-- Node n has a row; the rank of its first one, 0 where it has none
abbrev pub has : List Row → ℕ → Bool
has R n = any (λ r. eqb r.node n) R

abbrev pub rank_of : List Row → ℕ → ℕ
rank_of [] n = 0
rank_of (r ∷ R) n = cond (eqb r.node n) r.rank (rank_of R n)

-- "1 + the sum of the ranks of the contracts in that branch"
abbrev pub least_rank : List Row → Action → ℕ
least_rank R a = suc (sum (map (rank_of R) (parts a)))

-- ---- "They are accepted if these hold, and in no other case"

-- "no node has two"
pub data Distinct : List Row → Type 0 where
  empty : Distinct []
  apart : {r : Row} {R : List Row} → All (λ q. r.node ≡ q.node → ⊥) R → Distinct R → Distinct (r ∷ R)

-- "for each row, all contracts of all its node's branches, and the roots they renew as, have rows"
abbrev pub Closed : Sheet → List Row → Row → Type 0
Closed s R r = (b m : ℕ) → b < length (branches_at s r.node) → Memᴰ m (next s (branch_at s r.node b).action) → has R m ≡ true

-- "its branch is own to P"
abbrev pub Mine : Sheet → ℕ → Row → Type 0
Mine s p r = (r.branch < length (branches_at s r.node)) × (own s p r.node (branch_at s r.node r.branch) ≡ true)

-- "its rank is at least 1 + the sum of the ranks of the contracts in that branch"
pub record Holds (s : Sheet) (p : ℕ) (R : List Row) (r : Row) : Type 0 where
  pub closed : Closed s R r
  pub mine : Mine s p r
  pub enough : least_rank R (branch_at s r.node r.branch).action ≤ r.rank

-- All this, and the rows may come in any order
pub record InAnyOrder (s : Sheet) (p : ℕ) (R : List Row) : Type 0 where
  pub distinct : Distinct R
  pub root : has R (def_at s 0).root ≡ true
  pub each : All (Holds s p R) R

-- "`make` now writes rows by rising node number .. `check` asks for the same order": no node is below n, nor below that of the row
-- before it
pub data Rising : ℕ → List Row → Type 0 where
  end : {n : ℕ} → Rising n []
  rise : {n : ℕ} {r : Row} {R : List Row} → n ≤ r.node → Rising r.node R → Rising n (r ∷ R)

pub record Accepted (s : Sheet) (p : ℕ) (R : List Row) : Type 0 where
  pub asked : InAnyOrder s p R
  pub rising : Rising 0 R

-- ---- "Rows: 10 .., 11 .., then row by row 11, 12, 13", and 21 "after 10 and before 11": the number of a refusal and the row's place,
-- from 1, and 0 for the line of `check`

-- What refuses a row: "a needed row is missing"; else "branch not own"; else "rank too low"
pub data Wrong (s : Sheet) (p : ℕ) (R : List Row) (r : Row) : ℕ → Type 0 where
  missing : (b m : ℕ) → b < length (branches_at s r.node) → Memᴰ m (next s (branch_at s r.node b).action) → has R m ≡ false → Wrong s p R r 11
  foreign : Closed s R r → (Mine s p r → ⊥) → Wrong s p R r 12
  low : Closed s R r → Mine s p r → r.rank < least_rank R (branch_at s r.node r.branch).action → Wrong s p R r 13

pub data FaultAt (s : Sheet) (p : ℕ) (R : List Row) : ℕ → ℕ → Type 0 where
  -- "10 over all rows (the first line whose node an earlier row has)"
  twice : (before after : List Row) (r : Row) → R ≡ before ++ r ∷ after → Distinct before → has before r.node ≡ true
      → FaultAt s p R 10 (suc (length before))
  -- "21 when a row's node is below that of the row before it, looked at over all rows": at the first such row
  fall : (before after : List Row) (q r : Row) → Distinct R → R ≡ before ++ q ∷ r ∷ after → Rising 0 (before ++ q ∷ []) → r.node < q.node
      → FaultAt s p R 21 (suc (suc (length before)))
  -- "11 for the root (line of `check`)"
  rootless : Distinct R → Rising 0 R → has R (def_at s 0).root ≡ false → FaultAt s p R 11 0
  -- "then row by row": the first that does not hold
  row : (before after : List Row) (r : Row) (n : ℕ) → Distinct R → Rising 0 R → has R (def_at s 0).root ≡ true
      → R ≡ before ++ r ∷ after → All (Holds s p R) before → Wrong s p R r n → FaultAt s p R n (suc (length before))

-- ---- `check`: 0 where the rows are accepted; else the number of the refusal and its place

pub record Fault : Type 0 where
  pub number : ℕ
  pub place : ℕ

abbrev pub or_else : Fault → Fault → Fault
or_else f g = cond (eqb f.number 0) g f

-- "10 over all rows (the first line whose node an earlier row has)"
unfoldable pub repeated : ℕ → List Row → List Row → Fault
repeated i seen [] = record { number = 0; place = 0 }
repeated i seen (r ∷ R) = cond (has seen r.node) (record { number = 10; place = i }) (repeated (suc i) (r ∷ seen) R)

-- "21 when a row's node is below that of the row before it, looked at over all rows": n is the node before, 0 for the first row
unfoldable pub falling : ℕ → ℕ → List Row → Fault
falling i n [] = record { number = 0; place = 0 }
falling i n (r ∷ R) = cond (ltb r.node n) (record { number = 21; place = i }) (falling (suc i) r.node R)

-- "then row by row 11, 12, 13"
unfoldable pub row_fault : Sheet → ℕ → List Row → Row → ℕ
row_fault s p R r =
    ask (every (λ br. every (has R) (next s br.action)) (branches_at s r.node)) 11
    (ask (has_branch s r.node r.branch & own s p r.node (branch_at s r.node r.branch)) 12
    (ask (leb (least_rank R (branch_at s r.node r.branch).action) r.rank) 13
    0))

unfoldable pub faulty : Sheet → ℕ → List Row → ℕ → List Row → Fault
faulty s p R i [] = record { number = 0; place = 0 }
faulty s p R i (r ∷ rs) = or_else (record { number = row_fault s p R r; place = i }) (faulty s p R (suc i) rs)

-- 21 "after 10 and before 11", and "11 for the root (line of `check`)"
unfoldable pub check : Sheet → ℕ → List Row → Fault
check s p R =
    or_else (repeated 1 [] R)
    (or_else (falling 1 0 R)
    (or_else (record { number = ask (has R (def_at s 0).root) 11 0; place = 0 })
    (faulty s p R 1 R)))
