-- What reading a condition gives: a cell for each field, in the order of the text. Assumes nothing.
use Rattle.std.specs.Prelude.{ℕ, zero, suc, ◌+◌, ◌*◌, ◌≤◌, ◌<◌, ◌≡◌, List, length, leb, eqb}
use Rattle.fields.specs.Field.{any_number, number_at, word_at}
use Rattle.tables.specs.declared.St.{St}
use Rattle.tables.specs.State.{State, Fits, with_cell, among, since}
use Rattle.steps.specs.Steps.{Read}
use Rattle.steps.specs.Steps.{Value, Bad}
use Rattle.steps.specs.Steps.{Outcome, next, bad, go_on, either, and_then, twice, Met}
use Rattle.conditions.specs.Words.{no_word, condition_cell, expression_cell}

-- "64 fields in a condition": a cell more for the field at p, unless the cells have come to the limit
unfoldable pub store_at : ℕ → ℕ → ℕ → State → Outcome
store_at limit p v a = either (leb limit (length a.cells)) (bad 7 p) (next (with_cell v a))

-- "`k`,number up to 1,000,000,000"
unfoldable pub constant_at : List ℕ → ℕ → State → Outcome
constant_at s limit a = go_on a (number_at s a.at 1000000000) λ v a₁. store_at limit a.at v a₁

-- after the cell of a word: `t` stands alone, `and` has two conditions, `not` one, `eq` and `lt` have two expressions
unfoldable pub clauses_at : (State → Outcome) → (State → Outcome) → ℕ → State → Outcome
clauses_at condition expression c a =
    either (eqb c 0) (next a)
    (either (eqb c 1) (twice condition a)
    (either (eqb c 2) (condition a)
    (twice expression a)))

-- the secrets that the `r` lists are listed from `from` on
module _ (s : List ℕ) (limit from : ℕ) where
  -- "`v` names a secret that the `r` lists": any other gets 6
  unfoldable pub secret_at : State → Outcome
  secret_at a =
      go_on a (number_at s a.at any_number) λ v a₁.
      either (among v (since from a₁.listed)) (store_at limit a.at v a₁) (bad 6 a.at)

  -- after the cell of a word: `k` has a number, `v` a secret, `add` and `sub` have two expressions
  unfoldable pub operands_at : (State → Outcome) → ℕ → State → Outcome
  operands_at expression c a = either (eqb c 0) (constant_at s limit a) (either (eqb c 1) (secret_at a) (twice expression a))

  -- "not the word due": any word but those of an expression gets 3; `rest` reads after it
  unfoldable pub expression_with : (ℕ → ℕ → State → Outcome) → State → Outcome
  expression_with rest a =
      go_on a (word_at s a.at) λ w a₁.
      either (eqb (expression_cell w) no_word) (bad 3 a.at) (rest a.at (expression_cell w) a₁)

  -- after a word at p, with d words left to nest: 64 words one in the other are 64 fields
  unfoldable pub expression_in : ℕ → ℕ → ℕ → State → Outcome
  expression_in zero p c a = bad 7 p
  expression_in (suc d) p c a = and_then (store_at limit p c a) (operands_at (expression_with (expression_in d)) c)

  -- "Expression e: `k`,number, `v`,secret, `add`,e,e, `sub`,e,e"
  unfoldable pub expression_at : ℕ → State → Outcome
  expression_at d = expression_with (expression_in d)

  -- the same of a condition's word
  unfoldable pub condition_with : (ℕ → ℕ → State → Outcome) → State → Outcome
  condition_with rest a =
      go_on a (word_at s a.at) λ w a₁.
      either (eqb (condition_cell w) no_word) (bad 3 a.at) (rest a.at (condition_cell w) a₁)

  -- after it, with d words left to nest
  unfoldable pub condition_in : ℕ → ℕ → ℕ → State → Outcome
  condition_in zero p c a = bad 7 p
  condition_in (suc d) p c a = and_then (store_at limit p c a) (clauses_at (condition_with (condition_in d)) (expression_at d) c)

  -- "condition: `t`, or `and`,p,p, `not`,p, `eq`,e,e, `lt`,e,e, each p a condition"
  unfoldable pub condition_at : ℕ → State → Outcome
  condition_at d = condition_with (condition_in d)

-- ---- what is promised of the counts

-- what is filled fits, and each cell took two bytes of a request that is not over 65,536: so there is room for a cell for each field
pub record HasRoom (s : List ℕ) (st : St) : Type 0 where
  pub fits : Fits st
  pub paid : 2 * st.cells ≤ st.at
  pub inside : st.at ≤ length s
  pub short : length s ≤ 65536

-- only cells were added, one at least
pub record Kept (s : List ℕ) (st e : St) : Type 0 where
  pub same_nodes : e.nodes ≡ st.nodes
  pub same-branches : e.branches ≡ st.branches
  pub same-defs : e.defs ≡ st.defs
  pub same-listed : e.listed ≡ st.listed
  pub more-cells : st.cells < e.cells
  pub paid-cells : 2 * e.cells ≤ e.at
  pub still_inside : e.at ≤ length s

-- an answer's number is how many fields may still come: with the cells it makes the limit
unfoldable pub Leaves : ℕ → Read → Type 0
Leaves limit (Value left e) = e.cells + left ≡ limit
Leaves limit (Bad n p) = Unit {0}

-- what is answered with `left` fields still to come: what is wanted, by the limit and by any depth from `left` on, for each word takes a field
pub record Within (s : List ℕ) (left : ℕ) (st : St) (want : ℕ → ℕ → Outcome) (r : Read) (t : List ℕ) : Type 0 where
  pub met : (d : ℕ) → left ≤ d → Met (Kept s st) (want (st.cells + left) d) r t
  pub leaves : Leaves (st.cells + left) r
