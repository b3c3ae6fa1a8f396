-- What reading a contract gives, from the actions out to the contract: entries in the order of the text. Assumes nothing.
use Rattle.std.specs.Prelude.{ℕ, zero, suc, ◌+◌, List, length, ltb, leb, eqb}
use Rattle.fields.specs.Field.{spelled, any_number, number_at, word_at}
use Rattle.tables.specs.declared.Head.{Head}
use Rattle.tables.specs.declared.Action.{Action}
use Rattle.tables.specs.State.{State, with_node, with_branch, with_listed, node_entry, branch_entry, among, since}
use Rattle.tables.specs.Entries.{most_nodes, most_branches}
use Rattle.steps.specs.Steps.{Outcome, next, bad, go_on, either, and_then, times}
use Rattle.conditions.specs.Condition.{condition_at}
use Rattle.contracts.specs.declared.Limits.{Limits}

-- the words c, w, s, r and g, each of one byte
abbrev pub c_word : ℕ
c_word = spelled "c"

abbrev pub w_word : ℕ
w_word = spelled "w"

abbrev pub s_word : ℕ
s_word = spelled "s"

abbrev pub r_word : ℕ
r_word = spelled "r"

abbrev pub g_word : ℕ
g_word = spelled "g"

abbrev pub action : ℕ → ℕ → ℕ → ℕ → ℕ → Action
action kind arg first count cond = record { kind = kind; arg = arg; first = first; count = count; cond = cond }

-- a contract reader: of the contract that a branch holds with a weight
abbrev pub ContractReader : Type 0
ContractReader = ℕ → ℕ → State → Outcome

-- branch b with its action, and the contract that it holds
unfoldable pub hold_at : ContractReader → Head → Action → ℕ → State → Outcome
hold_at contract h act b a = contract b 0 (with_branch (branch_entry h act) a)

module _ (s : List ℕ) where
  -- "`w`,p pays the balance to p", "`g`,d renews as definition d": 6 where there is no such participant or definition
  unfoldable pub leaf_at : Head → ℕ → ℕ → State → Outcome
  leaf_at h kind limit a =
      go_on a (number_at s a.at any_number) λ p a₁.
      either (ltb p limit) (next (with_branch (branch_entry h (action kind p 0 0 0)) a₁)) (bad 6 a.at)

  -- "n times weight (0 to 1,000) and contract", of branch b, after weights of a sum; "weights add to 0, at the last weight" gets 8
  unfoldable pub weighed_at : ContractReader → ℕ → ℕ → ℕ → State → Outcome
  weighed_at contract b sum zero a = next a
  weighed_at contract b sum (suc n) a =
      go_on a (number_at s a.at 1000) λ w a₁.
      either (eqb (n + (sum + w)) 0) (bad 8 a.at)
      (and_then (contract b w a₁) (weighed_at contract b (sum + w) n))

  -- "`s`,n, then n times weight and contract, n from 1 to 8"
  unfoldable pub split_at : ContractReader → Head → State → Outcome
  split_at contract h a =
      go_on a (number_at s a.at 8) λ n a₁.
      either (eqb n 0) (bad 4 a.at)
      (weighed_at contract (length a.branches) 0 n (with_branch (branch_entry h (action 1 n 0 0 0)) a₁))

  -- a secret of an `r`, listed from `from` on: "secret twice in one `r`" gets 5, "no such secret" 6
  unfoldable pub list_at : ℕ → ℕ → State → Outcome
  list_at secrets from a =
      go_on a (number_at s a.at any_number) λ v a₁.
      either (among v (since from a₁.listed)) (bad 5 a.at)
      (either (leb secrets v) (bad 6 a.at) (next (with_listed v a₁)))

  -- after the n secrets of an `r`: "condition, contract"; "64 fields in a condition"; its contract is the next node
  unfoldable pub open_at : ContractReader → Head → ℕ → ℕ → State → Outcome
  open_at contract h n from a =
      and_then (condition_at s (length a.cells + 64) from 64 a) λ a₁.
      hold_at contract h (action 2 (length a₁.nodes) from n (length a.cells)) (length a₁.branches) a₁

  -- "`r`, count (1 to 8), secrets, condition, contract"
  unfoldable pub reveal_at : ℕ → ContractReader → Head → State → Outcome
  reveal_at secrets contract h a =
      go_on a (number_at s a.at 8) λ n a₁.
      either (eqb n 0) (bad 4 a.at)
      (and_then (times n (list_at secrets (length a₁.listed)) a₁) (open_at contract h n (length a₁.listed)))

  -- the word `c` or 3, and what `inside` reads after it
  unfoldable pub contract_with : (ℕ → ContractReader) → ContractReader
  contract_with inside b w a =
      go_on a (word_at s a.at) λ v a₁.
      either (eqb v c_word) (inside a.at b w a₁) (bad 3 a.at)

module _ (s : List ℕ) (lim : Limits) where
  -- "an action", by its word at p: any other word gets 3
  unfoldable pub action_at : ContractReader → Head → ℕ → State → ℕ → Outcome
  action_at contract h p a w =
      either (eqb w w_word) (leaf_at s h 0 lim.people a)
      (either (eqb w s_word) (split_at s contract h a)
      (either (eqb w r_word) (reveal_at s lim.secrets contract h a)
      (either (eqb w g_word) (leaf_at s h 3 lim.defs a)
      (bad 3 p))))

  -- "branch: signers (2^K or more gets 6), opening time (0 to 4,294,967,295), an action"; "1,024 branches", 7 "at the signers field"
  unfoldable pub read_branch : ContractReader → ℕ → State → Outcome
  read_branch contract node a =
      go_on a (number_at s a.at any_number) λ g a₁.
      either (leb lim.all g) (bad 6 a.at)
      (either (leb most_branches (length a.branches)) (bad 7 a.at)
      (go_on a₁ (number_at s a₁.at 4294967295) λ t a₂.
      go_on a₂ (word_at s a₂.at) λ w a₃.
      action_at contract (record { node = node; signers = g; opens = t }) a₂.at a₃ w))

  -- "count of branches (0 to 16), the branches", after the `c` at p; "512 nodes, contracts 32 deep", 7 "at the `c`", with d levels left
  unfoldable pub inside_at : ℕ → ℕ → ContractReader
  inside_at zero p b w a = bad 7 p
  inside_at (suc d) p b w a =
      either (leb most_nodes (length a.nodes)) (bad 7 p)
      (go_on a (number_at s a.at 16) λ n a₁.
      times n (read_branch (contract_with s (inside_at d)) (length a.nodes)) (with_node (node_entry lim.def b w n) a₁))

  -- "contract: `c`, count of branches, the branches"
  unfoldable pub read_contract : ℕ → ContractReader
  read_contract d = contract_with s (inside_at d)
