-- "The sheet": the text of a sheet, one clause for each rule of the grammar, from participants, definitions, nodes, branches, actions and
-- conditions alone. `word` and `field` begin with their comma. Assumes nothing.
use Rattle.std.specs.Prelude.{ℕ, zero, suc, List, [], ◌∷◌, ◌++◌, length}
use Prim.Native.Char.{code}
use Rattle.bitml.specs.Lists.{gather}
use Rattle.bitml.specs.Sheet.{Expr, number, secret, add, sub, Cond, always, both, neg, equal, less, Part, Action, withdraw, split, reveal, renew_as, Branch, Definition, Sheet, branches_at, parts}
use Rattle.texts.specs.Text.{letters, field, fields, line}
use Rattle.writing.specs.Written.{word}

-- "Expression e: `k`,number .., `v`,secret, `add`,e,e, `sub`,e,e"
unfoldable pub spell_expression : Expr → List ℕ
spell_expression (number k) = word "k" ++ field k
spell_expression (secret j) = word "v" ++ field j
spell_expression (add e f) = word "add" ++ spell_expression e ++ spell_expression f
spell_expression (sub e f) = word "sub" ++ spell_expression e ++ spell_expression f

-- "condition: `t`, or `and`,p,p, `not`,p, `eq`,e,e, `lt`,e,e, each p a condition"
unfoldable pub spell_condition : Cond → List ℕ
spell_condition always = word "t"
spell_condition (both p q) = word "and" ++ spell_condition p ++ spell_condition q
spell_condition (neg p) = word "not" ++ spell_condition p
spell_condition (equal e f) = word "eq" ++ spell_expression e ++ spell_expression f
spell_condition (less e f) = word "lt" ++ spell_expression e ++ spell_expression f

-- given the text of the contract at each node
module _ (contract : ℕ → List ℕ) where
  -- "weight (0 to 1,000) and contract"
  unfoldable pub spell_part : Part → List ℕ
  spell_part q = field q.weight ++ contract q.node

  -- "action: `w`,p ... `s`,n, then n times weight .. and contract .. `r`, count .., secrets, condition, contract. `g`,d"
  unfoldable pub spell_action : Action → List ℕ
  spell_action (withdraw p) = word "w" ++ field p
  spell_action (split qs) = word "s" ++ field (length qs) ++ gather spell_part qs
  spell_action (reveal js q n) = word "r" ++ field (length js) ++ fields js ++ spell_condition q ++ contract n
  spell_action (renew_as d) = word "g" ++ field d

  -- "branch: signers .., opening time .., an action"
  unfoldable pub spell_branch : Branch → List ℕ
  spell_branch b = field b.signers ++ field b.opens ++ spell_action b.action

-- "contract: `c`, count of branches (0 to 16), the branches": of node n, with d levels left; "contracts 32 deep (a root is at 1)"
unfoldable pub spell_contract : Sheet → ℕ → ℕ → List ℕ
spell_contract s zero n = []
spell_contract s (suc d) n = word "c" ++ field (length (branches_at s n)) ++ gather (spell_branch (spell_contract s d)) (branches_at s n)

-- "`def`: K deposits in satoshi, the count of secrets (0 to 8), each secret's owner, one contract", and the line's LF
unfoldable pub spell_definition : Sheet → Definition → List ℕ
spell_definition s d =
    letters "def" ++ fields d.deposits ++ field (length d.owners) ++ fields d.owners ++ spell_contract s 32 d.root ++ (code "\n" ∷ [])

-- "Line 1: `bitml`, K participants .., F definitions", and "F lines `def`"
unfoldable pub spell_sheet : Sheet → List ℕ
spell_sheet s = line (letters "bitml") (s.participants ∷ length s.defs ∷ []) ++ gather (spell_definition s) s.defs

-- ---- "Each `c` is a node, numbered over the whole sheet in order of appearance"

-- The nodes of the contract at node n as their `c`s appear in its text
unfoldable pub appearing : Sheet → ℕ → ℕ → List ℕ
appearing s zero n = []
appearing s (suc d) n = n ∷ gather (λ b. gather (appearing s d) (parts b.action)) (branches_at s n)

-- and of the whole sheet
unfoldable pub all_appearing : Sheet → List ℕ
all_appearing s = gather (λ d. appearing s 32 d.root) s.defs
