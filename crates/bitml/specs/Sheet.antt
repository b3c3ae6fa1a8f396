-- "The sheet": participants, definitions, nodes, branches, actions, conditions and their value. Assumes nothing.
use Rattle.std.specs.Prelude.{ℕ, ◌+◌, ◌/◌, ◌%◌, ◌^◌, Bool, true, not, List, [], ◌∷◌, map, length, get_or, eqb, ltb}
use Rattle.bitml.specs.Lists.{◌&◌}

-- "Expression e: `k`,number .., `v`,secret, `add`,e,e, `sub`,e,e"
pub data Expr : Type 0 where
  number secret : ℕ → Expr
  add sub : Expr → Expr → Expr

-- "condition: `t`, or `and`,p,p, `not`,p, `eq`,e,e, `lt`,e,e, each p a condition"
pub data Cond : Type 0 where
  always : Cond
  both : Cond → Cond → Cond
  neg : Cond → Cond
  equal less : Expr → Expr → Cond

-- "n times weight (0 to 1,000) and contract": a contract is known by the number of its node
pub record Part : Type 0 where
  pub weight : ℕ
  pub node : ℕ

-- "action": `w`,p; `s` with its parts; `r` with its secrets, its condition and the node of its contract; `g`,d
pub data Action : Type 0 where
  withdraw : ℕ → Action
  split : List Part → Action
  reveal : List ℕ → Cond → ℕ → Action
  renew_as : ℕ → Action

-- "branch: signers (the sum of 2^p over those who must sign ..), opening time .., an action"
pub record Branch : Type 0 where
  pub signers : ℕ
  pub opens : ℕ
  pub action : Action

-- "Each `c` is a node, numbered over the whole sheet in order of appearance": its definition and its branches
pub record Node : Type 0 where
  pub definition : ℕ
  pub branches : List Branch

-- "`def`: K deposits in satoshi, the count of secrets (0 to 8), each secret's owner, one contract": its node is the root
pub record Definition : Type 0 where
  pub deposits : List ℕ
  pub owners : List ℕ
  pub root : ℕ

-- "K participants .., F definitions": what line 1 and the `def` lines say
pub record Sheet : Type 0 where
  pub participants : ℕ
  pub defs : List Definition
  pub nodes : List Node

-- ---- looking things up; a number out of range finds something empty

abbrev pub def_at : Sheet → ℕ → Definition
def_at s d = get_or s.defs d (record { deposits = []; owners = []; root = 0 })

abbrev pub no_node : Node
no_node = record { definition = 0; branches = [] }

abbrev pub node_at : Sheet → ℕ → Node
node_at s n = get_or s.nodes n no_node

abbrev pub branches_at : Sheet → ℕ → List Branch
branches_at s n = (node_at s n).branches

abbrev pub no_branch : Branch
no_branch = record { signers = 0; opens = 0; action = withdraw 0 }

abbrev pub branch_at : Sheet → ℕ → ℕ → Branch
branch_at s n b = get_or (branches_at s n) b no_branch

abbrev pub has_branch : Sheet → ℕ → ℕ → Bool
has_branch s n b = ltb b (length (branches_at s n))

-- Participant p is among the signers: the one place that knows how the number stands for them
abbrev pub signs : Branch → ℕ → Bool
signs br p = eqb (br.signers / 2 ^ p % 2) 1

-- p owns secret j of definition d
abbrev pub owns : Sheet → ℕ → ℕ → ℕ → Bool
owns s p d j = ltb j (length (def_at s d).owners) & eqb (get_or (def_at s d).owners j 0) p

-- "the contracts in that branch"
abbrev pub parts : Action → List ℕ
parts (withdraw p) = []
parts (split ps) = map (λ q. q.node) ps
parts (reveal js c n) = n ∷ []
parts (renew_as d) = []

-- ---- "A condition may nest; its value follows its parts", given each secret's value

-- "Integers, so a difference may be negative": an integer is a pair, .0 less .1
abbrev pub value : (ℕ → ℕ) → Expr → ℕ × ℕ
value v (number k) = (k, 0)
value v (secret j) = (v j, 0)
value v (add e f) = ((value v e).0 + (value v f).0, (value v e).1 + (value v f).1)
value v (sub e f) = ((value v e).0 + (value v f).1, (value v e).1 + (value v f).0)

abbrev pub holds : (ℕ → ℕ) → Cond → Bool
holds v always = true
holds v (both p q) = holds v p & holds v q
holds v (neg p) = not (holds v p)
holds v (equal e f) = eqb ((value v e).0 + (value v f).1) ((value v f).0 + (value v e).1)
holds v (less e f) = ltb ((value v e).0 + (value v f).1) ((value v f).0 + (value v e).1)
