-- Sheets that their text tells: numbers that are printed whole, contracts within their depth, nodes numbered as they appear. Assumes nothing.
use Rattle.std.specs.Prelude.{ℕ, zero, suc, ◌^◌, ◌<◌, ◌≡◌, length}
use mathlib.Core.List.{List, Memᴰ}
use Rattle.bitml.specs.Lists.{All, below}
use Rattle.bitml.specs.Sheet.{Expr, number, secret, add, sub, Cond, always, both, neg, equal, less, Part, Action, withdraw, split, reveal, renew_as, Branch, Definition, Sheet, def_at, node_at, branches_at, parts}
use Rattle.spelling.specs.Spelled.{appearing, all_appearing}

-- "A number is decimal, 1 to 19 digits"
abbrev pub Short : ℕ → Type 0
Short n = n < 10 ^ 19

-- ---- every number of it is

unfoldable pub ShortExpression : Expr → Type 0
ShortExpression (number k) = Short k
ShortExpression (secret j) = Short j
ShortExpression (add e f) = ShortExpression e × ShortExpression f
ShortExpression (sub e f) = ShortExpression e × ShortExpression f

unfoldable pub ShortCondition : Cond → Type 0
ShortCondition always = Unit {0}
ShortCondition (both p q) = ShortCondition p × ShortCondition q
ShortCondition (neg p) = ShortCondition p
ShortCondition (equal e f) = ShortExpression e × ShortExpression f
ShortCondition (less e f) = ShortExpression e × ShortExpression f

unfoldable pub ShortAction : Action → Type 0
ShortAction (withdraw p) = Short p
ShortAction (split qs) = Short (length qs) × All (λ q. Short q.weight) qs
ShortAction (reveal js q n) = Short (length js) × All Short js × ShortCondition q
ShortAction (renew_as d) = Short d

pub record ShortBranch (b : Branch) : Type 0 where
  pub signers : Short b.signers
  pub opens : Short b.opens
  pub action : ShortAction b.action

-- "K deposits in satoshi, the count of secrets (0 to 8), each secret's owner"
pub record ShortDefinition (K : ℕ) (d : Definition) : Type 0 where
  pub as_many : length d.deposits ≡ K
  pub deposits : All Short d.deposits
  pub count : Short (length d.owners)
  pub owners : All Short d.owners

-- ---- "contracts 32 deep (a root is at 1)": the contract at node n, with d levels left

unfoldable pub Nests : Sheet → ℕ → ℕ → Type 0
Nests s zero n = ⊥
Nests s (suc d) n = All (λ b. All (Nests s d) (parts b.action)) (branches_at s n)

pub record Legible (s : Sheet) : Type 0 where
  pub participants : Short s.participants
  pub count : Short (length s.defs)
  pub definition : (d : ℕ) → d < length s.defs → ShortDefinition s.participants (def_at s d)
  pub branches : (n : ℕ) → n < length s.nodes → Short (length (branches_at s n)) × All ShortBranch (branches_at s n)
  pub depth : (d : ℕ) → d < length s.defs → Nests s 32 (def_at s d).root
  -- "Each `c` is a node, numbered over the whole sheet in order of appearance", and belongs to the definition in whose line it stands
  pub order : all_appearing s ≡ below (length s.nodes)
  pub home : (d n : ℕ) → d < length s.defs → Memᴰ n (appearing s 32 (def_at s d).root) → (node_at s n).definition ≡ d
