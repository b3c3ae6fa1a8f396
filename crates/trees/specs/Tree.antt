-- The trees that the text of a contract says. Assumes nothing.
use Rattle.std.specs.Prelude.{ℕ, suc, ◌+◌, ◌<◌}

-- a branch, the branches of a contract, the parts of a split
pub data Kind : Type 0 where
  one : Kind
  many : Kind
  parts : Kind

-- "contract: `c`, count of branches, the branches"; "branch: signers, opening time, an action"
pub data Tree : Kind → Type 0 where
  -- "`w`,p pays the balance to p": signers, opening time, p
  pay : ℕ → ℕ → ℕ → Tree one
  -- "`g`,d renews as definition d": signers, opening time, d
  renew : ℕ → ℕ → ℕ → Tree one
  -- "`s`,n, then n times weight and contract": signers, opening time, the parts
  split : ℕ → ℕ → Tree parts → Tree one
  -- "`r`, count, secrets, condition, contract": signers, opening time, where its secrets are listed, how many, where the cells of its
  -- condition start, its contract
  reveal : ℕ → ℕ → ℕ → ℕ → ℕ → Tree many → Tree one
  end : Tree many
  also : Tree one → Tree many → Tree many
  last : Tree parts
  weigh : ℕ → Tree many → Tree parts → Tree parts

abbrev pub Contract : Type 0
Contract = Tree many

-- how many branches a contract has, or how many parts a split
unfoldable pub size : {k : Kind} → Tree k → ℕ
size (pay g t p) = 0
size (renew g t d) = 0
size (split g t ps) = 0
size (reveal g t f n c x) = 0
size end = 0
size (also x xs) = suc (size xs)
size last = 0
size (weigh w x ps) = suc (size ps)

-- the sum of the weights of parts
unfoldable pub weights : Tree parts → ℕ
weights last = 0
weights (weigh w x ps) = w + weights ps

-- "weights add to 0" gets 8: in no split they do
unfoldable pub Weighed : {k : Kind} → Tree k → Type 0
Weighed (pay g t p) = Unit {0}
Weighed (renew g t d) = Unit {0}
Weighed (split g t ps) = (0 < weights ps) × Weighed ps
Weighed (reveal g t f n c x) = Weighed x
Weighed end = Unit {0}
Weighed (also x xs) = Weighed x × Weighed xs
Weighed last = Unit {0}
Weighed (weigh w x ps) = Weighed x × Weighed ps

-- "Each `c` is a node": how many nodes a tree lists, and how many branches
unfoldable pub nodes_in : {k : Kind} → Tree k → ℕ
nodes_in (pay g t p) = 0
nodes_in (renew g t d) = 0
nodes_in (split g t ps) = nodes_in ps
nodes_in (reveal g t f n c x) = suc (nodes_in x)
nodes_in end = 0
nodes_in (also x xs) = nodes_in x + nodes_in xs
nodes_in last = 0
nodes_in (weigh w x ps) = suc (nodes_in x + nodes_in ps)

unfoldable pub branches_in : {k : Kind} → Tree k → ℕ
branches_in (pay g t p) = 1
branches_in (renew g t d) = 1
branches_in (split g t ps) = suc (branches_in ps)
branches_in (reveal g t f n c x) = suc (branches_in x)
branches_in end = 0
branches_in (also x xs) = branches_in x + branches_in xs
branches_in last = 0
branches_in (weigh w x ps) = branches_in x + branches_in ps
