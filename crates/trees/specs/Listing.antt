-- The listing of trees: their entries in the order of the text. Assumes nothing.
use Rattle.std.specs.Prelude.{ℕ, List, [], ◌∷◌, ◌++◌, length}
use Rattle.tables.specs.declared.Head.{Head}
use Rattle.tables.specs.Entries.{NodeEntry, BranchEntry, DefEntry, Entries}
use Rattle.tables.specs.State.{node_entry, branch_entry, def_entry}
use Rattle.contracts.specs.Contract.{action}
use Rattle.reading.specs.Promises.{no_parent}
use Rattle.trees.specs.Tree.{Kind, Tree, pay, renew, split, reveal, end, also, last, weigh, Contract, size}

-- the nodes, the branches and the definitions so far
pub record Listing : Type 0 where
  pub nodes : List NodeEntry
  pub branches : List BranchEntry
  pub defs : List DefEntry

abbrev pub listing_of : Entries → Listing
listing_of E = record { nodes = E.nodes; branches = E.branches; defs = E.defs }

abbrev pub add_node : NodeEntry → Listing → Listing
add_node e l = record { nodes = l.nodes ++ (e ∷ []); branches = l.branches; defs = l.defs }

abbrev pub add_branch : BranchEntry → Listing → Listing
add_branch e l = record { nodes = l.nodes; branches = l.branches ++ (e ∷ []); defs = l.defs }

abbrev pub add_def : DefEntry → Listing → Listing
add_def e l = record { nodes = l.nodes; branches = l.branches; defs = l.defs ++ (e ∷ []) }

-- the entries of a branch of node m with its signers and opening time, by its action
abbrev pub head_of : ℕ → ℕ → ℕ → Head
head_of m g t = record { node = m; signers = g; opens = t }

abbrev pub pay_entry : ℕ → ℕ → ℕ → ℕ → BranchEntry
pay_entry m g t p = branch_entry (head_of m g t) (action 0 p 0 0 0)

abbrev pub split_entry : ℕ → ℕ → ℕ → ℕ → BranchEntry
split_entry m g t n = branch_entry (head_of m g t) (action 1 n 0 0 0)

abbrev pub reveal_entry : ℕ → ℕ → ℕ → ℕ → ℕ → ℕ → ℕ → BranchEntry
reveal_entry m g t next f n c = branch_entry (head_of m g t) (action 2 next f n c)

abbrev pub renew_entry : ℕ → ℕ → ℕ → ℕ → BranchEntry
renew_entry m g t d = branch_entry (head_of m g t) (action 3 d 0 0 0)

-- what is listed after a tree of definition d; m is the node of the branches, or the branch of the parts
unfoldable pub write : {k : Kind} → ℕ → ℕ → Tree k → Listing → Listing
write d m (pay g t p) l = add_branch (pay_entry m g t p) l
write d m (renew g t e) l = add_branch (renew_entry m g t e) l
write d m (split g t ps) l = write d (length l.branches) ps (add_branch (split_entry m g t (size ps)) l)
write d m (reveal g t f n c x) l =
    write d (length l.nodes) x (add_node (node_entry d (length l.branches) 0 (size x)) (add_branch (reveal_entry m g t (length l.nodes) f n c) l))
write d m end l = l
write d m (also x xs) l = write d m xs (write d m x l)
write d m last l = l
write d m (weigh w x ps) l = write d m ps (write d (length l.nodes) x (add_node (node_entry d m w (size x)) l))

-- a contract that branch b holds with weight w
unfoldable pub write_contract : ℕ → ℕ → ℕ → Contract → Listing → Listing
write_contract d b w x l = write d (length l.nodes) x (add_node (node_entry d b w (size x)) l)

-- "`def`: K deposits in satoshi, the count of secrets, each secret's owner, one contract": where they are listed, the count, the contract
pub record DefTree : Type 0 where
  pub first : ℕ
  pub secrets : ℕ
  pub contract : Contract

-- the next definition: its root is the next node, in no branch
unfoldable pub define : DefTree → Listing → Listing
define t l = write_contract (length l.defs) no_parent 0 t.contract (add_def (def_entry (length l.nodes) t.first t.secrets) l)

unfoldable pub define_all : List DefTree → Listing → Listing
define_all [] l = l
define_all (t ∷ ts) l = define_all ts (define t l)

abbrev pub nothing : Listing
nothing = record { nodes = []; branches = []; defs = [] }
