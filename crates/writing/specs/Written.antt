-- "A sheet written back": the text of a sheet as the reader holds it, from entries in the order of the text. Assumes nothing.
use Rattle.std.specs.Prelude.{ℕ, zero, suc, cond, List, [], ◌∷◌, ◌++◌, length, eqb}
use Prim.Native.Char.{code}
use Prim.Native.String.{String}
use Rattle.tables.specs.Entries.{BranchEntry, Entries}
use Rattle.tables.specs.SheetOf.{node_entry_at, branch_entry_at, def_entry_at, listed_at, cell_at}
use Rattle.texts.specs.Text.{letters, field, line}

-- ---- pieces of text

-- The entries that are due next
pub record Place : Type 0 where
  pub node : ℕ
  pub branch : ℕ
  pub def : ℕ
  pub listed : ℕ
  pub cell : ℕ

-- What is written from a place on, and the place after it
abbrev pub Writer : Type 0
Writer = Place → List ℕ × Place

-- These bytes
unfoldable pub say : List ℕ → Writer
say t p = (t, p)

infixr 30 ◌then◌
-- One after the other; so many times
unfoldable pub ◌then◌ : Writer → Writer → Writer
◌then◌ f g p = ((f p).0 ++ (g (f p).1).0, (g (f p).1).1)

unfoldable pub repeat : ℕ → Writer → Writer
repeat zero f = say []
repeat (suc n) f = f then repeat n f

-- An entry is used up
unfoldable pub node_done : Writer
node_done p = ([], record { node = suc p.node; branch = p.branch; def = p.def; listed = p.listed; cell = p.cell })

unfoldable pub branch_done : Writer
branch_done p = ([], record { node = p.node; branch = suc p.branch; def = p.def; listed = p.listed; cell = p.cell })

unfoldable pub def_done : Writer
def_done p = ([], record { node = p.node; branch = p.branch; def = suc p.def; listed = p.listed; cell = p.cell })

unfoldable pub listed_done : Writer
listed_done p = ([], record { node = p.node; branch = p.branch; def = p.def; listed = suc p.listed; cell = p.cell })

unfoldable pub cell_done : Writer
cell_done p = ([], record { node = p.node; branch = p.branch; def = p.def; listed = p.listed; cell = suc p.cell })

-- A word behind its comma
abbrev pub word : String → List ℕ
word w = code "," ∷ letters w

-- ---- conditions: a cell for each field

-- "`t`, or `and`,p,p, `not`,p, `eq`,e,e, `lt`,e,e": a cell that is none is written as the last, and is not read back
unfoldable pub condition_word : ℕ → List ℕ
condition_word c =
    cond (eqb c 0) (word "t") (cond (eqb c 1) (word "and") (cond (eqb c 2) (word "not") (cond (eqb c 3) (word "eq") (word "lt"))))

-- "`k`,number .., `v`,secret, `add`,e,e, `sub`,e,e"
unfoldable pub expression_word : ℕ → List ℕ
expression_word c = cond (eqb c 0) (word "k") (cond (eqb c 1) (word "v") (cond (eqb c 2) (word "add") (word "sub")))

-- ---- contracts: what does not look at entries

-- "`w`,p", "`g`,d", and how `s`,n begins: a word and a number, and the branch is used up
unfoldable pub leaf_text : List ℕ → ℕ → Writer
leaf_text w n = say w then say (field n) then branch_done

module _ (E : Entries) where
  -- A number that is a cell: of a `k` or a `v`
  unfoldable pub number_text : Writer
  number_text p = (say (field (cell_at E p.cell)) then cell_done) p

  -- What stands after the word of an expression's cell c
  unfoldable pub operands_text : Writer → ℕ → Writer
  operands_text expression c = cond (eqb c 0) number_text (cond (eqb c 1) number_text (expression then expression))

  -- "Expression e", with d words left to nest
  unfoldable pub expression_text : ℕ → Writer
  expression_text zero p = ([], p)
  expression_text (suc d) p =
      (say (expression_word (cell_at E p.cell)) then cell_done then operands_text (expression_text d) (cell_at E p.cell)) p

  -- What stands after the word of a condition's cell c
  unfoldable pub clauses_text : Writer → Writer → ℕ → Writer
  clauses_text condition expression c =
      cond (eqb c 0) (say []) (cond (eqb c 1) (condition then condition) (cond (eqb c 2) condition (expression then expression)))

  -- "condition", with d words left to nest: "64 fields in a condition"
  unfoldable pub condition_text : ℕ → Writer
  condition_text zero p = ([], p)
  condition_text (suc d) p =
      (say (condition_word (cell_at E p.cell)) then cell_done then clauses_text (condition_text d) (expression_text d) (cell_at E p.cell)) p

  -- ---- contracts

  -- A deposit, an owner, a secret of an `r`: the listed number that is due
  unfoldable pub listed_text : Writer
  listed_text p = (say (field (listed_at E p.listed)) then listed_done) p

  -- "weight and contract": the weight stands with the node that is due
  unfoldable pub part_text : Writer → Writer
  part_text contract p = (say (field (node_entry_at E p.node).weight) then contract) p

  -- "`s`,n, then n times weight and contract"
  unfoldable pub split_text : Writer → ℕ → Writer
  split_text contract n = leaf_text (word "s") n then repeat n (part_text contract)

  -- "`r`, count, secrets, condition, contract"
  unfoldable pub reveal_text : Writer → ℕ → Writer
  reveal_text contract n = say (word "r") then say (field n) then repeat n listed_text then condition_text 64 then branch_done then contract

  -- "an action": of the branch that is due
  unfoldable pub action_text : Writer → BranchEntry → Writer
  action_text contract e =
      cond (eqb e.kind 0) (leaf_text (word "w") e.arg)
      (cond (eqb e.kind 1) (split_text contract e.arg)
      (cond (eqb e.kind 2) (reveal_text contract e.count)
      (leaf_text (word "g") e.arg)))

  -- "branch: signers, opening time, an action"
  unfoldable pub branch_text : Writer → Writer
  branch_text contract p =
      (say (field (branch_entry_at E p.branch).signers) then say (field (branch_entry_at E p.branch).opens)
      then action_text contract (branch_entry_at E p.branch)) p

  -- "contract: `c`, count of branches, the branches", with d levels left
  unfoldable pub contract_text : ℕ → Writer
  contract_text zero p = ([], p)
  contract_text (suc d) p =
      (say (word "c") then say (field (node_entry_at E p.node).count) then node_done
      then repeat (node_entry_at E p.node).count (branch_text (contract_text d))) p

  -- ---- lines

  -- "`def`: K deposits in satoshi, the count of secrets, each secret's owner, one contract"
  unfoldable pub def_text : ℕ → Writer
  def_text K p =
      (say (letters "def") then repeat K listed_text then say (field (def_entry_at E p.def).secrets) then repeat (def_entry_at E p.def).secrets listed_text
      then def_done then contract_text 32 then say (code "\n" ∷ [])) p

-- Where writing starts
abbrev pub start : Place
start = record { node = 0; branch = 0; def = 0; listed = 0; cell = 0 }

-- "Line 1: `bitml`, K participants, F definitions", and the `def` lines
unfoldable pub sheet_text : ℕ → Entries → List ℕ
sheet_text K E = line (letters "bitml") (K ∷ length E.defs ∷ []) ++ (repeat (length E.defs) (def_text E K) start).0
