-- The sheet that entries stand for, by no layout. Assumes nothing.
use Rattle.std.specs.Prelude.{ℕ, zero, suc, ◌+◌, List, map, length, get_or, drop, eqb}
use Rattle.bitml.specs.Lists.{keep, up_from, below}
use Rattle.bitml.specs.Sheet.{Sheet, Node, Branch, Action, Definition, Part, Cond, Expr, number, secret, add, sub, always, both, neg, equal, less, withdraw, split, reveal, renew_as}
use Rattle.tables.specs.Entries.{NodeEntry, BranchEntry, DefEntry, Entries, held, people}

-- ---- looking entries up; a number out of range finds zeros

abbrev pub node_entry_at : Entries → ℕ → NodeEntry
node_entry_at E n = get_or E.nodes n (record { definition = 0; parent = 0; weight = 0; count = 0 })

abbrev pub branch_entry_at : Entries → ℕ → BranchEntry
branch_entry_at E b = get_or E.branches b (record { node = 0; signers = 0; opens = 0; kind = 0; arg = 0; first = 0; count = 0; cond = 0 })

abbrev pub def_entry_at : Entries → ℕ → DefEntry
def_entry_at E d = get_or E.defs d (record { root = 0; first = 0; secrets = 0 })

abbrev pub listed_at : Entries → ℕ → ℕ
listed_at E i = get_or E.listed i 0

abbrev pub cell_at : Entries → ℕ → ℕ
cell_at E i = get_or E.cells i 0

-- ---- which entries belong together

-- "contract: `c`, count of branches .., the branches": the entries that name node n, in order. Branch i of node n is entry `branch_number E n i`
unfoldable pub branch_numbers : Entries → ℕ → List ℕ
branch_numbers E n = keep (λ b. eqb (branch_entry_at E b).node n) (below (length E.branches))

unfoldable pub branch_count : Entries → ℕ → ℕ
branch_count E n = length (branch_numbers E n)

unfoldable pub branch_number : Entries → ℕ → ℕ → ℕ
branch_number E n i = get_or (branch_numbers E n) i 0

-- "`s`,n, then n times weight and contract": the nodes whose parent is branch b, in order. Part i of branch b is node `part_number E b i`
unfoldable pub part_numbers : Entries → ℕ → List ℕ
part_numbers E b = keep (λ n. eqb (node_entry_at E n).parent b) (below (length E.nodes))

unfoldable pub part_count : Entries → ℕ → ℕ
part_count E b = length (part_numbers E b)

unfoldable pub part_number : Entries → ℕ → ℕ → ℕ
part_number E b i = get_or (part_numbers E b) i 0

-- ---- conditions: a cell for each field, and what is left of the cells is handed on

-- "Expression e": `k` 0, `v` 1, `add` 2, `sub` 3
unfoldable pub pick_e : (List ℕ → Expr × List ℕ) → ℕ → List ℕ → Expr × List ℕ
pick_e r zero fs = (number (get_or fs 0 0), drop 1 fs)
pick_e r (suc zero) fs = (secret (get_or fs 0 0), drop 1 fs)
pick_e r (suc (suc zero)) fs = let a = r fs in let b = r a.1 in (add a.0 b.0, b.1)
pick_e r (suc (suc (suc n))) fs = let a = r fs in let b = r a.1 in (sub a.0 b.0, b.1)

unfoldable pub read_e : ℕ → List ℕ → Expr × List ℕ
read_e zero fs = (number 0, fs)
read_e (suc d) fs = pick_e (read_e d) (get_or fs 0 0) (drop 1 fs)

-- "condition": `t` 0, `and` 1, `not` 2, `eq` 3, `lt` 4
unfoldable pub pick_c : (List ℕ → Cond × List ℕ) → (List ℕ → Expr × List ℕ) → ℕ → List ℕ → Cond × List ℕ
pick_c r e zero fs = (always, fs)
pick_c r e (suc zero) fs = let a = r fs in let b = r a.1 in (both a.0 b.0, b.1)
pick_c r e (suc (suc zero)) fs = let a = r fs in (neg a.0, a.1)
pick_c r e (suc (suc (suc zero))) fs = let a = e fs in let b = e a.1 in (equal a.0 b.0, b.1)
pick_c r e (suc (suc (suc (suc n)))) fs = let a = e fs in let b = e a.1 in (less a.0 b.0, b.1)

unfoldable pub read_c : ℕ → List ℕ → Cond × List ℕ
read_c zero fs = (neg always, fs)
read_c (suc d) fs = pick_c (read_c d) (read_e d) (get_or fs 0 0) (drop 1 fs)

-- "A condition may nest": each level takes a cell, and behind the last cell 0 stands, so this many never run out
abbrev pub levels : List ℕ → ℕ
levels cells = suc (length cells)

-- The condition whose cells start at c
unfoldable pub cond_at : Entries → ℕ → Cond
cond_at E c = (read_c (levels E.cells) (drop c E.cells)).0

-- ---- the sheet

abbrev pub part_of : Entries → ℕ → Part
part_of E n = record { weight = (node_entry_at E n).weight; node = n }

-- "`r`, count (1 to 8), secrets, condition, contract"
abbrev pub secrets_of : Entries → ℕ → List ℕ
secrets_of E b = map (listed_at E) (up_from (branch_entry_at E b).first (branch_entry_at E b).count)

-- "action", by its kind: `w` 0, `s` 1, `r` 2, `g` 3
unfoldable pub action_of : Entries → ℕ → ℕ → Action
action_of E b zero = withdraw (branch_entry_at E b).arg
action_of E b (suc zero) = split (map (part_of E) (part_numbers E b))
action_of E b (suc (suc zero)) = reveal (secrets_of E b) (cond_at E (branch_entry_at E b).cond) (branch_entry_at E b).arg
action_of E b (suc (suc (suc k))) = renew_as (branch_entry_at E b).arg

-- "branch: signers .., opening time .., an action"
unfoldable pub branch_of : Entries → ℕ → Branch
branch_of E b = record { signers = (branch_entry_at E b).signers; opens = (branch_entry_at E b).opens; action = action_of E b (branch_entry_at E b).kind }

-- "Each `c` is a node"
unfoldable pub node_of : Entries → ℕ → Node
node_of E n = record { definition = (node_entry_at E n).definition; branches = map (branch_of E) (branch_numbers E n) }

-- "K deposits in satoshi, the count of secrets (0 to 8), each secret's owner": listed one after the other
abbrev pub deposit_of : Entries → ℕ → ℕ → ℕ
deposit_of E d p = listed_at E ((def_entry_at E d).first + p)

abbrev pub owner_of : ℕ → Entries → ℕ → ℕ → ℕ
owner_of K E d j = listed_at E ((def_entry_at E d).first + K + j)

unfoldable pub def_of : ℕ → Entries → ℕ → Definition
def_of K E d = record { deposits = map (deposit_of E d) (below K); owners = map (owner_of K E d) (below (def_entry_at E d).secrets); root = (def_entry_at E d).root }

-- "Line 1: `bitml`, K participants .., F definitions" and the `def` lines
unfoldable pub sheet_of : ℕ → Entries → Sheet
sheet_of K E = record { participants = K; defs = map (def_of K E) (below (length E.defs)); nodes = map (node_of E) (below (length E.nodes)) }

-- The sheet of a table that was read whole
abbrev pub sheet_in : List ℕ → Sheet
sheet_in t = sheet_of (people t) (held t)
