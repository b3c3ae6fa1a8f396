-- What the ledger's cells hold: a list of numbers for each section of them. Assumes nothing.
use Rattle.std.specs.Prelude.{ℕ, zero, suc, ◌+◌, cond, List, [], ◌∷◌, get_or, set, eqb}
use Rattle.tables.specs.Entries.{first_of}

-- "contracts numbered as made (node, balance, commitment set, signatures by branch, alive or not)"
abbrev pub nodes : ℕ
nodes = 0

abbrev pub balances : ℕ
balances = 1

abbrev pub set_numbers : ℕ
set_numbers = 2

-- 1 for a contract that is alive
abbrev pub lives : ℕ
lives = 3

-- "commitment sets (value or `x`, told or not, per secret)": of each its definition and how many secrets it has, of each secret its state and value
abbrev pub definitions : ℕ
definitions = 4

abbrev pub secret_counts : ℕ
secret_counts = 5

abbrev pub states : ℕ
states = 6

abbrev pub values : ℕ
values = 7

-- "paid amounts"
abbrev pub payments : ℕ
payments = 8

-- a number for each branch of a contract, in which a bit is a participant's signature
abbrev pub signatures : ℕ
signatures = 9

-- How long a section is: 256 contracts of up to 16 branches, 32 sets of up to 8 secrets, 16 participants
unfoldable pub size : ℕ → ℕ
size s = get_or (256 ∷ 256 ∷ 256 ∷ 256 ∷ 32 ∷ 32 ∷ 256 ∷ 256 ∷ 16 ∷ 4096 ∷ []) s 0

-- Where it starts: behind those before it
unfoldable pub start : ℕ → ℕ
start zero = 0
start (suc s) = start s + size s

-- How many cells there are
abbrev pub cells_long : ℕ
cells_long = 5712

-- The sections' lists by their numbers
abbrev pub Pages : Type 0
Pages = ℕ → List ℕ

-- as they stand in the cells
unfoldable pub pages_in : List ℕ → Pages
pages_in C s = first_of (λ i. get_or C (start s + i) 0) (size s)

-- With v at place k of section s, and all else as it was
abbrev pub put : ℕ → ℕ → ℕ → Pages → Pages
put s k v P s' = cond (eqb s s') (set (P s') k v) (P s')

-- Contract c is made, at node n with balance v and set i
abbrev pub with_contract : ℕ → ℕ → ℕ → ℕ → Pages → Pages
with_contract c n v i P = put lives c 1 (put set_numbers c i (put balances c v (put nodes c n P)))

-- Contract c is dead
abbrev pub buried : ℕ → Pages → Pages
buried c P = put lives c 0 P

-- Set i is made, of definition d with n secrets
abbrev pub with_set : ℕ → ℕ → ℕ → Pages → Pages
with_set i d n P = put secret_counts i n (put definitions i d P)

-- Place k of secrets has a state and a value
abbrev pub with_secret : ℕ → ℕ → ℕ → Pages → Pages
with_secret k s v P = put values k v (put states k s P)
