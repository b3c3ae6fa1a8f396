-- What a branch asks of signatures and secrets, by the numbers that a program's ledger holds. Assumes nothing.
use Rattle.std.specs.Prelude.{ℕ, zero, suc, ◌+◌, ◌/◌, ◌%◌, ◌^◌, Bool, List, map, get_or, take, drop, eqb, ltb, leb}
use Rattle.std.proofs.Math.Option.{Option, none, some as the}
use Rattle.std.specs.Prelude as code
use Rattle.bitml.specs.Lists.{◌&◌, ◌⇒◌, ask, sum, every, below}
use Rattle.tables.specs.Entries.{Entries}
use Rattle.tables.specs.SheetOf.{node_entry_at, branch_entry_at, part_numbers, deposit_of}

-- "all signers signed": each of K participants who signs by the number x has signed by the number y
unfoldable pub covers : ℕ → ℕ → ℕ → Bool
covers K x y = every (λ p. eqb (x / 2 ^ p % 2) 1 ⇒ eqb (y / 2 ^ p % 2) 1) (below K)

-- "opening time not above time, all signers signed": 15 or 16 where entry q is held back, by the signatures in the number y
unfoldable pub not_yet : ℕ → Entries → ℕ → ℕ → ℕ → ℕ
not_yet K E q time y = ask (leb (branch_entry_at E q).opens time) 15 (ask (covers K (branch_entry_at E q).signers y) 16 0)

-- "value or `x`, told or not, per secret": the state of a secret is 0 for `x`, 1 for a number, 2 for one that is told. A set's secrets
-- are as many as it knows, from a base on
unfoldable pub told_at : List ℕ → ℕ → ℕ → ℕ → Bool
told_at state base known j = ltb j known & leb 2 (get_or state (base + j) 0)

-- The number of secret j of such a set
abbrev pub number_at : List ℕ → ℕ → ℕ → ℕ → ℕ
number_at value base known j = get_or (take known (drop base value)) j 0

-- "sum of weights", of the parts of branch b
unfoldable pub weight_of : Entries → ℕ → ℕ
weight_of E b = sum (map (λ n. (node_entry_at E n).weight) (part_numbers E b))

-- "d's deposits", by K participants
unfoldable pub deposits_of : ℕ → Entries → ℕ → ℕ
deposits_of K E d = sum (map (deposit_of E d) (below K))

-- ---- "a value or `x` per secret", as it is handed over: none for `x`

abbrev pub meant : code.Option ℕ → Option ℕ
meant code.None = none
meant (code.Some v) = the v

-- as one number: 0 for `x`, else one more than the number
abbrev pub handed : code.Option ℕ → ℕ
handed code.None = 0
handed (code.Some v) = suc v

abbrev pub given : ℕ → Option ℕ
given zero = none
given (suc v) = the v

abbrev pub committed : List ℕ → List (Option ℕ)
committed vs = map given vs

-- its state, which nobody has told yet
unfoldable pub state_of : ℕ → ℕ
state_of zero = 0
state_of (suc v) = 1
