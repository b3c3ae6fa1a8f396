-- The plain ledger that the program's ledger stands for. Assumes nothing.
use Rattle.std.specs.Prelude.{ℕ, zero, suc, ◌+◌, ◌*◌, ◌/◌, ◌%◌, ◌^◌, Bool, cond, List, map, get_or, eqb, ltb}
use Rattle.bitml.specs.Lists.{◌&◌, sum, below}
use Rattle.bitml.specs.Ledger.{Contract, Commitment, CommitmentSet, ill, kept, told}
use Rattle.bitml.specs.Ledger.{Ledger as Plain}
use Rattle.tables.specs.Entries.{first_of}
use Rattle.counts.specs.Book.{Book}

-- "signatures by branch": for each contract 16 numbers, in which participant p's signature is bit p
unfoldable pub signed_by : List ℕ → ℕ → ℕ → ℕ → Bool
signed_by masks c b p = ltb b 16 & eqb (get_or masks (c * 16 + b) 0 / 2 ^ p % 2) 1

-- "alive or not": 1 for a contract that is alive
abbrev pub alive_at : List ℕ → ℕ → Bool
alive_at alive c = eqb (get_or alive c 0) 1

-- "contracts numbered as made (node, balance, commitment set, signatures by branch, alive or not)"
abbrev pub contract_of : Book → ℕ → Contract
contract_of l c =
    record {
      node = get_or l.node c 0;
      balance = get_or l.balance c 0;
      set = get_or l.set c 0;
      signed = signed_by l.signed c;
      alive = alive_at l.alive c;
    }

-- "value or `x`, told or not, per secret": by a secret's state, 0 for `x`, 1 for a number, 2 for one that is told
unfoldable pub commitment_of : ℕ → ℕ → Commitment
commitment_of zero v = ill
commitment_of (suc zero) v = kept v
commitment_of (suc (suc n)) v = told v

-- Secret j of set i: each set has 8 places
abbrev pub secret_of : Book → ℕ → ℕ → Commitment
secret_of l i j = commitment_of (get_or l.state (i * 8 + j) 0) (get_or l.value (i * 8 + j) 0)

abbrev pub set_of : Book → ℕ → CommitmentSet
set_of l i = record { definition = get_or l.definition i 0; secrets = first_of (secret_of l i) (get_or l.count i 0) }

-- "State: time, contracts .., commitment sets .., paid amounts", by K participants
unfoldable pub view : ℕ → Book → Plain
view K l =
    record {
      time = l.time;
      contracts = first_of (contract_of l) l.made;
      sets = first_of (set_of l) l.sets;
      paid = first_of (λ p. get_or l.paid p 0) K;
    }

-- "live contracts": how many of the first n
unfoldable pub live_of : List ℕ → ℕ → ℕ
live_of alive n = sum (map (λ c. cond (alive_at alive c) 1 0) (below n))
