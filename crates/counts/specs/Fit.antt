-- What holds of the program's ledger between events, over a sheet's table. Assumes nothing.
use Rattle.std.specs.Prelude.{◌≡◌, ℕ, ◌+◌, ◌*◌, ◌≤◌, ◌<◌, List, length, get_or}
use Rattle.bitml.specs.Lists.{sum}
use Rattle.bitml.specs.Limits.{deposits_taken}
use Rattle.bitml.specs.Balance.{locked}
use Rattle.tables.specs.Entries.{held, people}
use Rattle.tables.specs.SheetOf.{sheet_in}
use Rattle.counts.specs.Book.{Book}
use Rattle.counts.specs.View.{view}

-- How long the lists are
pub record Lengths (node balance set alive signed definition count value state paid : List ℕ) : Type 0 where
  pub nodes : length node ≡ 256
  pub balances : length balance ≡ 256
  pub set-numbers : length set ≡ 256
  pub alives : length alive ≡ 256
  pub signeds : length signed ≡ 4096
  pub definitions : length definition ≡ 32
  pub counts : length count ≡ 32
  pub values : length value ≡ 256
  pub states : length state ≡ 256
  pub paids : length paid ≡ 16

-- The places of contracts that are not made yet are zero; and a contract that was made is alive by 1 or dead by 0
pub record FreeContracts (made : ℕ) (node balance set alive : List ℕ) : Type 0 where
  pub nodes : (c : ℕ) → made ≤ c → get_or node c 0 ≡ 0
  pub balances : (c : ℕ) → made ≤ c → get_or balance c 0 ≡ 0
  pub set-numbers : (c : ℕ) → made ≤ c → get_or set c 0 ≡ 0
  pub alives : (c : ℕ) → made ≤ c → get_or alive c 0 ≡ 0
  pub live-or-dead : (c : ℕ) → get_or alive c 0 ≤ 1

-- So are those of sets that are not made yet, and of secrets that a set has not; and a secret is ill-formed, kept or told by 0, 1 or 2
pub record FreeSets (sets : ℕ) (definition count state : List ℕ) : Type 0 where
  pub definitions : (i : ℕ) → sets ≤ i → get_or definition i 0 ≡ 0
  pub counts : (i : ℕ) → sets ≤ i → get_or count i 0 ≡ 0
  pub secrets : (i j : ℕ) → get_or count i 0 ≤ j → j < 8 → get_or state (i * 8 + j) 0 ≡ 0
  pub three_states : (k : ℕ) → get_or state k 0 ≤ 2

pub record Fit (t : List ℕ) (l : Book) : Type 0 where
  -- "256 contracts and 32 sets made per run .., time 4,294,967,295, all deposits taken 2,100,000,000,000,000"
  pub made : l.made ≤ 256
  pub sets : l.sets ≤ 32
  pub time : l.time ≤ 4294967295
  pub taken : l.taken ≤ 2100000000000000
  -- "all deposits taken" are counted, and nothing is lost: so no sum of balances wraps
  pub deposits : deposits_taken (sheet_in t) (view (people t) l) ≡ l.taken
  pub total : locked (view (people t) l).contracts + sum (view (people t) l).paid ≡ l.taken
  -- The nodes and sets that contracts name are there, and sets have at most 8 secrets, "0 to 1,000,000,000, or `x`"
  pub node : (c : ℕ) → c < l.made → get_or l.node c 0 < length (held t).nodes
  pub set : (c : ℕ) → c < l.made → get_or l.set c 0 < l.sets
  pub count : (i : ℕ) → i < l.sets → get_or l.count i 0 ≤ 8
  pub value : (k : ℕ) → get_or l.value k 0 ≤ 1000000000
  -- A branch's signatures are of at most 16 participants
  pub masks : (k : ℕ) → get_or l.signed k 0 ≤ 65535
  -- An `x` has no number, and contracts that are not made have no signatures
  pub blank : (k : ℕ) → get_or l.state k 0 ≡ 0 → get_or l.value k 0 ≡ 0
  pub fresh : (k : ℕ) → l.made * 16 ≤ k → get_or l.signed k 0 ≡ 0
  -- Nor has what is not made anything else, and who is no participant was paid nothing
  pub free : FreeContracts l.made l.node l.balance l.set l.alive
  pub free-sets : FreeSets l.sets l.definition l.count l.state
  pub unpaid : (p : ℕ) → people t ≤ p → get_or l.paid p 0 ≡ 0
  pub lengths : Lengths l.node l.balance l.set l.alive l.signed l.definition l.count l.value l.state l.paid
