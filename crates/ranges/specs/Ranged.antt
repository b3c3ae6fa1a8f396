-- What reading promises of each entry by itself, and of what it points to: numbers within their ranges. Assumes nothing.
use Rattle.std.specs.Prelude.{◌≡◌, List, map, ℕ, ◌+◌, ◌^◌, ◌≤◌, ◌<◌, length, get_or}
use Rattle.bitml.specs.Lists.{sum, below}
use Rattle.tables.specs.Entries.{NodeEntry, BranchEntry, Entries}
use Rattle.tables.specs.SheetOf.{node_entry_at, branch_entry_at, def_entry_at, cell_at}
use Rattle.reading.specs.Promises.{Sizes}

-- "Numbers of participants, definitions, secrets .. count from 0": n numbers are listed from `first` on, each the number of one of m
pub record Below (m : ℕ) (listed : List ℕ) (first n : ℕ) : Type 0 where
  pub fits : first + n ≤ length listed
  pub each : (i : ℕ) → i < n → get_or listed (first + i) 0 < m

-- "contract: `c`, count of branches (0 to 16)"; "weight (0 to 1,000)"; one of d definitions
pub record NodeRange (d : ℕ) (e : NodeEntry) : Type 0 where
  pub definition : e.definition < d
  pub weight : e.weight ≤ 1000
  pub count : e.count ≤ 16

-- The count of secrets of the definition that node n belongs to
abbrev pub secrets_at : Entries → ℕ → ℕ
secrets_at E n = (def_entry_at E (node_entry_at E n).definition).secrets

-- "`r`, count (1 to 8), secrets, condition": secrets of its own definition
pub record RevealRange (E : Entries) (e : BranchEntry) : Type 0 where
  pub some : 1 ≤ e.count
  pub few : e.count ≤ 8
  pub secrets : Below (secrets_at E e.node) E.listed e.first e.count
  pub cond : e.cond < length E.cells

-- "branch: signers (2^K or more gets 6), opening time (0 to 4,294,967,295), an action", of K participants and F definitions:
-- "`w`,p pays the balance to p", "`s`,n .. n from 1 to 8", "`g`,d renews as definition d"
pub record BranchRange (K F : ℕ) (E : Entries) (e : BranchEntry) : Type 0 where
  pub node : e.node < length E.nodes
  pub signers : e.signers < 2 ^ K
  pub opens : e.opens ≤ 4294967295
  pub kind : e.kind ≤ 3
  pub withdraw : e.kind ≡ 0 → e.arg < K
  pub split : e.kind ≡ 1 → (1 ≤ e.arg) × (e.arg ≤ 8)
  pub reveal : e.kind ≡ 2 → RevealRange E e
  pub renew : e.kind ≡ 3 → e.arg < F

-- "K deposits in satoshi, the count of secrets (0 to 8), each secret's owner"; "deposits of one definition together 2,100,000,000,000,000"
pub record DefRange (K : ℕ) (listed : List ℕ) (first secrets : ℕ) : Type 0 where
  pub few : secrets ≤ 8
  pub owners : Below K listed (first + K) secrets
  pub deposits : sum (map (λ p. get_or listed (first + p) 0) (below K)) ≤ 2100000000000000

-- All of a sheet with K participants. "`k`,number up to 1,000,000,000" bounds the cells of conditions
pub record Ranged (K : ℕ) (E : Entries) : Type 0 where
  pub limits : Sizes K E
  pub node : (n : ℕ) → n < length E.nodes → NodeRange (length E.defs) (node_entry_at E n)
  pub branch : (b : ℕ) → b < length E.branches → BranchRange K (length E.defs) E (branch_entry_at E b)
  pub def : (d : ℕ) → d < length E.defs → DefRange K E.listed (def_entry_at E d).first (def_entry_at E d).secrets
  pub cell : (c : ℕ) → c < length E.cells → cell_at E c ≤ 1000000000
