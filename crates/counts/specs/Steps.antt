-- What stands between the steps of one event. Assumes nothing.
use Rattle.std.specs.Prelude.{◌≡◌, ℕ, suc, ◌+◌, ◌-◌, ◌*◌, ◌≤◌, ◌<◌, Bool, true, Option, None, Some, List, map, ◌++◌, length, get_or, leb}
use Rattle.bitml.specs.Lists.{◌&◌}
use Rattle.bitml.specs.Ledger.{Contract, splitting}
use Rattle.tables.specs.Entries.{Entries, held, people, first_of}
use Rattle.tables.specs.SheetOf.{branch_count, branch_number, part_numbers, part_of}
use Rattle.duties.specs.Duties.{not_yet, weight_of, state_of}
use Rattle.pages.specs.Pages.{Pages, states, values}
use Rattle.counts.specs.Book.{Book}
use Rattle.counts.specs.View.{alive_at, contract_of}
use Rattle.counts.specs.Fit.{Lengths, FreeContracts}

-- "Contract alive": branch b of contract c is entry q of the sheet, or there is no such contract or branch
abbrev pub Finds : List ℕ → ℕ → List ℕ → List ℕ → ℕ → ℕ → Option ℕ → Type 0
Finds t made node alive c b None = c < made → alive_at alive c ≡ true → branch_count (held t) (get_or node c 0) ≤ b
Finds t made node alive c b (Some q) = (c < made) × (alive_at alive c ≡ true) × (b < branch_count (held t) (get_or node c 0)) × (q ≡ branch_number (held t) (get_or node c 0) b)

-- "Contract alive, opening time not above time, all signers signed": branch b of contract c, which is entry q of the sheet
pub record Enabled (t : List ℕ) (l : Book) (c b q : ℕ) : Type 0 where
  pub here : c < l.made
  pub lives : alive_at l.alive c ≡ true
  pub there : b < branch_count (held t) (get_or l.node c 0)
  pub entry : q ≡ branch_number (held t) (get_or l.node c 0) b
  pub ready : not_yet (people t) (held t) q l.time (get_or l.signed (c * 16 + b) 0) ≡ 0

-- What holds of the contracts while some are made
pub record Contracts (t : List ℕ) (l : Book) : Type 0 where
  pub made : l.made ≤ 256
  pub node : (c : ℕ) → c < l.made → get_or l.node c 0 < length (held t).nodes
  pub set : (c : ℕ) → c < l.made → get_or l.set c 0 < l.sets
  pub fresh : (k : ℕ) → l.made * 16 ≤ k → get_or l.signed k 0 ≡ 0
  pub free : FreeContracts l.made l.node l.balance l.set l.alive
  pub lengths : Lengths l.node l.balance l.set l.alive l.signed l.definition l.count l.value l.state l.paid

-- "A part of `s` gets floor(balance × weight / sum of weights); the last also the remainder": the contracts of a split of v by branch q
abbrev pub shares : Entries → ℕ → ℕ → ℕ → List Contract
shares E q v i = splitting v (weight_of E q) v i (map (part_of E) (part_numbers E q))

-- A ledger with other contracts
abbrev pub with_contracts : Book → ℕ → List ℕ → List ℕ → List ℕ → List ℕ → Book
with_contracts l made' node' balance' set' alive' =
    record {
      answer = l.answer;
      time = l.time;
      made = made';
      sets = l.sets;
      taken = l.taken;
      node = node';
      balance = balance';
      set = set';
      alive = alive';
      signed = l.signed;
      definition = l.definition;
      count = l.count;
      value = l.value;
      state = l.state;
      paid = l.paid;
    }

-- r has but more contracts than l
abbrev pub Grown : Book → Book → Type 0
Grown l r = r ≡ with_contracts l r.made r.node r.balance r.set r.alive

-- "its parts are made in order": the contracts ks are made
pub record Makes (t : List ℕ) (l : Book) (ks : List Contract) (r : Book) : Type 0 where
  pub grew : Grown l r
  pub contracts : Contracts t r
  pub are : first_of (contract_of r) r.made ≡ first_of (contract_of l) l.made ++ ks

-- "256 contracts and 32 sets made per run .., all deposits taken 2,100,000,000,000,000": a renewal stays within them
unfoldable pub room : ℕ → ℕ → ℕ → ℕ → Bool
room made sets taken more = leb (suc made) 256 & leb (suc sets) 32 & leb (taken + more) 2100000000000000

-- A ledger with other secrets
abbrev pub with_secrets : Book → List ℕ → List ℕ → Book
with_secrets l state' value' =
    record {
      answer = l.answer;
      time = l.time;
      made = l.made;
      sets = l.sets;
      taken = l.taken;
      node = l.node;
      balance = l.balance;
      set = l.set;
      alive = l.alive;
      signed = l.signed;
      definition = l.definition;
      count = l.count;
      value = value';
      state = state';
      paid = l.paid;
    }

-- "a new set, nothing told": the first n of the values vs are the secrets of set i, in states and values that become others
pub record Stored (state value : List ℕ) (i : ℕ) (vs : List ℕ) (n : ℕ) (state' value' : List ℕ) : Type 0 where
  pub states : length state' ≡ 256
  pub values : length value' ≡ 256
  pub here : (j : ℕ) → j < n → (get_or state' (i * 8 + j) 0 ≡ state_of (get_or vs j 0)) × (get_or value' (i * 8 + j) 0 ≡ get_or vs j 0 - 1)
  pub other : (k : ℕ) → ((j : ℕ) → j < n → k ≡ i * 8 + j → ⊥) → (get_or state' k 0 ≡ get_or state k 0) × (get_or value' k 0 ≡ get_or value k 0)
  pub small : ((k : ℕ) → get_or value k 0 ≤ 1000000000) → (k : ℕ) → get_or value' k 0 ≤ 1000000000
  pub blank : ((k : ℕ) → get_or state k 0 ≡ 0 → get_or value k 0 ≡ 0) → (k : ℕ) → get_or state' k 0 ≡ 0 → get_or value' k 0 ≡ 0
  pub three_states : ((k : ℕ) → get_or state k 0 ≤ 2) → (k : ℕ) → get_or state' k 0 ≤ 2

-- The same of the pages, of which no others change
pub record Stores (P : Pages) (i : ℕ) (vs : List ℕ) (n : ℕ) (Q : Pages) : Type 0 where
  pub secrets : Stored (P states) (P values) i vs n (Q states) (Q values)
  pub others : (s : ℕ) → (s ≡ states → ⊥) → (s ≡ values → ⊥) → Q s ≡ P s
