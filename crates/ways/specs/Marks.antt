-- The search from a node backwards: marks of nodes, and the queue. Assumes nothing.
use Rattle.std.specs.Prelude.{◌≡◌, ◌⊎◌, ℕ, suc, ◌-◌, ◌≤◌, ◌<◌, true, List, map, length, get_or}
use Rattle.bitml.specs.Lists.{sum}
use Rattle.bitml.specs.Why.{near}
use Rattle.search.specs.declared.Search.{Search}
use Rattle.tables.specs.Entries.{Entries, held, people, most_nodes}
use Rattle.tables.specs.SheetOf.{sheet_of, node_entry_at, branch_entry_at, def_entry_at}
use Rattle.reached.specs.Marks.{flag}

-- D marks `tail` nodes from which steps lead to node g, each with one more than their number. They stand in the queue Q, those with lower
-- marks first
pub record Marked (K : ℕ) (E : Entries) (g : ℕ) (D Q : List ℕ) (tail : ℕ) : Type 0 where
  pub long : length D ≡ most_nodes
  pub wide : length Q ≡ most_nodes
  pub count : sum (map flag D) ≡ tail
  pub low : (m : ℕ) → get_or D m 0 ≤ tail
  pub sound : (m : ℕ) → 0 < get_or D m 0 → (m < length E.nodes) × (near (sheet_of K E) g (get_or D m 0 - 1) m ≡ true)
  pub queued : (m : ℕ) → 0 < get_or D m 0 → (i : ℕ) × (i < tail) × (get_or Q i 0 ≡ m)
  pub marked : (i : ℕ) → i < tail → 0 < get_or D (get_or Q i 0) 0
  pub rising : (i j : ℕ) → i ≤ j → j < tail → get_or D (get_or Q i 0) 0 ≤ get_or D (get_or Q j 0) 0

-- and so a search does
abbrev pub Searched : List ℕ → ℕ → Search 512 → Type 0
Searched t g s = Marked (people t) (held t) g s.marks.now s.queue s.len

-- No mark is above c + 1: all that is marked while a node with mark c is at the head of the queue
unfoldable pub Close : List ℕ → ℕ → Type 0
Close D c = (m : ℕ) → get_or D m 0 ≤ suc c

-- Marks stay, and so does what stands in the queue
pub record Grew (D Q : List ℕ) (tail : ℕ) (D' Q' : List ℕ) (tail' : ℕ) : Type 0 where
  pub more : tail ≤ tail'
  pub marks : (m : ℕ) → 0 < get_or D m 0 → get_or D' m 0 ≡ get_or D m 0
  pub places : (i : ℕ) → i < tail → get_or Q' i 0 ≡ get_or Q i 0

-- from one state of a search to a later one
abbrev pub Further : Search 512 → Search 512 → Type 0
Further s s' = Grew s.marks.now s.queue s.len s'.marks.now s'.queue s'.len

-- Branch b leads to node m: m is a contract in it, or the root of the definition that it renews as
abbrev pub Before : Entries → ℕ → ℕ → Type 0
Before E b m = ((node_entry_at E m).parent ≡ b) ⊎ (((branch_entry_at E b).kind ≡ 3) × ((def_entry_at E (branch_entry_at E b).arg).root ≡ m))

-- The nodes with a branch that leads to m are marked, by one more than m at the most; and the same of the first h nodes of the queue
unfoldable pub Led : Entries → List ℕ → ℕ → Type 0
Led E D m = (b : ℕ) → b < length E.branches → Before E b m → (0 < get_or D (branch_entry_at E b).node 0) × (get_or D (branch_entry_at E b).node 0 ≤ suc (get_or D m 0))

unfoldable pub LedUpTo : Entries → List ℕ → List ℕ → ℕ → Type 0
LedUpTo E D Q h = (i : ℕ) → i < h → Led E D (get_or Q i 0)

-- Of branch b: if it renews, its node is marked; and the same of the first k of the branches bs
unfoldable pub RenewerLed : Entries → List ℕ → ℕ → Type 0
RenewerLed E D b = (branch_entry_at E b).kind ≡ 3 → 0 < get_or D (branch_entry_at E b).node 0

unfoldable pub RenewersLed : Entries → List ℕ → List ℕ → ℕ → Type 0
RenewersLed E D bs k = (i : ℕ) → i < k → RenewerLed E D (get_or bs i 0)
