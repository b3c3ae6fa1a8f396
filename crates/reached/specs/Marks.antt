-- What the work arrays hold: marks of definitions and their queue, marks of nodes. Assumes nothing.
use Rattle.std.specs.Prelude.{◌≡◌, ◌↔◌, ℕ, ◌+◌, ◌-◌, ◌≤◌, ◌<◌, true, cond, List, map, length, get_or, eqb}
use Rattle.bitml.specs.Lists.{sum}
use Rattle.bitml.specs.Rule.{reached}
use Rattle.tables.specs.Entries.{Entries, held, people, most_nodes}
use Rattle.search.specs.declared.Search.{Search}
use Rattle.tables.specs.SheetOf.{sheet_of, node_entry_at, branch_entry_at, def_entry_at, branch_count, branch_number}

abbrev pub flag : ℕ → ℕ
flag x = cond (eqb x 0) 0 1

-- Definition d is there, and its root is reached
pub record DefReached (K : ℕ) (E : Entries) (d : ℕ) : Type 0 where
  pub there : d < length E.defs
  pub root : reached (sheet_of K E) (def_entry_at E d).root ≡ true

-- M marks reached definitions, each with its place in the queue Q, from 1; there are `tail` of them
pub record Marked (K : ℕ) (E : Entries) (M Q : List ℕ) (tail : ℕ) : Type 0 where
  pub long : length M ≡ 32
  pub wide : length Q ≡ 32
  pub count : sum (map flag M) ≡ tail
  pub sound : (d : ℕ) → 0 < get_or M d 0 → DefReached K E d
  pub queued : (d : ℕ) → 0 < get_or M d 0 → (get_or M d 0 ≤ tail) × (get_or Q (get_or M d 0 - 1) 0 ≡ d)
  pub back : (i : ℕ) → i < tail → get_or M (get_or Q i 0) 0 ≡ i + 1

-- and so a search does
abbrev pub Searched : List ℕ → Search 32 → Type 0
Searched t s = Marked (people t) (held t) s.marks.now s.queue s.len

-- Marks stay
unfoldable pub Grown : List ℕ → List ℕ → Type 0
Grown M M' = (m : ℕ) → 0 < get_or M m 0 → get_or M' m 0 ≡ get_or M m 0

-- What branch b renews as is marked; the same of the first k branches of node n, of the nodes of definition d from j up to k, and of
-- the marked definitions up to place h of the queue
unfoldable pub BranchLed : Entries → List ℕ → ℕ → Type 0
BranchLed E M b = (branch_entry_at E b).kind ≡ 3 → 0 < get_or M (branch_entry_at E b).arg 0

unfoldable pub NodeLed : Entries → List ℕ → ℕ → ℕ → Type 0
NodeLed E M n k = (i : ℕ) → i < k → BranchLed E M (branch_number E n i)

unfoldable pub DefLed : Entries → List ℕ → ℕ → ℕ → ℕ → Type 0
DefLed E M d j k = (n : ℕ) → j ≤ n → n < k → (node_entry_at E n).definition ≡ d → NodeLed E M n (branch_count E n)

unfoldable pub LedUpTo : Entries → List ℕ → ℕ → Type 0
LedUpTo E M h = (d : ℕ) → 0 < get_or M d 0 → get_or M d 0 ≤ h → DefLed E M d 0 (length E.nodes)

-- The first k nodes have the marks of their definitions, and the others none
pub record Spread (E : Entries) (D M : List ℕ) (k : ℕ) : Type 0 where
  pub long : length M ≡ most_nodes
  pub same : (m : ℕ) → m < k → get_or M m 0 ≡ get_or D (node_entry_at E m).definition 0
  pub none : (m : ℕ) → k ≤ m → get_or M m 0 ≡ 0

-- The marked nodes are the reached ones
unfoldable pub MarksReached : ℕ → Entries → List ℕ → Type 0
MarksReached K E M = (m : ℕ) → (0 < get_or M m 0) ↔ (reached (sheet_of K E) m ≡ true)
