-- What a branch costs by an array of ranks, and what the work arrays hold: ranks, chosen branches. Assumes nothing.
use Rattle.std.specs.Prelude.{◌≡◌, ℕ, ◌+◌, ◌≤◌, ◌<◌, cond, List, [], ◌∷◌, map, length, get_or, eqb, ltb, Option, None, Some}
use Rattle.bitml.specs.Lists.{All, up_from}
use Rattle.bitml.specs.Sheet.{parts}
use Rattle.bitml.specs.Runs.{own}
use Rattle.bitml.specs.Rule as rule
use Rattle.bitml.specs.Rule.{rank_at, choice_at}
use Rattle.tables.specs.Entries.{Entries, most_nodes}
use Rattle.tables.specs.SheetOf.{sheet_of, branch_of, branch_number}
use Rattle.exits.specs.declared.Choice.{Choice}

-- A rank, where 0 stands for none; the rank of node m by the array R
abbrev pub some_rank : ℕ → Option ℕ
some_rank k = cond (eqb k 0) None (Some k)

abbrev pub rank_by : List ℕ → ℕ → Option ℕ
rank_by R m = some_rank (get_or R m 0)

-- The ranks of contracts
unfoldable pub ranks_at : List ℕ → List ℕ → List ℕ
ranks_at R ms = map (λ m. get_or R m 0) ms

-- acc and the ranks ks together; 0 where one is 0
unfoldable pub served : ℕ → List ℕ → ℕ
served acc [] = acc
served acc (k ∷ ks) = cond (ltb 0 k) (served (acc + k) ks) 0

-- Branch entry b of node n, by the ranks R
unfoldable pub branch_cost : ℕ → Entries → ℕ → ℕ → ℕ → List ℕ → ℕ
branch_cost K E p n b R = rule.cost_of (own (sheet_of K E) p n (branch_of E b)) (ranks_at R (parts (branch_of E b).action))

-- The contracts ms are nodes, and no rank of theirs is above the number of nodes
unfoldable pub Ranked : List ℕ → List ℕ → Type 0
Ranked R ms = All (λ m. (m < most_nodes) × (get_or R m 0 ≤ most_nodes)) ms

abbrev pub as_choice : Option Choice → rule.Choice
as_choice None = rule.no_choice
as_choice (Some c) = record { branch = c.branch; rank = c.rank }

-- The choice among the k branches of n from number i on
unfoldable pub chosen_from : ℕ → Entries → ℕ → ℕ → List ℕ → ℕ → ℕ → rule.Choice
chosen_from K E p n R i k = rule.choose (λ b. branch_cost K E p n (branch_number E n b) R) (up_from i k)

-- From node i on, R has the ranks and B the chosen branches
pub record Ranks (K : ℕ) (E : Entries) (p : ℕ) (R B : List ℕ) (i : ℕ) : Type 0 where
  pub long : length R ≡ most_nodes
  pub wide : length B ≡ most_nodes
  pub rank : (m : ℕ) → i ≤ m → m < length E.nodes → get_or R m 0 ≡ rank_at (sheet_of K E) p m
  pub branch : (m : ℕ) → i ≤ m → m < length E.nodes → get_or B m 0 ≡ (choice_at (sheet_of K E) p m).branch
