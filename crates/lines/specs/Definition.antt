-- "F lines `def`: K deposits in satoshi, the count of secrets (0 to 8), each secret's owner, one contract". Assumes nothing.
use Rattle.std.specs.Prelude.{ℕ, zero, suc, ◌+◌, List, [], length, ltb, eqb}
use Rattle.fields.specs.Field.{spelled, any_number, number_at, first_at, line_end_at}
use Rattle.tables.specs.State.{State, with_listed, with_def, def_entry}
use Rattle.steps.specs.Steps.{Outcome, next, bad, go_on, either, and_then, times}
use Rattle.contracts.specs.declared.Limits.{Limits}
use Rattle.contracts.specs.Contract.{read_contract}

-- the limits within definition d, which has n secrets
abbrev pub within : Limits → ℕ → ℕ → Limits
within z n d = record { all = z.all; people = z.people; defs = z.defs; def = d; secrets = n }

module _ (s : List ℕ) where
  -- n deposits, after some of a sum: "a deposit is 0 to 2,100,000,000,000,000 satoshi" (4), and so are "deposits of one definition together" (7)
  unfoldable pub deposits_at : ℕ → ℕ → State → Outcome
  deposits_at sum zero a = next a
  deposits_at sum (suc n) a =
      go_on a (number_at s a.at 2100000000000000) λ v a₁.
      either (ltb 2100000000000000 (sum + v)) (bad 7 a.at) (deposits_at (sum + v) n (with_listed v a₁))

  -- "each secret's owner": 6 where there is no such participant
  unfoldable pub owner_at : ℕ → State → Outcome
  owner_at people a =
      go_on a (number_at s a.at any_number) λ v a₁.
      either (ltb v people) (next (with_listed v a₁)) (bad 6 a.at)

  -- "one contract": the next node is the root, no branch's part (1,024), at depth 1 of 32; then the line's end
  unfoldable pub root_at : Limits → ℕ → ℕ → State → Outcome
  root_at z first n a =
      and_then (read_contract s (within z n (length a.defs)) 32 1024 0 (with_def (def_entry (length a.nodes) first n) a)) λ a₁.
      go_on a₁ (line_end_at s a₁.at) λ v a₂. next a₂

  -- "the count of secrets (0 to 8), each secret's owner", after the deposits, which are listed from `first` on
  unfoldable pub owned_at : Limits → ℕ → State → Outcome
  owned_at z first a =
      go_on a (number_at s a.at 8) λ n a₁.
      and_then (times n (owner_at z.people) a₁) (root_at z first n)

  -- the word `def` or 3
  unfoldable pub define_at : Limits → State → Outcome
  define_at z a =
      go_on a (first_at s a.at) λ w a₁.
      either (eqb w (spelled "def")) (and_then (deposits_at 0 z.people a₁) (owned_at z (length a₁.listed))) (bad 3 a.at)

-- no entries yet, at the position after line 1
abbrev pub blank : ℕ → State
blank p = record { at = p; nodes = []; branches = []; defs = []; listed = []; cells = [] }
