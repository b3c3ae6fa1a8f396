-- How reading goes on. "Reading stops at its first bad field": a step gives the state after it, or a refusal. Assumes nothing.
use Rattle.std.specs.Prelude.{ℕ, zero, suc, ◌≡◌, List, Bool, true, false}
use Rattle.std.specs.Prelude.{Result, Ok, Err}
use Rattle.refusals.specs.Numbers.{number}
use Rattle.fields.specs.declared.Refused.{Refused}
use Rattle.fields.specs.Field.{Got}
use Rattle.fields.specs.Field as got
use Rattle.tables.specs.declared.St.{St}
use Rattle.tables.specs.State.{State, state_of}

-- the state after a step; or a refusal's number and the position before its field
pub data Outcome : Type 0 where
  next : State → Outcome
  bad : ℕ → ℕ → Outcome

-- ---- steps, one after the other

abbrev pub to_place : State → ℕ → State
to_place a e = record { at = e; nodes = a.nodes; branches = a.branches; defs = a.defs; listed = a.listed; cells = a.cells }

-- a field, then what follows
unfoldable pub go_on : State → Got → (ℕ → State → Outcome) → Outcome
go_on a (got.Value v e) k = k v (to_place a e)
go_on a (got.Bad n p) k = bad n p

-- where the test holds, else
unfoldable pub either : Bool → Outcome → Outcome → Outcome
either true x y = x
either false x y = y

unfoldable pub and_then : Outcome → (State → Outcome) → Outcome
and_then (next a) k = k a
and_then (bad n p) k = bad n p

abbrev pub twice : (State → Outcome) → State → Outcome
twice f a = and_then (f a) f

unfoldable pub times : ℕ → (State → Outcome) → State → Outcome
times zero f a = next a
times (suc n) f a = and_then (f a) (times n f)

-- ---- what the code answers

-- a value and the state after it; or a refusal's number and the position before its field
pub data Read : Type 0 where
  Value : ℕ → St → Read
  Bad : ℕ → ℕ → Read

abbrev pub told : Result (ℕ × St) Refused → Read
told (Ok r) = Value r.0 r.1
told (Err e) = Bad (number e.refusal) e.at

-- the state alone
abbrev pub told_state : Result St Refused → Read
told_state (Ok st) = Value 0 st
told_state (Err e) = Bad (number e.refusal) e.at

abbrev pub at_place : St → ℕ → St
at_place st e = record { at = e; nodes = st.nodes; branches = st.branches; defs = st.defs; listed = st.listed; cells = st.cells }

-- after a field the counts are as before
unfoldable pub moved : St → Got → Read
moved st (got.Value v e) = Value v (at_place st e)
moved st (got.Bad n p) = Bad n p

-- the outcome that an answer means, with the table as it is then
unfoldable pub outcome : Read → List ℕ → Outcome
outcome (Value v st) t = next (state_of st t)
outcome (Bad n p) t = bad n p

unfoldable pub OnSt : (St → Type 0) → Read → Type 0
OnSt P (Value v st) = P st
OnSt P (Bad n p) = Unit {0}

-- the answer is what the definition wants; and P is promised of the counts
pub record Met (P : St → Type 0) (want : Outcome) (r : Read) (t : List ℕ) : Type 0 where
  pub same : outcome r t ≡ want
  pub holds : OnSt P r
