-- THE DEFINITION of what is answered to a request whose sheet, rows or events are known. Assumes nothing.
use Rattle.std.specs.Prelude.{ℕ, zero, suc, ◌+◌, ◌-◌, cond, List, [], ◌∷◌, ◌++◌, map, length, replicate, eqb}
use Rattle.std.proofs.Math.Option.{Option}
use Rattle.bitml.specs.Lists.{sum, gather, below}
use Rattle.bitml.specs.Sheet.{Sheet, def_at}
use Rattle.bitml.specs.Rows.{Row, rank_of, Fault, check}
use Rattle.bitml.specs.Rule.{Verdict, liquid, frozen, make}
use Rattle.bitml.specs.Ledger.{Ledger, Event, stipulated}
use Rattle.bitml.specs.Limits.{answers, limited_play}
use Rattle.bitml.specs.Why.{Move, steps_to, causes}

-- "one last part: `make`,P; or `check`,P and .. lines `row` ..; or `play` with a value for each secret .. and event lines"; and
-- "`makeall` takes no field after the word", and "`why`,P"
pub data Request : Type 0 where
  making : Sheet → ℕ → Request
  making_all : Sheet → Request
  explaining : Sheet → ℕ → Request
  checking : Sheet → ℕ → List Row → Request
  playing : Sheet → List (Option ℕ) → List Event → Request

pub data Line : Type 0 where
  row_line : Row → Line
  liquid_line : ℕ → ℕ → ℕ → Line
  frozen_line : ℕ → ℕ → Line
  step_line : Move → Line
  branch_line : ℕ → ℕ → Line
  refused_line : ℕ → ℕ → ℕ → Line
  taken_line : Line
  end_line : ℕ → ℕ → List ℕ → Line

-- "`refused`,number,line,field"; or the lines that are printed, and the rows that the row buffer holds
pub data Answer : Type 0 where
  refused : ℕ → ℕ → ℕ → Answer
  printed : List Line → List Row → Answer

-- "`liquid` has participant, rows, rank of node 0": node 0 is the root of definition 0
unfoldable pub liquid_by : Sheet → ℕ → List Row → Line
liquid_by s p R = liquid_line p (length R) (rank_of R (def_at s 0).root)

-- "the last line that `make` prints": "`frozen` has participant, node"
abbrev pub verdict_line : Sheet → ℕ → Verdict → Line
verdict_line s p (liquid R) = liquid_by s p R
verdict_line s p (frozen n) = frozen_line p n

-- `make`: the rows and the `liquid` line; `frozen` "is printed without rows"
unfoldable pub made_lines : Sheet → ℕ → Verdict → List Line
made_lines s p (liquid R) = map row_line R ++ (verdict_line s p (liquid R) ∷ [])
made_lines s p (frozen n) = verdict_line s p (frozen n) ∷ []

unfoldable pub made_rows : Verdict → List Row
made_rows (liquid R) = R
made_rows (frozen n) = []

unfoldable pub made_by : Sheet → ℕ → Verdict → Answer
made_by s p v = printed (made_lines s p v) (made_rows v)

-- "8,192 places for rows, those of participant p from 512 × p, with zeros past that participant's rows": the 512 places of one
abbrev pub places_of_one : ℕ
places_of_one = 512

abbrev pub no_row : Row
no_row = record { node = 0; branch = 0; rank = 0 }

unfoldable pub padded : List Row → List Row
padded R = R ++ replicate (places_of_one - length R) no_row

-- `makeall`: "It answers for participants 0 to K − 1 in that order, each with the rows and final line that `make` gives for that
-- participant"
unfoldable pub made_for_all : Sheet → Answer
made_for_all s =
    printed (gather (λ p. made_lines s p (make s p)) (below s.participants)) (gather (λ p. padded (made_rows (make s p))) (below s.participants))

-- `why`: "a line `branch`,number,cause for each branch of the frozen node, by rising number", from number k on
unfoldable pub branch_lines : ℕ → List ℕ → List Line
branch_lines k [] = []
branch_lines k (c ∷ cs) = branch_line k c ∷ branch_lines (suc k) cs

-- "For a liquid sheet that is all. For a frozen one it adds lines `step`,node,branch .. After that" the lines `branch`
unfoldable pub why_lines : Sheet → ℕ → Verdict → List Line
why_lines s p (liquid R) = verdict_line s p (liquid R) ∷ []
why_lines s p (frozen n) = verdict_line s p (frozen n) ∷ map step_line (steps_to s n) ++ branch_lines 0 (causes s p n)

-- "`check` prints the `liquid` line or a refusal", at the line of its row; the line of `check` is the one behind the `def` lines
unfoldable pub checked_by : Sheet → ℕ → List Row → Fault → Answer
checked_by s p R f = cond (eqb f.number 0) (printed (liquid_by s p R ∷ []) R) (refused f.number (length s.defs + 2 + f.place) 0)

-- The line that answers the event on line k of the request: taken, or refused by a number
unfoldable pub event_line : ℕ → ℕ → Line
event_line k zero = taken_line
event_line k (suc n) = refused_line (suc n) k 0

-- The answers ns to the events from line k on; "play goes on" behind a refusal
unfoldable pub event_lines : ℕ → List ℕ → List Line
event_lines k [] = []
event_lines k (n ∷ ns) = event_line k n ∷ event_lines (suc k) ns

-- "`end`,500,0,0,100 (time, live contracts, paid by participant)"
unfoldable pub end_of : Ledger → Line
end_of l = end_line l.time (sum (map (λ c. cond c.alive 1 0) l.contracts)) l.paid

unfoldable pub play_lines : Sheet → Ledger → ℕ → List Event → List Line
play_lines s l k es = event_lines k (answers s l es) ++ (end_of (limited_play s l es) ∷ [])

-- The first event stands two lines behind the `def` lines. "it is wholly zero after `play`", and after `why`, "and after any later one that
-- prints no rows, the row buffer is zero": no rows
unfoldable pub answer : Request → Answer
answer (making s p) = made_by s p (make s p)
answer (making_all s) = made_for_all s
answer (explaining s p) = printed (why_lines s p (make s p)) []
answer (checking s p R) = checked_by s p R (check s p R)
answer (playing s vs es) = printed (play_lines s (stipulated s vs) (length s.defs + 3) es) []
