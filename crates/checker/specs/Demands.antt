-- What is proved of the reply to every request that is read whole: demands 2 and 3, and what `why` tells, from the bytes on. Assumes nothing.
use Rattle.std.specs.Prelude.{◌≡◌, ◌⊎◌, ℕ, ◌+◌, ◌≤◌, ◌<◌, List, [], ◌∷◌, ◌++◌, map, length, get_or}
use Rattle.std.proofs.Math.Option.{Option}
use Rattle.bitml.specs.Lists.{gather, below}
use Rattle.bitml.specs.Sheet.{Sheet, def_at, branches_at, branch_at}
use Rattle.bitml.specs.Runs.{Liquid}
use Rattle.bitml.specs.Rows.{Row, Accepted, FaultAt}
use Rattle.bitml.specs.Rule.{rows}
use Rattle.bitml.specs.Ledger.{Ledger, Event, play, stipulated}
use Rattle.bitml.specs.Taken.{WithinLimits, Plays, taken_in, AllTaken}
use Rattle.bitml.specs.Liquidity.{Numbers, NumbersAlong, NoneLive, live_rank, Way}
use Rattle.bitml.specs.Why.{Move, FirstShortest, LowestCause}
use Rattle.bitml.specs.Answers.{Line, row_line, frozen_line, step_line, branch_lines, Answer, refused, printed, liquid_by, end_of, places_of_one, padded}
use Rattle.bitml.specs.Demands.{Frozen, Published}
use Rattle.tables.specs.Entries.{Entries}
use Rattle.tables.specs.SheetOf.{sheet_of, def_entry_at}
use Rattle.reading.specs.Request.{request, make, make_all, why, check, read_request}
use Rattle.reading.specs.Request.{play as plays}
use Rattle.buffer.specs.Buffer.{places_of_all}
use Rattle.replies.specs.Answer.{least_text}
use Rattle.ledger.specs.Values.{values_of}
use Rattle.plays.specs.Events.{events_of}
use Rattle.checker.specs.Entry.{answer_to}

-- Demand 3, first half: "one claim about the whole list of events". Wherever they lead from stipulation, P alone can empty
-- all contracts, in no more firings than the rows rank the live ones
unfoldable pub Leaves : Sheet → ℕ → List Row → Type 0
Leaves S p R =
    (vs : List (Option ℕ)) → Numbers S p 0 vs
    → (es : List Event) → NumbersAlong S p (stipulated S vs) es
    → Way S p (play S (stipulated S vs) es) NoneLive (live_rank R (play S (stipulated S vs) es).contracts)

-- ---- `make`,P

-- A liquid sheet
pub record MadeRows (S : Sheet) (p : ℕ) (a : Answer) : Type 0 where
  -- The rows, the `liquid` line, and "The row buffer holds the rows"
  pub answer : a ≡ printed (map row_line (rows S p) ++ (liquid_by S p (rows S p) ∷ [])) (rows S p)
  -- "A sheet is liquid for P if every reached node has an exit"
  pub liquid : Liquid S p
  -- "The published rule: one row for each reached node; rank is the least .., branch the lowest with that rank", "by rising node number"
  pub published : Published S p (rows S p)
  -- Demand 3, second half: the published rows are accepted; and so its first half holds for them
  pub accepted : Accepted S p (rows S p)
  pub leaves : Leaves S p (rows S p)

-- Any other sheet
pub record MadeFrozen (S : Sheet) (p : ℕ) (a : Answer) : Type 0 where
  pub node : ℕ
  -- "`frozen` has participant, node, and is printed without rows"
  pub answer : a ≡ printed (frozen_line p node ∷ []) []
  -- Demand 2: the lowest reached node that has no exit
  pub frozen : Frozen S p node

-- ---- `makeall`

-- Of every participant what `make` answers
pub record MadeForAll (S : Sheet) (a : Answer) : Type 0 where
  pub lines : ℕ → List Line
  pub held : ℕ → List Row
  -- "for participants 0 to K − 1 in that order, each with the rows and final line that `make` gives", "those of participant p from 512 × p"
  pub answer : a ≡ printed (gather lines (below S.participants)) (gather (λ p. padded (held p)) (below S.participants))
  pub each : (p : ℕ) → MadeRows S p (printed (lines p) (held p)) ⊎ MadeFrozen S p (printed (lines p) (held p))

-- ---- `why`,P

-- A liquid sheet
pub record WhyLiquid (S : Sheet) (p : ℕ) (a : Answer) : Type 0 where
  -- "For a liquid sheet that is all", and "the row buffer is zero"
  pub answer : a ≡ printed (liquid_by S p (rows S p) ∷ []) []
  pub liquid : Liquid S p

-- Any other sheet
pub record WhyFrozen (S : Sheet) (p : ℕ) (a : Answer) : Type 0 where
  pub node : ℕ
  pub steps : List Move
  pub causes : List ℕ
  -- The line that `make` prints, the lines `step`, the lines `branch`
  pub answer : a ≡ printed (frozen_line p node ∷ map step_line steps ++ branch_lines 0 causes) []
  pub frozen : Frozen S p node
  -- "an abstract run from the start to a list that holds the frozen node, with no shorter run doing so. Among the shortest runs it takes the first"
  pub way : FirstShortest S ((def_at S 0).root ∷ []) node steps
  -- "for each branch of the frozen node"
  pub each : length causes ≡ length (branches_at S node)
  -- "the cause holds, and no lower cause does"
  pub branch : (b : ℕ) → b < length (branches_at S node) → LowestCause S p node (branch_at S node b) (get_or causes b 0)

-- "prints first the last line that `make` prints": of the answers a to `make`,P and b to `why`,P
pub record SameVerdict (a b : Answer) : Type 0 where
  pub line : Line
  pub before : List Line
  pub behind : List Line
  pub held : List Row
  pub made : a ≡ printed (before ++ (line ∷ [])) held
  pub told : b ≡ printed (line ∷ behind) []

-- ---- `check`,P with rows R

pub record RowsTaken (S : Sheet) (p : ℕ) (R : List Row) (a : Answer) : Type 0 where
  -- "`check` prints the `liquid` line", and "The row buffer holds the rows (for `check` as given)"
  pub answer : a ≡ printed (liquid_by S p R ∷ []) R
  -- "They are accepted if these hold", in node order
  pub accepted : Accepted S p R
  pub leaves : Leaves S p R

pub record RowsRefused (S : Sheet) (p : ℕ) (R : List Row) (a : Answer) : Type 0 where
  pub number : ℕ
  pub place : ℕ
  -- "or a refusal", at the line of its row: the line of `check`, at place 0, is the one behind the `def` lines. "field 0 from 10 up"
  pub answer : a ≡ refused number (length S.defs + 2 + place) 0
  -- "Rows: 10 .., 11 .., then row by row 11, 12, 13", and 21 "after 10 and before 11"
  pub fault : FaultAt S p R number place
  -- "and in no other case"
  pub unaccepted : Accepted S p R → ⊥

-- ---- `play` with the values vs and the events es

pub record Played (S : Sheet) (vs : List (Option ℕ)) (es : List Event) (a : Answer) : Type 0 where
  pub lines : List Line
  pub ledger : Ledger
  -- A line for each event, the `end` line of the ledger after them all, and "it is wholly zero after `play`"
  pub answer : a ≡ printed (lines ++ (end_of ledger ∷ [])) []
  -- From stipulation on each event is taken, when all that its line asks and the limits hold, and has its effect; or refused by the lowest number
  -- that applies, at its line, and changes nothing. The first stands two lines behind the `def` lines
  pub each : Plays S (length S.defs + 3) (stipulated S vs) es lines ledger
  -- and no other lines and no other ledger are so
  pub only : (ls : List Line) (l : Ledger) → Plays S (length S.defs + 3) (stipulated S vs) es ls l → (ls ≡ lines) × (l ≡ ledger)
  -- The plain ledger takes all events whose line is `taken`, and is the same after them
  pub taken : AllTaken S (stipulated S vs) (taken_in lines es)
  pub plain : play S (stipulated S vs) (taken_in lines es) ≡ ledger
  -- "The program's ledger adds" its limits
  pub limits : WithinLimits S ledger

-- ---- of every request that is read whole

-- None of "over 65,536 bytes", "a lent row buffer under 512", and a text buffer in which not every reply fits
pub record Room (s : List ℕ) (places text : ℕ) : Type 0 where
  pub bytes : length s ≤ 65536
  pub enough-places : places_of_one ≤ places
  pub enough-text : least_text ≤ text

pub record OfReplies : Type 0 where
  -- Demand 2, the verdict, with both halves of demand 3 for the rows that are made
  pub making : (s : List ℕ) (places text : ℕ) → Room s places text
      → (K : ℕ) (E : Entries) (p : ℕ) → read_request s ≡ request K E (make p)
      → MadeRows (sheet_of K E) p (answer_to s places text) ⊎ MadeFrozen (sheet_of K E) p (answer_to s places text)
  -- The same for all participants, where there are places for them
  pub making-all : (s : List ℕ) (places text : ℕ) → Room s places text → places_of_all ≤ places
      → (K : ℕ) (E : Entries) → read_request s ≡ request K E make_all → MadeForAll (sheet_of K E) (answer_to s places text)
  -- "Telling the drafter why": the verdict, the steps and the causes, "A reader of these lines may rely on each"
  pub explaining : (s : List ℕ) (places text : ℕ) → Room s places text
      → (K : ℕ) (E : Entries) (p : ℕ) → read_request s ≡ request K E (why p)
      → WhyLiquid (sheet_of K E) p (answer_to s places text) ⊎ WhyFrozen (sheet_of K E) p (answer_to s places text)
  -- and its first line is the last of `make`,P of the same sheet
  pub same-verdict : (s u : List ℕ) (places text : ℕ) → Room s places text → Room u places text
      → (K : ℕ) (E : Entries) (p : ℕ) → read_request s ≡ request K E (make p) → read_request u ≡ request K E (why p)
      → SameVerdict (answer_to s places text) (answer_to u places text)
  -- Demand 2, the check of rows, with the first half of demand 3 for the rows that are taken
  pub checking : (s : List ℕ) (places text : ℕ) → Room s places text
      → (K : ℕ) (E : Entries) (p : ℕ) (R : List Row) → read_request s ≡ request K E (check p R)
      → RowsTaken (sheet_of K E) p R (answer_to s places text) ⊎ RowsRefused (sheet_of K E) p R (answer_to s places text)
  -- Demand 2, the ledger: "an event is taken exactly when the rules allow it and the ledger's limits hold, and has their effect"
  pub playing : (s : List ℕ) (places text : ℕ) → Room s places text
      → (K : ℕ) (E : Entries) (v e : ℕ) → read_request s ≡ request K E (plays v e)
      → Played (sheet_of K E) (values_of s v (def_entry_at E 0).secrets) (events_of s K e) (answer_to s places text)
