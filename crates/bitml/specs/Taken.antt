-- "An event is taken when all that its line asks holds": what each line asks and what each number says against it, as facts; a play as a
-- whole. Assumes nothing.
use Rattle.std.specs.Prelude.{◌≡◌, ◌↔◌, ◌⊎◌, ℕ, suc, ◌≤◌, ◌<◌, Bool, true, false, cond, length}
use Rattle.std.proofs.Math.Option.{Option}
use mathlib.Core.List.{List, [], ◌∷◌, Memᴰ}
use Rattle.bitml.specs.Sheet.{Sheet, Cond, reveal, renew_as, branches_at, def_at, signs, holds}
use Rattle.bitml.specs.Ledger.{Ledger, Event, wait, sign, tell, fire, renew, kept, told, number, contract_at, set_at, commitment_at, the_branch, refusal, after, play}
use Rattle.bitml.specs.Limits.{deposits_taken, limited_refusal, answers, limited_play}
use Rattle.bitml.specs.Answers.{Line, row_line, liquid_line, frozen_line, step_line, branch_line, refused_line, taken_line, end_line, event_lines}

-- ---- facts of a contract, a branch and a set

-- Contract c is made and "alive", and its node has a branch b
pub record LiveBranch (s : Sheet) (l : Ledger) (c b : ℕ) : Type 0 where
  pub made : c < length l.contracts
  pub alive : (contract_at l c).alive ≡ true
  pub there : b < length (branches_at s (contract_at l c).node)

-- p is "a signer of branch b"; and has signed it
abbrev pub IsSigner : Sheet → Ledger → ℕ → ℕ → ℕ → Type 0
IsSigner s l p c b = signs (the_branch s l c b) p ≡ true

abbrev pub HasSigned : Ledger → ℕ → ℕ → ℕ → Type 0
HasSigned l p c b = (contract_at l c).signed b p ≡ true

-- "all signers signed"
abbrev pub EverySigned : Sheet → Ledger → ℕ → ℕ → Type 0
EverySigned s l c b = (p : ℕ) → p < s.participants → IsSigner s l p c b → HasSigned l p c b

-- "opening time not above time"
abbrev pub IsOpen : Sheet → Ledger → ℕ → ℕ → Type 0
IsOpen s l c b = (the_branch s l c b).opens ≤ l.time

-- Secret j of set i is "a number, not told yet"; or was told
abbrev pub StillKept : Ledger → ℕ → ℕ → Type 0
StillKept l i j = (v : ℕ) × (commitment_at l i j ≡ kept v)

abbrev pub WasTold : Ledger → ℕ → ℕ → Type 0
WasTold l i j = (v : ℕ) × (commitment_at l i j ≡ told v)

-- A condition over the secrets of set i
abbrev pub holds_in : Ledger → ℕ → Cond → Bool
holds_in l i q = holds (λ j. number (commitment_at l i j)) q

-- ---- what each line asks

-- "`sign`,p,c,b: p, a signer of branch b of the live contract c, who has not signed it yet"
pub record MaySign (s : Sheet) (l : Ledger) (p c b : ℕ) : Type 0 where
  pub live-branch : LiveBranch s l c b
  pub signer : IsSigner s l p c b
  pub not_yet : HasSigned l p c b → ⊥

-- "`tell`,i,j: secret j of set i, a number, not told yet"
pub record MayTell (l : Ledger) (i j : ℕ) : Type 0 where
  pub known_set : i < length l.sets
  pub known_secret : j < length (set_at l i).secrets
  pub still_kept : StillKept l i j

-- "`fire`,c,b: `w`, `s` or `r`. Contract alive, opening time not above time, all signers signed; for `r` all listed secrets told and the
-- condition true"
pub record MayFire (s : Sheet) (l : Ledger) (c b : ℕ) : Type 0 where
  pub live-branch : LiveBranch s l c b
  pub no_renewal : (d : ℕ) → (the_branch s l c b).action ≡ renew_as d → ⊥
  pub is_open : IsOpen s l c b
  pub every-signed : EverySigned s l c b
  pub all_told : (js : List ℕ) (q : Cond) (n : ℕ) → (the_branch s l c b).action ≡ reveal js q n → (j : ℕ) → Memᴰ j js → WasTold l (contract_at l c).set j
  pub condition : (js : List ℕ) (q : Cond) (n : ℕ) → (the_branch s l c b).action ≡ reveal js q n → holds_in l (contract_at l c).set q ≡ true

-- "`renew`,c,b, up to 8 values: a `g` branch of a live contract, opening time not above time, all signers signed, one value for each secret of d"
pub record MayRenew (s : Sheet) (l : Ledger) (c b : ℕ) (vs : List (Option ℕ)) : Type 0 where
  pub live-branch : LiveBranch s l c b
  pub definition : ℕ
  pub renewal : (the_branch s l c b).action ≡ renew_as definition
  pub is_open : IsOpen s l c b
  pub every-signed : EverySigned s l c b
  pub values : length vs ≡ length (def_at s definition).owners

-- "`wait`,d (1 to 4,294,967,295)", and the others
unfoldable pub Asks : Sheet → Ledger → Event → Type 0
Asks s l (wait d) = (1 ≤ d) × (d ≤ 4294967295)
Asks s l (sign p c b) = MaySign s l p c b
Asks s l (tell i j) = MayTell l i j
Asks s l (fire c b) = MayFire s l c b
Asks s l (renew c b vs) = MayRenew s l c b vs

-- "256 contracts and 32 sets made per run (contract 0 and set 0 counted), time 4,294,967,295, all deposits taken 2,100,000,000,000,000"
pub record WithinLimits (s : Sheet) (l : Ledger) : Type 0 where
  pub few-contracts : length l.contracts ≤ 256
  pub few-sets : length l.sets ≤ 32
  pub in_time : l.time ≤ 4294967295
  pub few-deposits : deposits_taken s l ≤ 2100000000000000

-- ---- "Events: the lowest that applies": what each number says

infixr 22 ◌when◌
infixr 20 ◌also◌
-- Number k applies where the fact holds; two such tables together
unfoldable pub ◌when◌ : ℕ → Type 0 → ℕ → Type 0
◌when◌ k A n = (n ≡ k) × A

unfoldable pub ◌also◌ : (ℕ → Type 0) → (ℕ → Type 0) → ℕ → Type 0
◌also◌ A B n = A n ⊎ B n

-- 16, "unsigned"
abbrev pub Unsigned : Sheet → Ledger → ℕ → ℕ → Type 0
Unsigned s l c b = (p : ℕ) × (p < s.participants) × IsSigner s l p c b × (HasSigned l p c b → ⊥)

-- 17, of a `fire`: "`x`, .. untold; condition false"
pub data Unrevealed (s : Sheet) (l : Ledger) (c b : ℕ) : Type 0 where
  untold : (js : List ℕ) (q : Cond) (n : ℕ) → (the_branch s l c b).action ≡ reveal js q n
      → (j : ℕ) → Memᴰ j js → (WasTold l (contract_at l c).set j → ⊥) → Unrevealed s l c b
  fails : (js : List ℕ) (q : Cond) (n : ℕ) → (the_branch s l c b).action ≡ reveal js q n
      → holds_in l (contract_at l c).set q ≡ false → Unrevealed s l c b

-- 14, "contract unknown or dead, no such branch, wrong kind (`fire` of a `g`, `renew` of any other)"; 15, "before opening time"; 16, "unsigned;
-- not a signer; signed twice"; 17, "set or secret unknown, `x`, told, untold; condition false"; 18, "wrong count of values". The range of a
-- `wait` is asked when its line is read (4)
unfoldable pub Against : Sheet → Ledger → Event → ℕ → Type 0
Against s l (wait d) = 4 when ((d ≡ 0) ⊎ (4294967295 < d))
Against s l (sign p c b) =
    14 when (LiveBranch s l c b → ⊥)
    also 16 when ((IsSigner s l p c b → ⊥) ⊎ HasSigned l p c b)
Against s l (tell i j) = 17 when (StillKept l i j → ⊥)
Against s l (fire c b) =
    14 when ((LiveBranch s l c b → ⊥) ⊎ ((d : ℕ) × ((the_branch s l c b).action ≡ renew_as d)))
    also 15 when (l.time < (the_branch s l c b).opens)
    also 16 when (Unsigned s l c b)
    also 17 when (Unrevealed s l c b)
Against s l (renew c b vs) =
    14 when ((LiveBranch s l c b → ⊥) ⊎ ((d : ℕ) → (the_branch s l c b).action ≡ renew_as d → ⊥))
    also 15 when (l.time < (the_branch s l c b).opens)
    also 16 when (Unsigned s l c b)
    also 18 when ((d : ℕ) × ((the_branch s l c b).action ≡ renew_as d) × (length vs ≡ length (def_at s d).owners → ⊥))

-- and 19, "a limit of the program's ledger": the ledger after the event would pass it
unfoldable pub Refusing : Sheet → Ledger → Event → ℕ → Type 0
Refusing s l e = Against s l e also 19 when (WithinLimits s (after s l e) → ⊥)

-- "the lowest that applies"
pub record Lowest (A : ℕ → Type 0) (n : ℕ) : Type 0 where
  pub applies : A n
  pub no_lower : (m : ℕ) → m < n → A m → ⊥

-- ---- a play

-- The events from line k on, the lines that answer them, and the ledger after them all
pub data Plays (s : Sheet) : ℕ → Ledger → List Event → List Line → Ledger → Type 0 where
  over : {k : ℕ} {l : Ledger} → Plays s k l [] [] l
  -- "An event is taken when all that its line asks holds", and the limits; it "gives the ledger after it"
  takes : {k : ℕ} {l l' : Ledger} {e : Event} {es : List Event} {ls : List Line} → Asks s l e → WithinLimits s (after s l e)
      → Plays s (suc k) (after s l e) es ls l' → Plays s k l (e ∷ es) (taken_line ∷ ls) l'
  -- "otherwise it is refused and the ledger stays the same": "`refused`,number,line,field (.. field 0 from 10 up)". "play goes on". A `wait`
  -- that gets 4 is in no play: its request is refused while it is read
  refuses : {k n : ℕ} {l l' : Ledger} {e : Event} {es : List Event} {ls : List Line} → Lowest (Refusing s l e) n
      → Plays s (suc k) l es ls l' → Plays s k l (e ∷ es) (refused_line n k 0 ∷ ls) l'

-- The events whose line is `taken`
unfoldable pub is_taken : Line → Bool
is_taken (row_line r) = false
is_taken (liquid_line p n k) = false
is_taken (frozen_line p n) = false
is_taken (step_line m) = false
is_taken (branch_line b c) = false
is_taken (refused_line n k f) = false
is_taken taken_line = true
is_taken (end_line t n ps) = false

unfoldable pub taken_in : List Line → List Event → List Event
taken_in [] es = []
taken_in (x ∷ ls) [] = []
taken_in (x ∷ ls) (e ∷ es) = cond (is_taken x) (e ∷ taken_in ls es) (taken_in ls es)

-- The plain ledger takes them all
unfoldable pub AllTaken : Sheet → Ledger → List Event → Type 0
AllTaken s l [] = Unit {0}
AllTaken s l (e ∷ es) = Asks s l e × AllTaken s (after s l e) es

-- ---- DEMAND 2, THE LEDGER: "an event is taken exactly when the rules allow it and the ledger's limits hold, and has their effect"
pub record EventsTaken : Type 0 where
  -- the plain ledger: taken exactly where all that its line asks holds, and else refused by the lowest number that applies
  pub plain : (s : Sheet) (l : Ledger) (e : Event) → (refusal s l e ≡ 0) ↔ Asks s l e
  pub plain-number : (s : Sheet) (l : Ledger) (e : Event) (n : ℕ) → ((0 < n) × (refusal s l e ≡ n)) ↔ Lowest (Against s l e) n
  -- the program's: exactly where, besides, its limits hold afterwards
  pub taken : (s : Sheet) (l : Ledger) → WithinLimits s l → (e : Event) → (limited_refusal s l e ≡ 0) ↔ (Asks s l e × WithinLimits s (after s l e))
  pub number : (s : Sheet) (l : Ledger) → WithinLimits s l → (e : Event) (n : ℕ) → ((0 < n) × (limited_refusal s l e ≡ n)) ↔ Lowest (Refusing s l e) n
  -- a play has these lines and this ledger after it, and no others
  pub played : (s : Sheet) (l : Ledger) → WithinLimits s l → (k : ℕ) (es : List Event) (ls : List Line) (l' : Ledger)
      → Plays s k l es ls l' ↔ ((ls ≡ event_lines k (answers s l es)) × (l' ≡ limited_play s l es))
  -- its ledger is that of the plain play of the events that it takes, and keeps the limits
  pub plainly : (s : Sheet) (k : ℕ) (l l' : Ledger) (es : List Event) (ls : List Line) → Plays s k l es ls l'
      → AllTaken s l (taken_in ls es) × (play s l (taken_in ls es) ≡ l')
  pub limits_kept : (s : Sheet) (k : ℕ) (l l' : Ledger) (es : List Event) (ls : List Line) → WithinLimits s l → Plays s k l es ls l' → WithinLimits s l'
