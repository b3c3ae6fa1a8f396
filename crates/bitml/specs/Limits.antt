-- "The program's ledger adds ..": its limits, as a second refusal over the plain one. Assumes nothing.
use Rattle.std.specs.Prelude.{ℕ, zero, suc, ◌+◌, Bool, true, List, [], ◌∷◌, map, length, leb}
use Rattle.bitml.specs.Lists.{◌&◌, ask, sum}
use Rattle.bitml.specs.Sheet.{Sheet, def_at}
use Rattle.bitml.specs.Ledger.{Ledger, Event, wait, sign, tell, fire, renew, contract_at, the_branch, renewed_as, making, refusal, after, when_taken}

-- "all deposits taken": those of the definition of each set, since each set is made with the deposits of its definition
unfoldable pub deposits_taken : Sheet → Ledger → ℕ
deposits_taken s l = sum (map (λ k. sum (def_at s k.definition).deposits) l.sets)

-- "256 contracts and 32 sets made per run (contract 0 and set 0 counted), time 4,294,967,295, all deposits taken 2,100,000,000,000,000"
unfoldable pub within : Sheet → Ledger → Event → Bool
within s l (wait d) = leb (l.time + d) 4294967295
within s l (sign p c b) = true
within s l (tell i j) = true
within s l (fire c b) = leb (length l.contracts + length (making (contract_at l c) (the_branch s l c b).action)) 256
within s l (renew c b vs) =
    leb (suc (length l.contracts)) 256 & leb (suc (length l.sets)) 32
    & leb (deposits_taken s l + sum (def_at s (renewed_as (the_branch s l c b).action)).deposits) 2100000000000000

-- 19, "a limit of the program's ledger", where the plain rules refuse nothing: "the lowest that applies"
abbrev pub or_limit : ℕ → Bool → ℕ
or_limit zero fits = ask fits 19 0
or_limit (suc k) fits = suc k

unfoldable pub limited_refusal : Sheet → Ledger → Event → ℕ
limited_refusal s l e = or_limit (refusal s l e) (within s l e)

unfoldable pub limited_step : Sheet → Ledger → Event → Ledger
limited_step s l e = when_taken (limited_refusal s l e) l (after s l e)

-- The answers to a list of events, 0 for taken, and the ledger after them: "play goes on" after a refusal
unfoldable pub answers : Sheet → Ledger → List Event → List ℕ
answers s l [] = []
answers s l (e ∷ es) = limited_refusal s l e ∷ answers s (limited_step s l e) es

unfoldable pub limited_play : Sheet → Ledger → List Event → Ledger
limited_play s l [] = l
limited_play s l (e ∷ es) = limited_play s (limited_step s l e) es
