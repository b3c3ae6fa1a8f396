-- An event that is in range is taken, or refused by a number of its kind. Assumes nothing.
use mathlib.Core.Path.{◌≡◌, refl, sym, subst}
use mathlib.Core.Logic.{inl, inr}
use Prim.Native.Nat.{ℕ, zero, suc}
use mathlib.Core.Bool.{Bool, true, false, true≢false}
use mathlib.Core.List.{List, [], ◌∷◌, Memᴰ}
use lib.Dec.{leb, eqb}
use borrow.Author.Tests.{le-leb, leb-true, eqb-true}
use Rattle.bitml.specs.Lists.{◌or◌, ask, any, All, nil, cons}
use Rattle.bitml.specs.Sheet.{Sheet}
use Rattle.bitml.specs.Ledger.{Ledger, Event, wait, sign, tell, fire, renew, refusal}
use Rattle.bitml.specs.Limits.{within, or_limit, limited_refusal, limited_step, answers}
use Rattle.bitml.proofs.Lists.{all_of, and_i, ask_yes, any-mem}
use Rattle.promises.specs.Refusals.{refusals, InRange, EventNumber, OfEvents}

-- ---- a number is one of a list

abbrev In : List ℕ → ℕ → Type 0
In xs n = Memᴰ n xs

known : {n : ℕ} (xs : List ℕ) → any (eqb n) xs ≡ true → In xs n
known {n} xs h = let w = any-mem (eqb n) xs h in subst (In xs) (sym (eqb-true n w.0 w.2)) w.1

ask_in : {xs : List ℕ} (b : Bool) (k rest : ℕ) → In xs k → In xs rest → In xs (ask b k rest)
unfolding ask
ask_in true k rest h i = i
ask_in false k rest h i = h

-- 19 only where a limit can be passed
limit_in : {xs : List ℕ} (n : ℕ) (fits : Bool) → (fits ≡ false → In xs 19) → In xs n → In xs (or_limit n fits)
unfolding ask
limit_in zero true h i = i
limit_in zero false h i = h refl
limit_in (suc n) fits h i = i

module _ (S : Sheet) (l : Ledger) where
  refusal_in : (e : Event) → InRange e → In (0 ∷ refusals e) (refusal S l e)
  unfolding refusal refusals InRange ◌or◌
  refusal_in (wait d) h = rw (ask_yes _ 4 0 (and_i _ _ (le-leb _ _ h.0) (le-leb _ _ h.1))) (known _ refl)
  refusal_in (sign p c b) h = ask_in _ _ _ (known _ refl) (ask_in _ _ _ (known _ refl) (known _ refl))
  refusal_in (tell i j) h = ask_in _ _ _ (known _ refl) (known _ refl)
  refusal_in (fire c b) h = ask_in _ _ _ (known _ refl) (ask_in _ _ _ (known _ refl) (ask_in _ _ _ (known _ refl) (ask_in _ _ _ (known _ refl) (known _ refl))))
  refusal_in (renew c b vs) h = ask_in _ _ _ (known _ refl) (ask_in _ _ _ (known _ refl) (ask_in _ _ _ (known _ refl) (ask_in _ _ _ (known _ refl) (known _ refl))))

  passed_in : (e : Event) → within S l e ≡ false → In (0 ∷ refusals e) 19
  unfolding within refusals ◌or◌
  passed_in (wait d) h = known _ refl
  passed_in (sign p c b) h = absurd (true≢false h)
  passed_in (tell i j) h = absurd (true≢false h)
  passed_in (fire c b) h = known _ refl
  passed_in (renew c b vs) h = known _ refl

  limited_in : (e : Event) → InRange e → In (0 ∷ refusals e) (limited_refusal S l e)
  unfolding limited_refusal
  limited_in e h = limit_in (refusal S l e) (within S l e) (passed_in e) (refusal_in e h)

-- ---- all of these numbers are 14 to 19

taken : {xs : List ℕ} → All EventNumber xs → All EventNumber (0 ∷ xs)
unfolding EventNumber
taken h = cons (inl refl) h

by : (n : ℕ) → leb 14 n ≡ true → leb n 19 ≡ true → {xs : List ℕ} → All EventNumber xs → All EventNumber (n ∷ xs)
unfolding EventNumber
by n h k i = cons (inr (leb-true 14 n h, leb-true n 19 k)) i

all-numbers : (e : Event) → All EventNumber (0 ∷ refusals e)
unfolding refusals
all-numbers (wait d) = taken (by 19 refl refl nil)
all-numbers (sign p c b) = taken (by 14 refl refl (by 16 refl refl nil))
all-numbers (tell i j) = taken (by 17 refl refl nil)
all-numbers (fire c b) = taken (by 14 refl refl (by 15 refl refl (by 16 refl refl (by 17 refl refl (by 19 refl refl nil)))))
all-numbers (renew c b vs) = taken (by 14 refl refl (by 15 refl refl (by 16 refl refl (by 18 refl refl (by 19 refl refl nil)))))

number : (S : Sheet) (l : Ledger) (e : Event) → InRange e → EventNumber (limited_refusal S l e)
number S l e h = all_of (all-numbers e) (limited_in S l e h)

all-answers : (S : Sheet) (l : Ledger) (es : List Event) → All InRange es → All EventNumber (answers S l es)
unfolding answers
all-answers S l [] h = nil
all-answers S l (e ∷ es) (cons h k) = cons (number S l e h) (all-answers S (limited_step S l e) es k)

pub of_events : OfEvents
of_events = record { kinds = limited_in; numbers = number; all = all-answers }
