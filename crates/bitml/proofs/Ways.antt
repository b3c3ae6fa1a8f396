-- Ways: lists of p's own events that the ledger takes, put together. Assumes nothing.
use mathlib.Core.Path.{◌≡◌, refl, sym, ap, subst}
use Prim.Native.Nat.{ℕ, ◌+◌, ◌≤◌}
use native.Mathlib.Omega.{arith}
use mathlib.Core.Bool.{true}
use mathlib.Core.List.{List, [], ◌∷◌, ◌++◌}
use Rattle.bitml.specs.Sheet.{Sheet}
use Rattle.bitml.specs.Ledger.{Ledger, Event, refusal, after, step, play, when_taken}
use Rattle.bitml.specs.Liquidity.{OwnPlay, Way, firing, own_event}
use Rattle.bitml.proofs.Lists.{sum-append}

pub step-taken : (s : Sheet) (l : Ledger) (e : Event) → refusal s l e ≡ 0 → step s l e ≡ after s l e
unfolding step
step-taken s l e z = ap (λ r. when_taken r l (after s l e)) z

run-append : (s : Sheet) (l : Ledger) (xs ys : List Event) → play s l (xs ++ ys) ≡ play s (play s l xs) ys
unfolding play
run-append s l [] ys = refl
run-append s l (e ∷ xs) ys = run-append s (step s l e) xs ys

plays-append : (s : Sheet) (p : ℕ) (l : Ledger) (xs ys : List Event) → OwnPlay s p l xs → OwnPlay s p (play s l xs) ys → OwnPlay s p l (xs ++ ys)
unfolding play
plays-append s p l [] ys a b = b
plays-append s p l (e ∷ xs) ys a b = (a.0, a.1, plays-append s p (step s l e) xs ys a.2 b)

module _ {s : Sheet} {p : ℕ} where
  pub stay : {l : Ledger} {Q : Ledger → Type 0} → Q l → Way s p l Q 0
  unfolding play
  stay q = record { events = []; plays = tt; ends = q; count = omega arith }

  -- one event
  pub act : {l : Ledger} {Q : Ledger → Type 0} (e : Event) → own_event s p l e ≡ true → refusal s l e ≡ 0 → Q (after s l e) → Way s p l Q (firing e)
  unfolding play
  act {l} {Q} e o z q = record { events = e ∷ []; plays = (o, z, tt); ends = subst Q (sym (step-taken s l e z)) q; count = omega arith }

  -- one way after another
  pub also : {l : Ledger} {Q Q' : Ledger → Type 0} {m m' : ℕ} → Way s p l Q m → ((l' : Ledger) → Q l' → Way s p l' Q' m') → Way s p l Q' (m + m')
  also {l} {Q} {Q'} w f =
      let v = f (play s l w.events) w.ends in
      record {
        events = w.events ++ v.events;
        plays = plays-append s p l w.events v.events w.plays v.plays;
        ends = subst Q' (sym (run-append s l w.events v.events)) v.ends;
        count = omega (arith, sum-append firing w.events v.events, w.count, v.count);
      }

  pub within : {l : Ledger} {Q : Ledger → Type 0} {m m' : ℕ} → m ≤ m' → Way s p l Q m → Way s p l Q m'
  within h w = record { events = w.events; plays = w.plays; ends = w.ends; count = omega (arith, w.count) }
