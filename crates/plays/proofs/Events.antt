-- One event line more. Assumes nothing.
use mathlib.Core.Path.{◌≡◌, refl, sym, ap, ◌∙◌}
use Prim.Native.Nat.{ℕ, zero, suc, ◌+◌, ◌-◌, ◌≤◌, ◌<◌}
use native.Mathlib.Omega.{arith}
use mathlib.Core.Bool.{cond}
use mathlib.Core.List.{List, [], ◌∷◌}
use lib.ListN.{length}
use lib.Dec.{ltb}
use borrow.Author.Tests.{lt-ltb, le-ltb}
use Rattle.fields.specs.Field.{when_read}
use Rattle.fields.specs.Field.{Got}
use Rattle.fields.specs.Field.{Value, Bad}
use Rattle.fields.proofs.Words.{Bytes}
use Rattle.events.specs.Events.{event_at, next_of, events_at}
use Rattle.events.specs.Event.{Event}
use Rattle.events.specs.Event as line
use Rattle.events.specs.Lines as lines
use Rattle.events.proofs.Sound.{event_ahead, event_long, events-on, events-bad}
use Rattle.plays.specs.Events.{event_of, events_up_to, events_of}

-- where nothing is left to read, there is no event; and any count of lines that the bytes left don't pass is enough
up-over : (s : List ℕ) (people n at : ℕ) → length s ≤ at → events_up_to s people n at ≡ []
unfolding events_up_to
up-over s people zero at h = refl
up-over s people (suc n) at h = rw (le-ltb _ _ h)

up-enough : (s : List ℕ) (people m n at : ℕ) → length s ≤ at + m → length s ≤ at + n → events_up_to s people m at ≡ events_up_to s people n at
unfolding events_up_to when_read
up-enough s people zero n at h k = sym (up-over s people n at (omega arith))
up-enough s people (suc m) zero at h k = up-over s people (suc m) at (omega arith)
up-enough s people (suc m) (suc n) at h k = go (next_of (event_at s people at)) refl (λ e l. up-enough s people m n e (omega arith) (omega arith))
  where
    go : (g : Got) → next_of (event_at s people at) ≡ g → ((e : ℕ) → at < e → events_up_to s people m e ≡ events_up_to s people n e)
        → cond (ltb at (length s)) (when_read (λ m p. []) g λ v e. event_of s (event_at s people at) ∷ events_up_to s people m e) [] ≡ cond (ltb at (length s)) (when_read (λ m p. []) g λ v e. event_of s (event_at s people at) ∷ events_up_to s people n e) []
    go (Value v e) i f = rw (f e (event_ahead s people at v e i).0)
    go (Bad o p) i f = refl

pub events-none : (s : List ℕ) (people at : ℕ) → length s ≤ at → events_of s people at ≡ []
unfolding events_of
events-none s people at h = up-over s people (length s - at) at h

-- An event line x that starts at `at`, of lines that can all be read
module _ (s : List ℕ) (people at : ℕ) (more : at < length s) (good : events_at s people at ≡ lines.Good) (x : Event) (read : x ≡ event_at s people at) where
  pub next-read : (n p : ℕ) → next_of x ≡ Bad n p → ⊥
  next-read n p h =
      let g : Bad n p ≡ next_of (event_at s people at) = sym (sym (ap next_of read) ∙ h) in
      let b = events-bad s people at (Bad n p) more g n p refl in
      let z : ◌≡◌ {A = ℕ} 0 1 = cc in omega arith

  pub event_read : (n p : ℕ) → x ≡ line.Bad n p → ⊥
  unfolding next_of
  event_read n p h = next-read n p (ap next_of h)

  module _ (v e : ℕ) (next : next_of x ≡ Value v e) where
    pub events-more : events_of s people at ≡ event_of s x ∷ events_of s people e
    unfolding events_of events_up_to when_read
    events-more =
        let g : next_of (event_at s people at) ≡ Value v e = rw (← read) next in
        let l = event_ahead s people at v e g in
        let j : length s - at ≡ suc (length s - at - 1) = omega arith in
        rw (j, lt-ltb _ _ more, g, ← read) (ap (λ es. event_of s x ∷ es) (up-enough s people (length s - at - 1) (length s - e) e (omega arith) (omega arith)))

    pub events_good : events_at s people e ≡ lines.Good
    events_good = events-on s people at (next_of x) more (ap next_of read) v e next ∙ good

    pub line-within : (at < e) × (e ≤ length s)
    line-within = event_ahead s people at v e (sym (ap next_of read) ∙ next)

    pub line-long : Bytes s → at + 7 ≤ e
    line-long b = event_long s people at v e b (sym (ap next_of read) ∙ next)
