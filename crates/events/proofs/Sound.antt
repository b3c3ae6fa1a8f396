-- What is known of an event that was read: its fields' ranges, and that its line ends ahead, within the request, and has 7 bytes or
-- more. So no line is read twice, and as many lines as bytes are all.
use Prim.Native.Nat.{ℕ, zero, suc, ◌+◌, ◌-◌, ◌^◌, ◌<◌, ◌≤◌}
use mathlib.Core.Bool.{cond, ◌&&◌}
use mathlib.Core.List.{List}
use mathlib.Core.Path.{◌≡◌, refl, sym, ◌∙◌}
use native.Mathlib.Omega.{arith}
use lib.Dec.{ltb, eqb}
use lib.ListN.{length, get_or}
use borrow.Author.Tests.{lt-ltb, le-ltb, eqb-true}
use Rattle.events.specs.Events.{most_wait, most_field, most_values, pair_at, after_pair, last_pair_at, wait_at, sign_at, tell_at, fire_at, values_from, values_at, renew_at, event_at, next_of, events_from, events_at}
use Rattle.events.specs.Event.{Event}
use Rattle.events.specs.Event.{event as event_of}
use Rattle.events.specs.declared.Event.{Event as Code}
use Rattle.events.specs.declared.Event.TheVariants as code
use Rattle.events.specs.Pair.{Pair}
use Rattle.fields.proofs.Laws.{number-max, number-end}
use Rattle.fields.proofs.Words.{Bytes, first-long}
use Rattle.fields.proofs.Ranges.{when_read-cases, cond_cases, never, below_end, between-end, first-end, line-end-next}
use Rattle.fields.specs.Field.{comma, spelled, when_read, number_at, below_at, between_at, first_at, line_end_at}
use Rattle.fields.specs.Field.{Got}
use Rattle.fields.specs.Field.{Value, Bad}
use Rattle.requests.proofs.Laws.{past_end}
use Rattle.requests.specs.Part.{past_value_at, past_values_at}
use Rattle.events.specs.Event as event
use Rattle.events.specs.Pair as pair
use Rattle.events.specs.Lines as lines

unfoldable pub Sound : List ℕ → ℕ → ℕ → Event → Type 0
Sound s people at (event.Wait d e) = (1 ≤ d) × (d ≤ most_wait) × (at < e) × (e ≤ length s)
Sound s people at (event.Sign p c b e) = (p < people) × (c ≤ most_field) × (b ≤ most_field) × (at < e) × (e ≤ length s)
Sound s people at (event.Tell i j e) = (i ≤ most_field) × (j ≤ most_field) × (at < e) × (e ≤ length s)
Sound s people at (event.Fire c b e) = (c ≤ most_field) × (b ≤ most_field) × (at < e) × (e ≤ length s)
Sound s people at (event.Renew c b f n e) = (c ≤ most_field) × (b ≤ most_field) × (n ≤ most_values) × (past_values_at s n f ≡ Value 0 (e - 1)) × (at < e) × (e ≤ length s)
Sound s people at (event.Bad n p) = Unit {0}

-- where the code's reading goes on is where the next line starts
pub next_event : (c : Code) (e : ℕ) → Value 0 e ≡ next_of (event_of c e)
unfolding next_of
next_event (code.Wait d) e = refl
next_event (code.Sign p c b) e = refl
next_event (code.Tell i j) e = refl
next_event (code.Fire c b) e = refl
next_event (code.Renew c b f n) e = refl

-- ---- two fields

pub pair_cases : {A : Type 0} (Q : A → Type 0) (bad : ℕ → ℕ → A) (g : Pair) (go : ℕ → ℕ → ℕ → A)
    → ((n p : ℕ) → Q (bad n p)) → ((a b e : ℕ) → g ≡ pair.Two a b e → Q (go a b e)) → Q (after_pair bad g go)
unfolding after_pair
pair_cases Q bad (pair.Two a b e) go h k = k a b e refl
pair_cases Q bad (pair.Bad n p) go h k = h n p

none : {Q : Type 0} (n p a b e : ℕ) → pair.Bad n p ≡ pair.Two a b e → Q
none n p a b e h = let z : ◌≡◌ {A = ℕ} 0 1 = cc in absurd (omega arith)

abbrev Small : List ℕ → ℕ → ℕ → ℕ → ℕ → Type 0
Small s at a b q = (a ≤ most_field) × (b ≤ most_field) × (at + 4 ≤ q) × (q ≤ length s)

module _ (s : List ℕ) (at : ℕ) where
  pair_end : (a b q : ℕ) → pair_at s at ≡ pair.Two a b q → Small s at a b q
  unfolding pair_at
  pair_end a b q =
      when_read-cases (λ r. r ≡ pair.Two a b q → Small s at a b q) pair.Bad (number_at s at most_field) _ (λ m p h. none m p a b q h) λ x e g.
      when_read-cases (λ r. r ≡ pair.Two a b q → Small s at a b q) pair.Bad (number_at s e most_field) _ (λ m p h. none m p a b q h) λ y f k h.
      let i : x ≡ a = cc in let j : y ≡ b = cc in let l : f ≡ q = cc in
      let first = number-end s at most_field x e g in
      let second = number-end s e most_field y f k in
      (omega (arith, number-max s at most_field x e g), omega (arith, number-max s e most_field y f k), omega arith, omega arith)

  last_pair_end : (a b q : ℕ) → last_pair_at s at ≡ pair.Two a b q → Small s at a b q
  unfolding last_pair_at
  last_pair_end a b q =
      pair_cases (λ r. r ≡ pair.Two a b q → Small s at a b q) pair.Bad (pair_at s at) _ (λ m p h. none m p a b q h) λ x y e g.
      when_read-cases (λ r. r ≡ pair.Two a b q → Small s at a b q) pair.Bad (line_end_at s e) _ (λ m p h. none m p a b q h) λ v f k h.
      let i : x ≡ a = cc in let j : y ≡ b = cc in let l : f ≡ q = cc in
      let both = pair_end x y e g in
      let end = line-end-next s e v f k in
      (omega arith, omega arith, omega arith, omega arith)

-- ---- the values of a renewal

-- so many values are there, and no more than there was room for
abbrev pub Counted : List ℕ → ℕ → ℕ → ℕ → ℕ → ℕ → Type 0
Counted s left n at m q = (n ≤ m) × (m ≤ n + left) × (past_values_at s (m - n) at ≡ Value 0 q) × (at ≤ q)

no_more : (s : List ℕ) (left n at m q : ℕ) → Value n at ≡ Value m q → Counted s left n at m q
unfolding past_values_at
no_more s left n at m q h =
    let i : n ≡ m = cc in
    let j : at ≡ q = cc in
    let k : m - n ≡ 0 = omega arith in
    (omega arith, omega arith, rw (k, j), omega arith)

pub values-sound : (s : List ℕ) (left n at m q : ℕ) → values_from s left n at ≡ Value m q → Counted s left n at m q
unfolding values_from past_values_at when_read
values-sound s zero n at m q = no_more s zero n at m q
values-sound s (suc left) n at m q =
    cond_cases (λ r. r ≡ Value m q → Counted s (suc left) n at m q) (ltb at (length s) && eqb (get_or s at 0) comma) _ (Value n at)
    (λ t. when_read-cases (λ r. r ≡ Value m q → Counted s (suc left) n at m q) Bad (past_value_at s at) _ (λ o p h. never o p m q h) λ v e g h.
    let one = past_end s at v e g in
    let rest = values-sound s left (n + 1) e m q h in
    let k : m - n ≡ suc (m - (n + 1)) = omega arith in
    (omega arith, omega arith, rw (k, g) rest.2, omega arith))
    (λ t. no_more s (suc left) n at m q)

-- ---- the lines

-- after a word, a line has a comma, a digit and the LF, or more
module _ (s : List ℕ) (people at p : ℕ) (from : at ≤ p + 2) where
  bad : (n q : ℕ) → Sound s people at (event.Bad n q)
  unfolding Sound
  bad n q = tt

  wait-sound : Sound s people at (wait_at s p)
  unfolding wait_at Sound
  wait-sound =
      when_read-cases (Sound s people at) event.Bad (between_at s p 1 most_wait) _ bad λ d e g.
      when_read-cases (Sound s people at) event.Bad (line_end_at s e) _ bad λ v f h.
      let field = between-end s p 1 most_wait d e g in
      let end = line-end-next s e v f h in
      (omega arith, omega arith, omega arith, omega arith)

  sign-sound : Sound s people at (sign_at s people p)
  unfolding sign_at Sound
  sign-sound =
      when_read-cases (Sound s people at) event.Bad (below_at s p people) _ bad λ o e g.
      pair_cases (Sound s people at) event.Bad (last_pair_at s e) _ bad λ c b f h.
      let field = below_end s p people o e g in
      let both = last_pair_end s e c b f h in
      (omega arith, omega arith, omega arith, omega arith, omega arith)

  tell-sound : Sound s people at (tell_at s p)
  unfolding tell_at Sound
  tell-sound =
      pair_cases (Sound s people at) event.Bad (last_pair_at s p) _ bad λ c b f h.
      let both = last_pair_end s p c b f h in
      (omega arith, omega arith, omega arith, omega arith)

  fire-sound : Sound s people at (fire_at s p)
  unfolding fire_at Sound
  fire-sound =
      pair_cases (Sound s people at) event.Bad (last_pair_at s p) _ bad λ c b f h.
      let both = last_pair_end s p c b f h in
      (omega arith, omega arith, omega arith, omega arith)

  renew-sound : Sound s people at (renew_at s p)
  unfolding renew_at values_at Sound
  renew-sound =
      pair_cases (Sound s people at) event.Bad (pair_at s p) _ bad λ c b e g.
      when_read-cases (Sound s people at) event.Bad (values_from s most_values 0 e) _ bad λ n f h.
      when_read-cases (Sound s people at) event.Bad (line_end_at s f) _ bad λ v z i.
      let both = pair_end s p c b e g in
      let values = values-sound s most_values 0 e n f h in
      let end = line-end-next s f v z i in
      (omega arith, omega arith, omega arith, let k : z - 1 ≡ f = omega arith in let none_before : n - 0 ≡ n = omega arith in rw k (rw none_before at values.2), omega arith, omega arith)

-- every word of an event has 4 letters or more
event_from : (s : List ℕ) (people at from : ℕ) → ((w e : ℕ) → first_at s at ≡ Value w e → 256 ^ 3 ≤ w → from ≤ e + 2) → Sound s people from (event_at s people at)
unfolding event_at Sound
event_from s people at from long =
    when_read-cases (Sound s people from) event.Bad (first_at s at) _ (λ n q. tt) λ w e g.
    cond_cases (Sound s people from) (eqb w (spelled "wait")) (wait_at s e) _ (λ t. wait-sound s people from e (long w e g (omega (arith, eqb-true w (spelled "wait") t)))) λ t.
    cond_cases (Sound s people from) (eqb w (spelled "sign")) (sign_at s people e) _ (λ t. sign-sound s people from e (long w e g (omega (arith, eqb-true w (spelled "sign") t)))) λ t.
    cond_cases (Sound s people from) (eqb w (spelled "tell")) (tell_at s e) _ (λ t. tell-sound s people from e (long w e g (omega (arith, eqb-true w (spelled "tell") t)))) λ t.
    cond_cases (Sound s people from) (eqb w (spelled "fire")) (fire_at s e) _ (λ t. fire-sound s people from e (long w e g (omega (arith, eqb-true w (spelled "fire") t)))) λ t.
    cond_cases (Sound s people from) (eqb w (spelled "renew")) (renew_at s e) (event.Bad 3 at) (λ t. renew-sound s people from e (long w e g (omega (arith, eqb-true w (spelled "renew") t)))) λ t.
    tt

pub event_sound : (s : List ℕ) (people at : ℕ) → Sound s people at (event_at s people at)
event_sound s people at = event_from s people at at (λ w e g l. omega (arith, first-end s at w e g))

sound-next : (s : List ℕ) (people at v q : ℕ) (x : Event) → Sound s people at x → next_of x ≡ Value v q → (at < q) × (q ≤ length s)
unfolding Sound next_of
sound-next s people at v q (event.Wait d e) k h = let j : e ≡ q = cc in (omega arith, omega arith)
sound-next s people at v q (event.Sign p c b e) k h = let j : e ≡ q = cc in (omega arith, omega arith)
sound-next s people at v q (event.Tell i j e) k h = let l : e ≡ q = cc in (omega arith, omega arith)
sound-next s people at v q (event.Fire c b e) k h = let j : e ≡ q = cc in (omega arith, omega arith)
sound-next s people at v q (event.Renew c b f n e) k h = let j : e ≡ q = cc in (omega arith, omega arith)
sound-next s people at v q (event.Bad n p) k h = never n p v q h

-- a line that was read ends ahead, within the request
pub event_ahead : (s : List ℕ) (people at v q : ℕ) → next_of (event_at s people at) ≡ Value v q → (at < q) × (q ≤ length s)
event_ahead s people at v q h = sound-next s people at v q (event_at s people at) (event_sound s people at) h

-- a line has a word of 4 letters or more, a comma, a digit, and the LF
pub event_long : (s : List ℕ) (people at v q : ℕ) → Bytes s → next_of (event_at s people at) ≡ Value v q → at + 7 ≤ q
event_long s people at v q b h =
    let x = event_from s people at (at + 6) (λ w e g l. omega (arith, first-long s at w e 3 b g l)) in
    omega (arith, (sound-next s people (at + 6) v q (event_at s people at) x h).0)

-- ---- all lines

-- where nothing is left to read, any count of lines is enough; and so is each that the bytes left don't pass
events-over : (s : List ℕ) (people n at : ℕ) → length s ≤ at → events_from s people n at ≡ lines.Good
unfolding events_from
events-over s people zero at h = refl
events-over s people (suc n) at h = rw (le-ltb _ _ h)

events-enough : (s : List ℕ) (people m n at : ℕ) → length s ≤ at + m → length s ≤ at + n → events_from s people m at ≡ events_from s people n at
unfolding events_from when_read
events-enough s people zero n at h k = sym (events-over s people n at (omega arith))
events-enough s people (suc m) zero at h k = events-over s people (suc m) at (omega arith)
events-enough s people (suc m) (suc n) at h k = go (next_of (event_at s people at)) refl (λ e l. events-enough s people m n e (omega arith) (omega arith))
  where
    go : (g : Got) → next_of (event_at s people at) ≡ g → ((e : ℕ) → at < e → events_from s people m e ≡ events_from s people n e)
        → cond (ltb at (length s)) (when_read lines.Bad g λ v e. events_from s people m e) lines.Good ≡ cond (ltb at (length s)) (when_read lines.Bad g λ v e. events_from s people n e) lines.Good
    go (Value v e) i f = rw (f e (event_ahead s people at v e i).0)
    go (Bad o p) i f = refl

module _ (s : List ℕ) (people at : ℕ) where
  pub events-end : length s ≤ at → lines.Good ≡ events_at s people at
  unfolding events_at
  events-end h = sym (events-over s people (length s - at) at h)

  module _ (g : Got) (more : at < length s) (read : g ≡ next_of (event_at s people at)) where
    pub events-on : (v e : ℕ) → g ≡ Value v e → events_at s people e ≡ events_at s people at
    unfolding events_at events_from when_read
    events-on v e h =
        let l = event_ahead s people at v e (sym read ∙ h) in
        let j : length s - at ≡ suc (length s - at - 1) = omega arith in
        rw (j, lt-ltb _ _ more, ← read, h) (events-enough s people (length s - e) (length s - at - 1) e (omega arith) (omega arith))

    pub events-bad : (m p : ℕ) → g ≡ Bad m p → lines.Bad m p ≡ events_at s people at
    unfolding events_at events_from when_read
    events-bad m p h =
        let j : length s - at ≡ suc (length s - at - 1) = omega arith in
        rw (j, lt-ltb _ _ more, ← read, h)
