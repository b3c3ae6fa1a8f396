-- Laws of the definitions: one value of a renewal more.
use Prim.Native.Nat.{ℕ, suc, ◌+◌, ◌-◌, ◌<◌}
use mathlib.Core.Bool.{Bool, true, false, cond, ◌&&◌}
use mathlib.Core.List.{List}
use mathlib.Core.Path.{◌≡◌, refl, sym, ap, ◌∙◌}
use native.Mathlib.Omega.{arith}
use lib.ListN.{length, get_or}
use lib.Dec.{ltb, leb, eqb}
use Rattle.fields.specs.Field.{Num, Is, Not, up_to, comma, spelled, when_read, number_at, number_of, text_at, end_at, packed_of, word_from, word_at}
use Rattle.fields.specs.Field.{Got}
use Rattle.fields.specs.Field.{Value, Bad}
use Rattle.requests.specs.Commitment as commitment
use Rattle.requests.specs.Part.{most_value, value_at, past_of, past_value_at}
use Rattle.events.specs.Events.{most_values, values_from}

-- ---- a value is missing where no comma stands, and nowhere else

abbrev follows : List ℕ → ℕ → Bool
follows s at = ltb at (length s) && eqb (get_or s at 0) comma

-- the number of a refusal
abbrev refusing : Got → ℕ
refusing (Value v e) = 0
refusing (Bad m p) = m

no_value : (s : List ℕ) (at : ℕ) → follows s at ≡ false → past_value_at s at ≡ Bad 2 at
unfolding past_value_at past_of value_at when_read word_at
no_value s at e = rw e refl

ranged : (x : Bool) (v p e : ℕ) → refusing (past_of (when_read commitment.Bad (cond x (Value v e) (Bad 4 p)) commitment.Number)) ≡ 2 → ⊥
unfolding past_of when_read
ranged true v p e h = omega arith
ranged false v p e h = omega arith

a_number : (v : Num) (p e : ℕ) → refusing (past_of (when_read commitment.Bad (up_to most_value p e v) commitment.Number)) ≡ 2 → ⊥
unfolding past_of when_read
a_number (Is v) p e h = ranged (leb v most_value) v p e h
a_number Not p e h = omega arith

either_way : (x : Bool) (v : Num) (p e : ℕ) → refusing (past_of (cond x (commitment.Ill e) (when_read commitment.Bad (up_to most_value p e v) commitment.Number))) ≡ 2 → ⊥
unfolding past_of
either_way true v p e h = omega arith
either_way false v p e h = a_number v p e h

a_value : (s : List ℕ) (at : ℕ) → follows s at ≡ true → refusing (past_value_at s at) ≡ 2 → ⊥
unfolding past_value_at value_at when_read word_at number_at word_from
a_value s at e h = either_way (eqb (packed_of (text_at s (at + 1))) (spelled "x")) (number_of (text_at s (at + 1))) at (end_at s (at + 1)) (rw e at h)

-- ---- one more

module _ (s : List ℕ) (n at : ℕ) where
  pub values_full : n ≡ most_values → Value most_values at ≡ values_from s (most_values - n) n at
  unfolding values_from
  values_full h = rw h

  module _ (room : n < most_values) where
    one_more : most_values - n ≡ suc (most_values - (n + 1))
    one_more = omega arith

    -- what was read is a value, or a refusal that is not 2: so a field follows
    there : (refusing (past_value_at s at) ≡ 2 → ⊥) → (x : Bool) → follows s at ≡ x → follows s at ≡ true
    there h true e = e
    there h false e = absurd (h (ap refusing (no_value s at e)))

    pub values_on : (v e : ℕ) → Value v e ≡ past_value_at s at → values_from s (most_values - (n + 1)) (n + 1) e ≡ values_from s (most_values - n) n at
    unfolding values_from when_read
    values_on v e h = rw (one_more, there (λ k. let z = ap refusing h ∙ k in omega arith) (follows s at) refl, ← h)

    pub values_bad : (m p : ℕ) → Bad m p ≡ past_value_at s at → (m ≡ 2 → ⊥) → Bad m p ≡ values_from s (most_values - n) n at
    unfolding values_from when_read
    values_bad m p h k = rw (one_more, there (λ z. k (ap refusing h ∙ z)) (follows s at) refl, ← h)

    gone : refusing (past_value_at s at) ≡ 2 → (x : Bool) → follows s at ≡ x → follows s at ≡ false
    gone h true e = absurd (a_value s at e h)
    gone h false e = e

    pub values_end : (m p : ℕ) → Bad m p ≡ past_value_at s at → m ≡ 2 → Value n at ≡ values_from s (most_values - n) n at
    unfolding values_from
    values_end m p h k = rw (one_more, gone (sym (ap refusing h) ∙ k) (follows s at) refl)
