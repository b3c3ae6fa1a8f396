-- The numbers of refusals while a request is read: a law for each field, and one for each way that steps are put together. Assumes nothing.
use Prim.Native.Nat.{ℕ, zero, suc, ◌+◌}
use mathlib.Core.Path.{◌≡◌, refl}
use mathlib.Core.Bool.{Bool, true, false, cond, ◌&&◌}
use mathlib.Core.List.{List}
use lib.Dec.{ltb, leb, eqb}
use lib.ListN.{length, get_or}
use borrow.Author.Tests.{leb-true}
use Rattle.fields.specs.Field.{Got}
use Rattle.fields.specs.Field.{Value, Bad}
use Rattle.fields.specs.Field.{comma, lf, after_comma, up_to, number_of, text_at, end_at, number_at, word_from, word_at, first_at, line_end_at, when_read, any_number, below_at, between_at, Num, Is, Not}
use Rattle.fields.proofs.Ranges.{cond_cases}
use Rattle.tables.specs.State.{State}
use Rattle.steps.specs.Steps.{Outcome, next, bad, to_place, go_on, either, and_then, twice, times}
use Rattle.promises.specs.Refusals.{ReadNumber}

pub due : (n : ℕ) → leb 2 n ≡ true → leb n 9 ≡ true → ReadNumber n
unfolding ReadNumber
due n h k = (leb-true 2 n h, leb-true n 9 k)

-- ---- a field

-- it was read, or refused by one of the numbers
pub data FieldTold : Got → Type 0 where
  read : {v e : ℕ} → FieldTold (Value v e)
  unread : {n p : ℕ} → ReadNumber n → FieldTold (Bad n p)

pub field-bad : (n p : ℕ) → ReadNumber n → FieldTold (Bad n p)
field-bad n p h = unread h

-- what holds of a refusal by such a number, and of what follows a field, holds of both
pub read_told : {A : Type 0} (Q : A → Type 0) (told : ℕ → ℕ → A) → ((n p : ℕ) → ReadNumber n → Q (told n p))
    → {g : Got} → FieldTold g → (go : ℕ → ℕ → A) → ((v e : ℕ) → Q (go v e)) → Q (when_read told g go)
unfolding when_read
read_told Q told b (read {v} {e}) go k = k v e
read_told Q told b (unread {n} {p} h) go k = b n p h

pub cond-told : {A : Type 0} (Q : A → Type 0) (b : Bool) (x y : A) → Q x → Q y → Q (cond b x y)
cond-told Q b x y h k = cond_cases Q b x y (λ _. h) (λ _. k)

module _ (s : List ℕ) (at : ℕ) where
  comma-told : (g : Got) → FieldTold g → FieldTold (after_comma s at g)
  comma-told g h = cond-told FieldTold (ltb at (length s) && eqb (get_or s at 0) comma) g (Bad 2 at) h (unread (due 2 refl refl))

  up-told : (max e : ℕ) (x : Num) → FieldTold (up_to max at e x)
  up-told max e (Is v) = cond-told FieldTold (leb v max) (Value v e) (Bad 4 at) read (unread (due 4 refl refl))
  up-told max e Not = unread (due 3 refl refl)

  pub number-told : (max : ℕ) → FieldTold (number_at s at max)
  unfolding number_at
  number-told max = comma-told _ (up-told max (end_at s (at + 1)) (number_of (text_at s (at + 1))))

  pub word-told : FieldTold (word_at s at)
  unfolding word_at word_from
  word-told = comma-told (word_from s (at + 1)) read

  pub first-told : FieldTold (first_at s at)
  unfolding first_at word_from
  first-told = cond-told FieldTold (ltb at (length s)) (word_from s at) (Bad 2 at) read (unread (due 2 refl refl))

  pub line-end-told : FieldTold (line_end_at s at)
  unfolding line_end_at
  line-end-told =
      cond-told FieldTold (ltb at (length s)) _ (Bad 2 at)
      (cond-told FieldTold (eqb (get_or s at 0) lf) (Value 0 (at + 1)) (Bad 9 at) read (unread (due 9 refl refl)))
      (unread (due 2 refl refl))

  pub below-told : (n : ℕ) → FieldTold (below_at s at n)
  unfolding below_at
  below-told n =
      read_told FieldTold Bad field-bad (number-told any_number) _ λ v e.
      cond-told FieldTold (ltb v n) (Value v e) (Bad 6 at) read (unread (due 6 refl refl))

  pub between-told : (low high : ℕ) → FieldTold (between_at s at low high)
  unfolding between_at
  between-told low high =
      read_told FieldTold Bad field-bad (number-told high) _ λ v e.
      cond-told FieldTold (ltb v low) (Bad 4 at) (Value v e) (unread (due 4 refl refl)) read

-- ---- steps

-- it went on, or was refused by one of the numbers
pub data StepTold : Outcome → Type 0 where
  goes : {a : State} → StepTold (next a)
  stops : {n p : ℕ} → ReadNumber n → StepTold (bad n p)

-- from any state
abbrev pub Tells : (State → Outcome) → Type 0
Tells f = (a : State) → StepTold (f a)

pub go_told : (a : State) (k : ℕ → State → Outcome) {g : Got} → FieldTold g → ((v : ℕ) → Tells (k v)) → StepTold (go_on a g k)
unfolding go_on
go_told a k (read {v} {e}) f = f v (to_place a e)
go_told a k (unread h) f = stops h

pub either-told : (b : Bool) (x y : Outcome) → StepTold x → StepTold y → StepTold (either b x y)
unfolding either
either-told true x y h k = h
either-told false x y h k = k

pub then_told : (k : State → Outcome) {w : Outcome} → StepTold w → Tells k → StepTold (and_then w k)
unfolding and_then
then_told k (goes {a}) f = f a
then_told k (stops h) f = stops h

pub twice-told : (f : State → Outcome) → Tells f → Tells (twice f)
twice-told f h a = then_told f (h a) h

pub times-told : (n : ℕ) (f : State → Outcome) → Tells f → Tells (times n f)
unfolding times
times-told zero f h a = goes
times-told (suc n) f h a = then_told (times n f) (h a) (times-told n f h)
