-- How what the code does at a step gives what the definition says there: one law for each shape of a step. Assumes nothing.
use Prim.Native.Nat.{ℕ, suc, ◌+◌, ◌-◌, ◌≤◌, ◌<◌}
use mathlib.Core.Path.{◌≡◌, refl, ap, sym, ◌∙◌, subst}
use mathlib.Core.List.{List}
use mathlib.Core.Bool.{Bool, true, false}
use Rattle.std.specs.Prelude.{Result, Ok, Err, IsErrAnd}
use Rattle.refusals.specs.Numbers.{number}
use Rattle.fields.specs.declared.Refused.{Refused}
use native.Mathlib.Omega.{arith}
use lib.ListN.{length}
use Rattle.fields.specs.Field.{number_at, word_at, first_at, line_end_at}
use Rattle.fields.proofs.Laws.{number-max, number-end, word_end, word_on}
use Rattle.fields.proofs.Ranges.{first-end, line-end-next}
use Rattle.fields.specs.Field.{Got}
use Rattle.fields.specs.Field as got
use Rattle.tables.specs.declared.St.{St}
use Rattle.tables.specs.State.{State, state_of}
use Rattle.steps.specs.Steps.{Read}
use Rattle.steps.specs.Steps.{Value, Bad}
use Rattle.steps.specs.Steps.{Outcome, next, bad, told, told_state, moved, outcome, OnSt, Met, at_place, go_on, and_then, either, times}

-- ---- what the exit of a `?` answers

pub told-err : (e : Refused) (r : Result (ℕ × St) Refused) → IsErrAnd r (λ y. y ≡ e) → told r ≡ Bad (number e.refusal) e.at
told-err e (Ok x) h = absurd h
told-err e (Err y) h = rw h

pub told_state-err : (e : Refused) (r : Result St Refused) → IsErrAnd r (λ y. y ≡ e) → told_state r ≡ Bad (number e.refusal) e.at
told_state-err e (Ok x) h = absurd h
told_state-err e (Err y) h = rw h

-- ---- a field that was read

-- n bytes or more were read, within the request, and the counts are as before
pub record Took (s : List ℕ) (n : ℕ) (st e : St) : Type 0 where
  pub nodes : e.nodes ≡ st.nodes
  pub branches : e.branches ≡ st.branches
  pub defs : e.defs ≡ st.defs
  pub listed : e.listed ≡ st.listed
  pub cells : e.cells ≡ st.cells
  pub further : st.at + n ≤ e.at
  pub inside : e.at ≤ length s

moved_value : (st : St) (g : Got) (v : ℕ) (e : St) → Value v e ≡ moved st g → (g ≡ got.Value v e.at) × (e ≡ at_place st e.at)
unfolding moved
moved_value st (got.Value w q) v e h =
    let he : ◌≡◌ {A = St} (at_place st q) e = cc in
    let hv : w ≡ v = cc in
    (rw (← he, hv), rw (← he))
moved_value st (got.Bad n p) v e h = let z : ◌≡◌ {A = ℕ} 0 1 = cc in absurd (omega arith)

took : (s : List ℕ) (n : ℕ) (st e : St) → e ≡ at_place st e.at → st.at + n ≤ e.at → e.at ≤ length s → Took s n st e
took s n st e h f i =
    record {
      nodes = ap (λ (x : St). x.nodes) h;
      branches = ap (λ (x : St). x.branches) h;
      defs = ap (λ (x : St). x.defs) h;
      listed = ap (λ (x : St). x.listed) h;
      cells = ap (λ (x : St). x.cells) h;
      further = f;
      inside = i;
    }

-- a number that was read is at most its maximum
pub most : (s : List ℕ) (st : St) (max : ℕ) {v : ℕ} {e : St} → Value v e ≡ moved st (number_at s st.at max) → v ≤ max
most s st max {v} {e} h = number-max s st.at max v e.at (moved_value st (number_at s st.at max) v e h).0

module _ {s : List ℕ} {st : St} where
  pub took_number : (max : ℕ) {v : ℕ} {e : St} → Value v e ≡ moved st (number_at s st.at max) → Took s 2 st e
  took_number max {v} {e} h =
      let m = moved_value st (number_at s st.at max) v e h in
      let q = number-end s st.at max v e.at m.0 in
      took s 2 st e m.1 q.0 q.1

  pub took_letters : {w : ℕ} {e : St} → Value w e ≡ moved st (word_at s st.at) → Took s 1 st e
  took_letters {w} {e} h =
      let m = moved_value st (word_at s st.at) w e h in
      let q = word_end s st.at w e.at m.0 in
      took s 1 st e m.1 q.0 q.1

  -- a word that has bytes
  pub took_word : {w : ℕ} {e : St} → Value w e ≡ moved st (word_at s st.at) → (w ≡ 0 → ⊥) → Took s 2 st e
  took_word {w} {e} h n =
      let m = moved_value st (word_at s st.at) w e h in
      took s 2 st e m.1 (word_on s st.at w e.at m.0 n) (word_end s st.at w e.at m.0).1

  -- a line's first field may be empty; its end is the LF
  pub took_first : {w : ℕ} {e : St} → Value w e ≡ moved st (first_at s st.at) → Took s 0 st e
  took_first {w} {e} h =
      let m = moved_value st (first_at s st.at) w e h in
      let q = first-end s st.at w e.at m.0 in
      took s 0 st e m.1 (omega (arith, q.0)) q.1

  pub took_line-end : {v : ℕ} {e : St} → Value v e ≡ moved st (line_end_at s st.at) → Took s 1 st e
  took_line-end {v} {e} h =
      let m = moved_value st (line_end_at s st.at) v e h in
      let q = line-end-next s st.at v e.at m.0 in
      took s 1 st e m.1 (omega (arith, q.0)) q.1

-- ---- the shapes of a step

go_value : (st : St) (g : Got) (v : ℕ) (e : St) (t : List ℕ) (k : ℕ → State → Outcome) → moved st g ≡ Value v e → go_on (state_of st t) g k ≡ k v (state_of e t)
unfolding moved go_on
go_value st (got.Value w q) v e t k h =
    let he : ◌≡◌ {A = St} (at_place st q) e = cc in
    let hv : w ≡ v = cc in
    rw (← he, hv)
go_value st (got.Bad n p) v e t k h = cc

go_bad : (st : St) (g : Got) (n p : ℕ) (t : List ℕ) (k : ℕ → State → Outcome) → moved st g ≡ Bad n p → go_on (state_of st t) g k ≡ bad n p
unfolding moved go_on
go_bad st (got.Value w q) n p t k h = cc
go_bad st (got.Bad m q) n p t k h = cc

module _ {P : St → Type 0} where
  -- a field is read, and the rest follows
  pub passed : (st : St) (g : Got) {v : ℕ} {e : St} (t : List ℕ) (k : ℕ → State → Outcome) {r : Read} {t' : List ℕ} → Value v e ≡ moved st g
      → Met P (k v (state_of e t)) r t' → Met P (go_on (state_of st t) g k) r t'
  passed st g {v} {e} t k h m = record { same = m.same ∙ sym (go_value st g v e t k (sym h)); holds = m.holds }

  -- a field is refused
  pub refused : (st : St) (g : Got) {n p : ℕ} (t : List ℕ) (k : ℕ → State → Outcome) {r : Read} {t' : List ℕ} → Bad n p ≡ moved st g → r ≡ Bad n p
      → Met P (go_on (state_of st t) g k) r t'
  unfolding outcome OnSt
  refused st g {n} {p} t k {t' = t'} h i =
      record { same = ap (λ (x : Read). outcome x t') i ∙ sym (go_bad st g n p t k (sym h)); holds = subst (OnSt P) (sym i) tt }

  -- a test
  pub yes' : {b : Bool} {x : Outcome} (y : Outcome) {r : Read} {t : List ℕ} → b ≡ true → Met P x r t → Met P (either b x y) r t
  unfolding either
  yes' y h m = rw h m

  pub no' : {b : Bool} (x : Outcome) {y : Outcome} {r : Read} {t : List ℕ} → b ≡ false → Met P y r t → Met P (either b x y) r t
  unfolding either
  no' x h m = rw h m

  -- a refusal of the function's own
  pub stop : {n p : ℕ} {t : List ℕ} → Met P (bad n p) (Bad n p) t
  unfolding outcome OnSt
  stop = record { same = refl; holds = tt }

  -- the end, with the state as the table has it
  pub done : {a : State} {v : ℕ} {e : St} {t : List ℕ} → state_of e t ≡ a → P e → Met P (next a) (Value v e) t
  unfolding outcome OnSt
  done h f = record { same = ap next h; holds = f }

  -- the same wish in other words
  pub by : {w w' : Outcome} {r : Read} {t : List ℕ} → w ≡ w' → Met P w r t → Met P w' r t
  by h m = rw h at m

  -- what a call's answer promises of its counts
  pub promised : {w : Outcome} {t : List ℕ} {v : ℕ} {e : St} → Met P w (Value v e) t → P e
  unfolding OnSt
  promised m = m.holds

  -- promises of another kind
  pub also : {Q : St → Type 0} {w : Outcome} {r : Read} {t : List ℕ} → ((e : St) → Q e → P e) → Met Q w r t → Met P w r t
  unfolding OnSt
  also {r = Value v e} f m = record { same = m.same; holds = f e m.holds }
  also {r = Bad n p} f m = record { same = m.same; holds = tt }

  module _ {Q : St → Type 0} where
    -- a call, and the rest follows
    pub called : {w : Outcome} {v : ℕ} {e : St} {t : List ℕ} (k : State → Outcome) {r : Read} {t' : List ℕ} → Met Q w (Value v e) t
        → Met P (k (state_of e t)) r t' → Met P (and_then w k) r t'
    unfolding outcome and_then
    called k h m = record { same = m.same ∙ rw (← h.same); holds = m.holds }

    -- a call that refused
    pub call_refused : {w : Outcome} {n p : ℕ} {t : List ℕ} (k : State → Outcome) {r : Read} {t' : List ℕ} → Met Q w (Bad n p) t → r ≡ Bad n p → Met P (and_then w k) r t'
    unfolding outcome and_then OnSt
    call_refused k h i = record { same = rw (← h.same, i); holds = subst (OnSt P) (sym i) tt }

-- whatever meets w meets w': a loop's invariant
abbrev pub Leads : (St → Type 0) → Outcome → Outcome → Type 0
Leads P w w' = (r : Read) (t : List ℕ) → Met P w r t → Met P w' r t

module _ {P : St → Type 0} where
  times-suc : (n : ℕ) (f : State → Outcome) (a : State) → Leads P (and_then (f a) (times n f)) (times (suc n) f a)
  unfolding times
  times-suc n f a r t m = m

  times-zero : (f : State → Outcome) (a : State) → Leads P (next a) (times 0 f a)
  unfolding times
  times-zero f a r t m = m

  pub times_more : (n i : ℕ) (f : State → Outcome) (a : State) → i < n → Leads P (and_then (f a) (times (n - (i + 1)) f)) (times (n - i) f a)
  times_more n i f a h r t m =
      let e : n - i ≡ suc (n - (i + 1)) = omega arith in
      by (ap (λ j. times j f a) (sym e)) (times-suc (n - (i + 1)) f a r t m)

  pub times_none : (n i : ℕ) (f : State → Outcome) (a : State) → n ≤ i → Leads P (next a) (times (n - i) f a)
  times_none n i f a h r t m =
      let e : n - i ≡ 0 = omega arith in
      by (ap (λ j. times j f a) (sym e)) (times-zero f a r t m)
