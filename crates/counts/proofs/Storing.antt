-- Storing the values of a set. Assumes nothing.
use Prim.Native.Nat.{ℕ, zero, suc, ◌+◌, ◌*◌, ◌-◌, ◌≤◌, ◌<◌}
use mathlib.Core.Bool.{cond}
use mir.Val.{bool_byte}
use mathlib.Core.Path.{◌≡◌, refl, sym, ap, ◌∙◌, subst}
use mathlib.Core.List.{List, [], ◌∷◌, map}
use mathlib.Core.Logic.{⊎_elim}
use native.Mathlib.Omega.{arith}
use lib.ListN.{get_or, set, length, length-set, get_or-map}
use lib.Seq.{get_or-set_same, get_or-set_other, ext_get_or}
use borrow.Author.Tests.{ne_eqb}
use Rattle.bitml.specs.Ledger.{Commitment, ill, commit}
use Rattle.bitml.proofs.Lists.{at_set}
use Rattle.tables.specs.Entries.{first_of}
use Rattle.tables.proofs.Runs.{first_of-length, first_of_get_d}
use Rattle.duties.specs.Duties.{committed, state_of, handed}
use Rattle.std.specs.Prelude.{Option, None, Some, is_some, unwrap_or}
use Rattle.pages.specs.Pages.{Pages, size, pages_in, put, with_secret, nodes, balances, set_numbers, lives, definitions, secret_counts, states, values, payments, signatures}
use Rattle.pages.proofs.Laws.{page_long}
use Rattle.counts.specs.declared.Counts.{Counts}
use Rattle.counts.specs.Book.{book}
use Rattle.counts.specs.View.{commitment_of}
use Rattle.counts.specs.Steps.{with_secrets, Stored, Stores}
use Rattle.counts.proofs.Looking.{same?}

-- the commitments that are stored are the values handed over
get_d_commit : (vs : List ℕ) (j : ℕ) → get_or (map commit (committed vs)) j ill ≡ commitment_of (state_of (get_or vs j 0)) (get_or vs j 0 - 1)
unfolding state_of commitment_of
get_d_commit [] j = refl
get_d_commit (zero ∷ vs) zero = refl
get_d_commit (suc v ∷ vs) zero = ap (λ x. commitment_of 1 x) (let z : v ≡ suc v - 1 = omega arith in z)
get_d_commit (v ∷ vs) (suc j) = get_d_commit vs j

length-commit : (vs : List ℕ) → length (map commit (committed vs)) ≡ length vs
length-commit [] = refl
length-commit (v ∷ vs) = ap suc (length-commit vs)

pub commitments_are : (vs : List ℕ) → map commit (committed vs) ≡ first_of (λ j. commitment_of (state_of (get_or vs j 0)) (get_or vs j 0 - 1)) (length vs)
commitments_are vs =
    let f : ℕ → Commitment = λ j. commitment_of (state_of (get_or vs j 0)) (get_or vs j 0 - 1) in
    ext_get_or ill (map commit (committed vs)) (first_of f (length vs)) (length-commit vs ∙ sym (first_of-length f (length vs)))
    (λ j h. get_d_commit vs j ∙ sym (first_of_get_d f (length vs) j ill (subst (λ n. j < n) (length-commit vs) h)))

stored-none : (state value : List ℕ) (i : ℕ) (vs : List ℕ) → length state ≡ 256 → length value ≡ 256 → Stored state value i vs 0 state value
stored-none state value i vs hs hv = record { states = hs; values = hv; here = λ j h. absurd (omega arith); other = λ k h. (refl, refl); small = λ f. f; blank = λ f. f; three_states = λ f. f }

module _ {state value : List ℕ} (i : ℕ) (vs : List ℕ) (n : ℕ) (state' value' : List ℕ) (s : Stored state value i vs n state' value') (hi : i < 32) (hn : n < 8) (hv : get_or vs n 0 ≤ 1000000001) where
  abbrev st : List ℕ
  st = set state' (i * 8 + n) (state_of (get_or vs n 0))

  abbrev va : List ℕ
  va = set value' (i * 8 + n) (get_or vs n 0 - 1)

  same-state : (k : ℕ) → (k ≡ i * 8 + n → ⊥) → get_or st k 0 ≡ get_or state' k 0
  same-state k h = get_or-set_other state' (i * 8 + n) k (state_of (get_or vs n 0)) 0 h

  same-value : (k : ℕ) → (k ≡ i * 8 + n → ⊥) → get_or va k 0 ≡ get_or value' k 0
  same-value k h = get_or-set_other value' (i * 8 + n) k (get_or vs n 0 - 1) 0 h

  new_state : get_or st (i * 8 + n) 0 ≡ state_of (get_or vs n 0)
  new_state = get_or-set_same state' (i * 8 + n) (state_of (get_or vs n 0)) 0 (omega (arith, s.states))

  new_value : get_or va (i * 8 + n) 0 ≡ get_or vs n 0 - 1
  new_value = get_or-set_same value' (i * 8 + n) (get_or vs n 0 - 1) 0 (omega (arith, s.values))

  blank-zero : (v : ℕ) → state_of v ≡ 0 → v - 1 ≡ 0
  unfolding state_of
  blank-zero zero e = omega arith
  blank-zero (suc v) e = absurd (omega arith)

  few-states : (v : ℕ) → state_of v ≤ 2
  unfolding state_of
  few-states zero = omega arith
  few-states (suc v) = omega arith

  stored_on : Stored state value i vs (n + 1) (set state' (i * 8 + n) (state_of (get_or vs n 0))) (set value' (i * 8 + n) (get_or vs n 0 - 1))
  stored_on = record {
    states = simp length-set s.states;
    values = simp length-set s.values;
    here = λ j h. ⊎_elim
        (λ (e : j ≡ n). subst (λ j. (get_or st (i * 8 + j) 0 ≡ state_of (get_or vs j 0)) × (get_or va (i * 8 + j) 0 ≡ get_or vs j 0 - 1)) (sym e) (new_state, new_value))
        (λ (ne : j ≡ n → ⊥). let d : i * 8 + j ≡ i * 8 + n → ⊥ = λ e. ne (omega arith) in let p = s.here j (omega arith) in (same-state (i * 8 + j) d ∙ p.0, same-value (i * 8 + j) d ∙ p.1))
        (same? j n);
    other = λ k h. let d : k ≡ i * 8 + n → ⊥ = h n (omega arith) in let p = s.other k (λ j q. h j (omega arith)) in (same-state k d ∙ p.0, same-value k d ∙ p.1);
    small = λ f k. at_set (λ y. y ≤ 1000000000) value' (i * 8 + n) k (get_or vs n 0 - 1) 0 (s.small f k) (λ e. omega arith);
    blank = λ f k h. ⊎_elim
        (λ (e : k ≡ i * 8 + n). ap (λ k. get_or va k 0) e ∙ new_value ∙ blank-zero (get_or vs n 0) (sym new_state ∙ sym (ap (λ k. get_or st k 0) e) ∙ h))
        (λ (ne : k ≡ i * 8 + n → ⊥). same-value k ne ∙ s.blank f k (sym (same-state k ne) ∙ h))
        (same? k (i * 8 + n));
    three_states = λ f k. at_set (λ y. y ≤ 2) state' (i * 8 + n) k (state_of (get_or vs n 0)) 0 (s.three_states f k) (λ e. few-states (get_or vs n 0));
  }

-- a value as the code has it: its state and its number
state-at : (v : Option ℕ) → bool_byte (is_some v) ≡ state_of (handed v)
unfolding state_of
state-at None = refl
state-at (Some v) = refl

number-at : (v : Option ℕ) → unwrap_or v 0 ≡ handed v - 1
number-at None = refl
number-at (Some v) = let z : v ≡ suc v - 1 = omega arith in z

pub state_is : (vs : List (Option ℕ)) (j : ℕ) → bool_byte (is_some (get_or vs j None)) ≡ state_of (get_or (map handed vs) j 0)
state_is vs j = state-at (get_or vs j None) ∙ ap state_of (sym (get_or-map handed vs j None))

pub number_is : (vs : List (Option ℕ)) (j : ℕ) → unwrap_or (get_or vs j None) 0 ≡ get_or (map handed vs) j 0 - 1
number_is vs j = number-at (get_or vs j None) ∙ ap (λ v. v - 1) (sym (get_or-map handed vs j None))

-- ---- the same of pages

pub stores_none : (C : List ℕ) (i : ℕ) (vs : List ℕ) → Stores (pages_in C) i vs 0 (pages_in C)
unfolding size
stores_none C i vs = record { secrets = stored-none (pages_in C states) (pages_in C values) i vs (page_long C states) (page_long C values); others = λ s a b. refl }

module _ {P : Pages} (i : ℕ) (vs : List ℕ) (n : ℕ) (Q : Pages) (s : Stores P i vs n Q) (hi : i < 32) (hn : n < 8) (hv : get_or vs n 0 ≤ 1000000001) where
  put_off : (a k v s' : ℕ) (R : Pages) → (s' ≡ a → ⊥) → put a k v R s' ≡ R s'
  put_off a k v s' R h = ap (λ x. cond x (set (R s') k v) (R s')) (ne_eqb a s' (λ e. h (sym e)))

  pub stores_on : {x y : ℕ} → x ≡ state_of (get_or vs n 0) → y ≡ get_or vs n 0 - 1 → Stores P i vs (n + 1) (with_secret (i * 8 + n) x y Q)
  stores_on {x} {y} ex ey =
      subst (λ x. Stores P i vs (n + 1) (with_secret (i * 8 + n) x y Q)) (sym ex)
      (subst (λ y. Stores P i vs (n + 1) (with_secret (i * 8 + n) (state_of (get_or vs n 0)) y Q)) (sym ey)
      (record {
        secrets = stored_on i vs n (Q states) (Q values) s.secrets hi hn hv;
        others = λ s' a b. put_off values (i * 8 + n) _ s' (put states (i * 8 + n) _ Q) b ∙ put_off states (i * 8 + n) _ s' Q a ∙ s.others s' a b;
      }))

pub stores_same : {P Q : Pages} {i : ℕ} {vs : List ℕ} {m n : ℕ} → m ≡ n → Stores P i vs m Q → Stores P i vs n Q
stores_same {P} {Q} {i} {vs} e s = subst (λ n. Stores P i vs n Q) e s

-- the ledger with such pages has but other secrets
pub stored-book : (l : Counts) {P : Pages} {i : ℕ} {vs : List ℕ} {n : ℕ} {Q : Pages} → Stores P i vs n Q → book l Q ≡ with_secrets (book l P) (Q states) (Q values)
stored-book l {P} {Q = Q} s = λ k.
    record {
      answer = l.answer;
      time = l.time;
      made = l.made;
      sets = l.sets;
      taken = l.taken;
      node = s.others nodes (λ e. omega arith) (λ e. omega arith) k;
      balance = s.others balances (λ e. omega arith) (λ e. omega arith) k;
      set = s.others set_numbers (λ e. omega arith) (λ e. omega arith) k;
      alive = s.others lives (λ e. omega arith) (λ e. omega arith) k;
      signed = s.others signatures (λ e. omega arith) (λ e. omega arith) k;
      definition = s.others definitions (λ e. omega arith) (λ e. omega arith) k;
      count = s.others secret_counts (λ e. omega arith) (λ e. omega arith) k;
      value = Q values;
      state = Q states;
      paid = s.others payments (λ e. omega arith) (λ e. omega arith) k;
    }
