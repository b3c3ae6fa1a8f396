-- What P committed stays a number through every play. Assumes nothing.
use mathlib.Core.Path.{◌≡◌, refl, sym, ap, subst}
use mathlib.Core.Logic.{by_cases}
use Prim.Native.Nat.{ℕ, zero, suc, ◌<◌}
use native.Mathlib.Omega.{arith}
use native.Mathlib.Decide.{dec_lt}
use mathlib.Core.Bool.{Bool, true, false}
use mathlib.Core.Option.{Option, none}
use mathlib.Core.Option.{some as the}
use mathlib.Core.List.{List, [], ◌∷◌, ◌++◌, map}
use lib.ListN.{length, get_or, length-append, length-set, get_or-append}
use lib.Seq.{get_or_at, get_or-set_same}
use Rattle.bitml.specs.Sheet.{Sheet, owns}
use Rattle.bitml.specs.Ledger.{Ledger, CommitmentSet, Commitment, ill, kept, told, is_kept, is_told, telling, commit, Event, wait, sign, tell, fire, renew, no_set, set_at, commitment_at, the_branch, renewed_as, when_taken, refusal, after, step, play, stipulated}
use Rattle.bitml.specs.Liquidity.{is_number, Numbers, NumbersAt, NumbersAlong}
use Rattle.bitml.proofs.Lists.{at_set, in_range}

abbrev pub well_formed : Commitment → Bool
well_formed ill = false
well_formed (kept v) = true
well_formed (told v) = true

-- The commitments of p that a ledger holds are numbers
abbrev pub NumbersHeld : Sheet → ℕ → Ledger → Type 0
NumbersHeld s p l = (i j : ℕ) → i < length l.sets → owns s p (set_at l i).definition j ≡ true → well_formed (commitment_at l i j) ≡ true

-- ---- after a tell

-- What telling keeps, the ledger keeps
tell_keeps : (t : Commitment → Bool) → ((c : Commitment) → t c ≡ true → t (telling c) ≡ true) → (s : Sheet) (l : Ledger) (i j i' j' : ℕ)
    → t (commitment_at l i j) ≡ true → t (commitment_at (after s l (tell i' j')) i j) ≡ true
unfolding after
tell_keeps t f s l i j i' j' h =
    at_set (λ st. t (get_or st.secrets j ill) ≡ true) l.sets i' i _ _ h
    (λ e. at_set (λ c. t c ≡ true) (set_at l i').secrets j' j _ _ (subst (λ a. t (commitment_at l a j) ≡ true) e h)
    (λ e'. f (commitment_at l i' j') (subst (λ a. t (commitment_at l i' a) ≡ true) e' (subst (λ a. t (commitment_at l a j) ≡ true) e h))))

told-telling : (c : Commitment) → is_told c ≡ true → is_told (telling c) ≡ true
told-telling ill e = e
told-telling (kept v) e = refl
told-telling (told v) e = refl

number-telling : (c : Commitment) → well_formed c ≡ true → well_formed (telling c) ≡ true
number-telling ill e = e
number-telling (kept v) e = refl
number-telling (told v) e = refl

kept_told : (c : Commitment) → is_kept c ≡ true → is_told (telling c) ≡ true
kept_told ill e = e
kept_told (kept v) e = refl
kept_told (told v) e = refl

pub told_stays : (s : Sheet) (l : Ledger) (i j i' j' : ℕ) → is_told (commitment_at l i j) ≡ true → is_told (commitment_at (after s l (tell i' j')) i j) ≡ true
told_stays = tell_keeps is_told told-telling

pub told-after : (s : Sheet) (l : Ledger) (i j : ℕ) → is_kept (commitment_at l i j) ≡ true → is_told (commitment_at (after s l (tell i j)) i j) ≡ true
unfolding after
told-after s l i j h =
    let hi : i < length l.sets = in_range (λ st. is_kept (get_or st.secrets j ill)) l.sets i _ refl h in
    let hj : j < length (set_at l i).secrets = in_range is_kept (set_at l i).secrets j ill refl h in
    rw (get_or-set_same l.sets i _ no_set hi)
    (rw (get_or-set_same (set_at l i).secrets j (telling (commitment_at l i j)) ill hj) (kept_told (commitment_at l i j) h))

definition-after : (s : Sheet) (l : Ledger) (i i' j' : ℕ) → (set_at (after s l (tell i' j')) i).definition ≡ (set_at l i).definition
unfolding after
definition-after s l i i' j' = at_set (λ st. st.definition ≡ (set_at l i).definition) l.sets i' i _ _ refl (λ e. ap (λ a. (set_at l a).definition) (sym e))

pub held-tell : (s : Sheet) (p : ℕ) (l : Ledger) (i' j' : ℕ) → NumbersHeld s p l → NumbersHeld s p (after s l (tell i' j'))
unfolding after
held-tell s p l i' j' h i j hi ho =
    tell_keeps well_formed number-telling s l i j i' j' (h i j (rw length-set at hi) (rw (definition-after s l i i' j') at ho))

-- ---- through a play

number_kept : (vs : List (Option ℕ)) (j : ℕ) → is_number (get_or vs j none) ≡ true → well_formed (get_or (map commit vs) j ill) ≡ true
number_kept [] j e = e
number_kept (none ∷ vs) zero e = e
number_kept (the v ∷ vs) zero e = refl
number_kept (v ∷ vs) (suc j) e = number_kept vs j e

pub held_start : (s : Sheet) (p : ℕ) (vs : List (Option ℕ)) → Numbers s p 0 vs → NumbersHeld s p (stipulated s vs)
unfolding stipulated
held_start s p vs h zero j hi ho = number_kept vs j (h j ho)
held_start s p vs h (suc i) j hi ho = absurd (omega arith)

held_after : (s : Sheet) (p : ℕ) (l : Ledger) (e : Event) → NumbersAt s p l e → refusal s l e ≡ 0 → NumbersHeld s p l → NumbersHeld s p (after s l e)
unfolding after
held_after s p l (wait d) n z h = h
held_after s p l (sign q c b) n z h = h
held_after s p l (tell i j) n z h = held-tell s p l i j h
held_after s p l (fire c b) n z h = h
held_after s p l (renew c b vs) n z h = λ i j hi ho.
    let new : CommitmentSet = record { definition = renewed_as (the_branch s l c b).action; secrets = map commit vs } in
    by_cases (dec_lt i (length l.sets))
    (λ a. let e : get_or (l.sets ++ (new ∷ [])) i no_set ≡ set_at l i = get_or-append l.sets (new ∷ []) no_set i a in rw e (h i j a (rw e at ho)))
    (λ a. let q : length l.sets ≡ i = omega (arith, length-append l.sets (new ∷ [])) in
    let e : get_or (l.sets ++ (new ∷ [])) i no_set ≡ new = get_or_at l.sets new [] no_set i q in rw e (number_kept vs j (n z j (rw e at ho))))

held-step : (s : Sheet) (p : ℕ) (l : Ledger) (e : Event) → NumbersAt s p l e → NumbersHeld s p l → NumbersHeld s p (step s l e)
unfolding step
held-step s p l e n h = go (refusal s l e) refl
  where
    go : (r : ℕ) → refusal s l e ≡ r → NumbersHeld s p (when_taken r l (after s l e))
    go zero z = held_after s p l e n z h
    go (suc k) z = h

pub held-play : (s : Sheet) (p : ℕ) (l : Ledger) (es : List Event) → NumbersAlong s p l es → NumbersHeld s p l → NumbersHeld s p (play s l es)
unfolding play
held-play s p l [] n h = h
held-play s p l (e ∷ es) n h = held-play s p (step s l e) es n.1 (held-step s p l e n.0 h)
