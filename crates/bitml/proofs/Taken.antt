-- An event is taken exactly where all that its line asks and the limits hold, and else refused by the lowest number that applies; so in every
-- play. Assumes nothing.
use mathlib.Core.Path.{◌≡◌, refl, sym, ap, ◌∙◌, subst}
use mathlib.Core.Logic.{◌↔◌, ◌⊎◌, inl, inr, ⊎_elim, by_cases}
use Prim.Native.Nat.{ℕ, zero, suc, ◌+◌, ◌≤◌, ◌<◌}
use native.Mathlib.Omega.{arith}
use native.Mathlib.Decide.{dec_lt}
use mathlib.Core.Bool.{Bool, true, false, not, false≢true, true≢false}
use mathlib.Core.Option.{Option}
use mathlib.Core.List.{List, [], ◌∷◌, ◌++◌, map, Memᴰ}
use lib.ListN.{length, get_or, set, length-append, length-set}
use lib.Dec.{leb}
use borrow.Author.Tests.{eqb-true, eqb-false, ltb-true, lt-ltb, leb-true, leb-false, le-leb, not-true, not-false}
use Rattle.bitml.specs.Lists.{◌&◌, ◌⇒◌, ask, sum, every, below}
use Rattle.bitml.specs.Sheet.{Sheet, Cond, Action, withdraw, split, reveal, renew_as, def_at, signs}
use Rattle.bitml.specs.Ledger.{Ledger, Contract, Commitment, ill, kept, told, is_kept, is_told, Event, wait, sign, tell, fire, renew, no_contract, no_set, dead, contract_at, set_at, commitment_at, the_branch, is_renewal, renewed_as, live, all_signed, revealed, values_fit, signing, telling, commit, making, renewing, refusal, after, when_taken, step, play, stipulated}
use Rattle.bitml.specs.Limits.{deposits_taken, within, or_limit, limited_refusal, limited_step, answers, limited_play}
use Rattle.bitml.specs.Answers.{Line, refused_line, taken_line, event_line, event_lines}
use Rattle.bitml.specs.Taken.{LiveBranch, IsSigner, HasSigned, EverySigned, StillKept, WasTold, holds_in, Asks, WithinLimits, ◌when◌, ◌also◌, Unsigned, Unrevealed, untold, fails, Against, Refusing, Lowest, Plays, over, takes, refuses, is_taken, taken_in, AllTaken, EventsTaken}
use Rattle.bitml.proofs.Lists.{and_l, and_r, and_i, and_cases, imp_e, imp_no_l, imp_no_r, every-mem, every-not-mem, all_of, mem_up, up_mem, in_range}
use Rattle.bitml.proofs.Actions.{renewal-is}
use Rattle.bitml.proofs.Balance.{taken-after}

-- ---- tests

-- What a test says where it passes, and where it fails
record Tests (t : Bool) (P N : Type 0) : Type 0 where
  pub passed : t ≡ true → P
  pub failed : t ≡ false → N
  pub apart : P → N → ⊥

opposite : {t : Bool} {P : Type 0} → (t ≡ true → P) → (P → t ≡ true) → Tests t P (P → ⊥)
opposite f g = record { passed = f; failed = λ e h. false≢true (sym e ∙ g h); apart = λ h n. n h }

module _ {t : Bool} {P N : Type 0} where
  flipped : Tests t P N → Tests (not t) N P
  flipped h = record { passed = λ e. h.failed (not-true t e); failed = λ e. h.passed (not-false t e); apart = λ n p. h.apart p n }

  both : {u : Bool} {Q M : Type 0} → Tests t P N → Tests u Q M → Tests (t & u) (P × Q) (N ⊎ M)
  both h k =
      record {
        passed = λ e. (h.passed (and_l _ _ e), k.passed (and_r _ _ e));
        failed = λ e. ⊎_elim (λ f. inl (h.failed f)) (λ f. inr (k.failed f)) (and_cases _ _ e);
        apart = λ w. ⊎_elim (h.apart w.0) (k.apart w.1);
      }

-- ---- numbers

-- The number that a table F of facts gives: 0 where P holds and none of them applies, else the lowest that does
data Judged (P : Type 0) (F : ℕ → Type 0) : ℕ → Type 0 where
  fine : P → ((n : ℕ) → F n → ⊥) → Judged P F 0
  wrong : {n : ℕ} → (0 < n) × (n ≤ 19) → (P → ⊥) → Lowest F n → Judged P F n

module _ {P : Type 0} {F : ℕ → Type 0} where
  said : {P' : Type 0} {r : ℕ} → (P → P') → (P' → P) → Judged P F r → Judged P' F r
  said f g (fine p none) = fine (f p) none
  said f g (wrong h np low) = wrong h (λ p. np (g p)) low

  zero_is : {r : ℕ} → Judged P F r → (r ≡ 0) ↔ P
  zero_is (fine p none) = (λ _. p, λ _. refl)
  zero_is (wrong h np low) = (λ z. absurd (omega arith), λ p. absurd (np p))

  number_is : {r : ℕ} (n : ℕ) → Judged P F r → ((0 < n) × (r ≡ n)) ↔ Lowest F n
  number_is n (fine p none) = (λ z. absurd (omega arith), λ low. absurd (none n low.applies))
  number_is n (wrong {n = m} h np low) = (λ z. subst (Lowest F) z.1 low, λ other. let e = same other in (omega arith, e))
    where
      same : Lowest F n → m ≡ n
      same other = by_cases (dec_lt m n) (λ a. absurd (other.no_lower m a low.applies))
          (λ a. by_cases (dec_lt n m) (λ b. absurd (low.no_lower n b other.applies)) (λ b. omega arith))

  number-most : {r : ℕ} → Judged P F r → r ≤ 19
  number-most (fine p none) = omega arith
  number-most (wrong h np low) = h.1

-- one test
one : {t : Bool} {P N : Type 0} (j : ℕ) → (0 < j) × (j ≤ 19) → Tests t P N → Judged P (j when N) (ask t j 0)
unfolding ◌when◌ ask
one {t} {P} {N} j h g = go t refl
  where
    go : (b : Bool) → t ≡ b → Judged P (j when N) (ask b j 0)
    go true e = let p = g.passed e in fine p λ n w. g.apart p w.1
    go false e = let n = g.failed e in wrong h (λ p. g.apart p n) (record { applies = (refl, n); no_lower = λ m a w. absurd (omega (arith, w.0)) })

-- the number that is told of two
abbrev first_of : ℕ → ℕ → ℕ
first_of zero q = q
first_of (suc r) q = suc r

-- a table behind another, whose number is no higher than its own
behind : {P Q : Type 0} {F G : ℕ → Type 0} {r q : ℕ} → Judged P F r → ((n : ℕ) → F r → G n → r ≤ n) → (P → Judged Q G q)
    → Judged (P × Q) (F also G) (first_of r q)
unfolding ◌also◌
behind {P} {Q} {F} {G} (fine p none) f c = go (c p)
  where
    go : {n : ℕ} → Judged Q G n → Judged (P × Q) (F also G) n
    go (fine q none') = fine (p, q) λ n. ⊎_elim (none n) (none' n)
    go (wrong h nq low) = wrong h (λ w. nq w.1) (record { applies = inr low.applies; no_lower = λ m a. ⊎_elim (none m) (low.no_lower m a) })
behind (wrong {n = zero} h np low) f c = absurd (omega arith)
behind (wrong {n = suc r} h np low) f c =
    wrong h (λ w. np w.0)
    (record { applies = inl low.applies; no_lower = λ m a. ⊎_elim (low.no_lower m a) (λ w. absurd (omega (arith, f m low.applies w))) })

-- A chain of tests by rising numbers above k; what the tests before it say is H
record Chain (k : ℕ) (H P : Type 0) (F : ℕ → Type 0) (r : ℕ) : Type 0 where
  pub above : (n : ℕ) → F n → k < n
  pub judge : H → Judged P F r

whole : {P : Type 0} {F : ℕ → Type 0} {r : ℕ} → Chain 0 (Unit {0}) P F r → Judged P F r
whole c = c.judge tt

ask-first : (t : Bool) (j r : ℕ) → 0 < j → first_of (ask t j 0) r ≡ ask t j r
unfolding ask
ask-first true j r h = refl
ask-first false zero r h = absurd (omega arith)
ask-first false (suc j) r h = refl

module _ {k : ℕ} (j : ℕ) {t : Bool} {H P N : Type 0} (h : (k < j) × (j ≤ 19)) (f : H → Tests t P N) where
  last : Chain k H P (j when N) (ask t j 0)
  unfolding ◌when◌
  last = record { above = λ n w. omega (arith, w.0); judge = λ a. one j (omega arith) (f a) }

  more : {Q : Type 0} {G : ℕ → Type 0} {r : ℕ} → Chain j (P × H) Q G r → Chain k H (P × Q) (j when N also G) (ask t j r)
  unfolding ◌when◌ ◌also◌
  more {Q} {G} {r} c =
      record {
        above = λ n. ⊎_elim (λ w. omega (arith, w.0)) (λ w. omega (arith, c.above n w));
        judge = λ a. subst (Judged (P × Q) (j when N also G)) (ask-first t j r (omega arith))
            (behind (one j (omega arith) (f a)) (λ n w v. omega (arith, w.0, c.above n v)) (λ p. c.judge (p, a)));
      }

limit_first : (r : ℕ) (t : Bool) → first_of r (ask t 19 0) ≡ or_limit r t
limit_first zero t = refl
limit_first (suc r) t = refl

-- 19, behind them all
limit : {t : Bool} {P Q N : Type 0} {F : ℕ → Type 0} {r : ℕ} → Judged P F r → Tests t Q N → Judged (P × Q) (F also 19 when N) (or_limit r t)
unfolding ◌when◌
limit {t} {P} {Q} {N} {F} {r} c g =
    subst (Judged (P × Q) (F also 19 when N)) (limit_first r t) (behind c (λ n w v. omega (arith, number-most c, v.0)) (λ _. one 19 (omega arith) g))

-- ---- the tests of the events

at_most : (m n : ℕ) → Tests (leb m n) (m ≤ n) (n < m)
at_most m n = record { passed = leb-true m n; failed = leb-false m n; apart = λ h k. absurd (omega arith) }

at_least_one : (n : ℕ) → Tests (leb 1 n) (1 ≤ n) (n ≡ 0)
at_least_one n = record { passed = leb-true 1 n; failed = λ e. let h = leb-false 1 n e in omega arith; apart = λ h k. absurd (omega arith) }

is_kept_lem : (k : Commitment) → is_kept k ≡ true → (v : ℕ) × (k ≡ kept v)
is_kept_lem ill e = absurd (false≢true e)
is_kept_lem (kept v) e = (v, refl)
is_kept_lem (told v) e = absurd (false≢true e)

is-told : (k : Commitment) → is_told k ≡ true → (v : ℕ) × (k ≡ told v)
is-told ill e = absurd (false≢true e)
is-told (kept v) e = absurd (false≢true e)
is-told (told v) e = (v, refl)

renews : (a : Action) → Tests (is_renewal a) ((d : ℕ) × (a ≡ renew_as d)) ((d : ℕ) → a ≡ renew_as d → ⊥)
renews a =
    record {
      passed = λ e. (renewed_as a, renewal-is a e);
      failed = λ e d h. true≢false (sym (ap is_renewal h) ∙ e);
      apart = λ w f. f w.0 w.1;
    }

module _ (s : Sheet) (l : Ledger) where
  kept_test : (i j : ℕ) → Tests (is_kept (commitment_at l i j)) (StillKept l i j) (StillKept l i j → ⊥)
  kept_test i j = opposite (is_kept_lem (commitment_at l i j)) (λ w. ap is_kept w.1)

  abbrev OneEach : List (Option ℕ) → ℕ → Type 0
  OneEach vs d = length vs ≡ length (def_at s d).owners

  module _ (c b : ℕ) where
    abbrev action : Action
    action = (the_branch s l c b).action

    live_test : Tests (live s l c b) (LiveBranch s l c b) (LiveBranch s l c b → ⊥)
    live_test = opposite
        (λ e.
        let h = and_l _ _ e in
        record { made = in_range (λ k. k.alive) l.contracts c no_contract refl h; alive = h; there = ltb-true _ _ (and_r _ _ e) })
        (λ h. and_i _ _ h.alive (lt-ltb _ _ h.there))

    sign_test : (p : ℕ) → Tests (signs (the_branch s l c b) p & not ((contract_at l c).signed b p))
        (IsSigner s l p c b × (HasSigned l p c b → ⊥)) ((IsSigner s l p c b → ⊥) ⊎ HasSigned l p c b)
    sign_test p = both (opposite (λ e. e) (λ e. e)) (flipped (opposite (λ e. e) (λ e. e)))

    signed_test : Tests (all_signed s (the_branch s l c b) ((contract_at l c).signed b)) (EverySigned s l c b) (Unsigned s l c b)
    signed_test =
        record {
          passed = λ e p h i. imp_e _ _ (every-mem asked (below s.participants) e (mem_up 0 s.participants p (omega arith) (omega arith))) i;
          failed = λ e.
              let w = every-not-mem asked (below s.participants) e in
              let h = all_of (up_mem 0 s.participants) w.1 in
              (w.0, omega (arith, h.1), imp_no_l _ _ w.2, λ i. false≢true (sym (not-true _ (imp_no_r _ _ w.2)) ∙ i));
          apart = λ f w. w.3 (f w.0 w.1 w.2);
        }
      where
        asked : ℕ → Bool
        asked p = signs (the_branch s l c b) p ⇒ (contract_at l c).signed b p

    abbrev AllTold : Type 0
    AllTold = (js : List ℕ) (q : Cond) (n : ℕ) → action ≡ reveal js q n → (j : ℕ) → Memᴰ j js → WasTold l (contract_at l c).set j

    abbrev HoldsThere : Type 0
    HoldsThere = (js : List ℕ) (q : Cond) (n : ℕ) → action ≡ reveal js q n → holds_in l (contract_at l c).set q ≡ true

    reveal_test : Tests (revealed (commitment_at l (contract_at l c).set) action) (AllTold × HoldsThere) (Unrevealed s l c b)
    reveal_test =
        record {
          passed = λ e. (
            λ js q n h j m. is-told _ (every-mem told_there js (and_l _ _ (revealed-both js q n h e)) m),
            λ js q n h. and_r _ _ (revealed-both js q n h e),
          );
          failed = λ e. go action refl e;
          apart = λ w. not-both w.0 w.1;
        }
      where
        told_there : ℕ → Bool
        told_there j = is_told (commitment_at l (contract_at l c).set j)

        revealed-both : (js : List ℕ) (q : Cond) (n : ℕ) → action ≡ reveal js q n → revealed (commitment_at l (contract_at l c).set) action ≡ true
            → (every told_there js & holds_in l (contract_at l c).set q) ≡ true
        revealed-both js q n h e = subst (λ a. revealed (commitment_at l (contract_at l c).set) a ≡ true) h e

        go : (a : Action) → action ≡ a → revealed (commitment_at l (contract_at l c).set) a ≡ false → Unrevealed s l c b
        go (withdraw p) h e = absurd (true≢false e)
        go (split qs) h e = absurd (true≢false e)
        go (renew_as d) h e = absurd (true≢false e)
        go (reveal js q n) h e = ⊎_elim
            (λ f. let w = every-not-mem told_there js f in untold js q n h w.0 w.1 (λ t. true≢false (sym (ap is_told t.1) ∙ w.2)))
            (fails js q n h)
            (and_cases _ _ e)

        not-both : AllTold → HoldsThere → Unrevealed s l c b → ⊥
        not-both f g (untold js q n h j m t) = t (f js q n h j m)
        not-both f g (fails js q n h e) = true≢false (sym (g js q n h) ∙ e)

    -- given that the branch is a renewal, which is asked before
    values_test : (vs : List (Option ℕ)) → (d : ℕ) × (action ≡ renew_as d)
        → Tests (values_fit s action vs) (OneEach vs (renewed_as action)) ((d : ℕ) × (action ≡ renew_as d) × (OneEach vs d → ⊥))
    values_test vs w =
        record {
          passed = eqb-true _ _;
          failed = λ e. (w.0, w.1, λ h. eqb-false _ _ e (subst (OneEach vs) (sym (ap renewed_as w.1)) h));
          apart = λ h u. u.2 (subst (OneEach vs) (ap renewed_as u.1) h);
        }

  -- ---- what the plain ledger says of an event

  judged : (e : Event) → Judged (Asks s l e) (Against s l e) (refusal s l e)
  unfolding Asks Against refusal
  judged (wait d) = whole (last 4 (omega arith) (λ _. both (at_least_one d) (at_most d _)))
  judged (sign p c b) = said
      (λ (a, (p, n)). record { live-branch = a; signer = p; not_yet = n })
      (λ h. (h.live-branch, (h.signer, h.not_yet)))
      (whole
      (more 14 (omega arith) (λ _. live_test c b)
      (last 16 (omega arith) (λ _. sign_test c b p))))
  judged (tell i j) = said
      (λ w.
      let e = ap is_kept w.1 in
      let h : i < length l.sets = in_range (λ k. is_kept (get_or k.secrets j ill)) l.sets i no_set refl e in
      record { known_set = h; known_secret = in_range is_kept (set_at l i).secrets j ill refl e; still_kept = w })
      (λ h. h.still_kept)
      (whole (last 17 (omega arith) (λ _. kept_test i j)))
  judged (fire c b) = said
      (λ ((a, r), (o, (g, (t, q)))). record { live-branch = a; no_renewal = r; is_open = o; every-signed = g; all_told = t; condition = q })
      (λ h. ((h.live-branch, h.no_renewal), (h.is_open, (h.every-signed, (h.all_told, h.condition)))))
      (whole
      (more 14 (omega arith) (λ _. both (live_test c b) (flipped (renews (action c b))))
      (more 15 (omega arith) (λ _. at_most _ _)
      (more 16 (omega arith) (λ _. signed_test c b)
      (last 17 (omega arith) (λ _. reveal_test c b))))))
  judged (renew c b vs) = said
      (λ ((a, r), (o, (g, v))).
      record { live-branch = a; definition = r.0; renewal = r.1; is_open = o; every-signed = g; values = subst (OneEach vs) (ap renewed_as r.1) v })
      (λ h.
      let v = subst (OneEach vs) (sym (ap renewed_as h.renewal)) h.values in
      ((h.live-branch, (h.definition, h.renewal)), (h.is_open, (h.every-signed, v))))
      (whole
      (more 14 (omega arith) (λ _. both (live_test c b) (renews (action c b)))
      (more 15 (omega arith) (λ _. at_most _ _)
      (more 16 (omega arith) (λ _. signed_test c b)
      (last 18 (omega arith) (λ (_, (_, ((_, r), _))). values_test c b vs r))))))

  -- ---- what the program's ledger says of it

  -- what a contract that is fired or renewed leaves
  contracts-after : (c : ℕ) (k : Contract) (ks : List Contract) → length (set l.contracts c k ++ ks) ≡ length l.contracts + length ks
  contracts-after c k ks = length-append (set l.contracts c k) ks ∙ ap (λ n. n + length ks) (length-set l.contracts c k)

  within-is : WithinLimits s l → (e : Event) → (within s l e ≡ true) ↔ WithinLimits s (after s l e)
  unfolding within after
  within-is w (wait d) = (λ t. omega (arith, leb-true, taken-after s l (wait d)), λ v. le-leb _ _ v.in_time)
  within-is w (sign p c b) = (λ t. omega (arith, taken-after s l (sign p c b), length-set l.contracts c (signing (contract_at l c) b p)), λ v. refl)
  within-is w (tell i j) = (
    λ t. let e = length-set l.sets i (record { definition = (set_at l i).definition; secrets = set (set_at l i).secrets j (telling (commitment_at l i j)) }) in
        omega (arith, taken-after s l (tell i j)),
    λ v. refl,
  )
  within-is w (fire c b) =
      let n = contracts-after c (dead (contract_at l c)) (making (contract_at l c) (action c b)) in
      (λ t. omega (arith, leb-true, taken-after s l (fire c b)), λ v. le-leb _ _ (subst (λ k. k ≤ 256) n v.few-contracts))
  within-is w (renew c b vs) =
      let d = renewed_as (action c b) in
      let n = contracts-after c (dead (contract_at l c)) (renewing s (contract_at l c) d (length l.sets) ∷ []) in
      let m = length-append l.sets (record { definition = d; secrets = map commit vs } ∷ []) in (
        λ t.
            let h₁ = and_l _ _ t in
            let h₂ = and_l _ _ (and_r _ _ t) in
            let h₃ = and_r _ _ (and_r _ _ t) in
            omega (arith, leb-true, taken-after s l (renew c b vs)),
        λ v. and_i _ _ (le-leb (suc (length l.contracts)) 256 (omega (arith, v.few-contracts)))
            (and_i _ _ (le-leb (suc (length l.sets)) 32 (omega (arith, v.few-sets)))
            (le-leb _ _ (subst (λ k. k ≤ 2100000000000000) (taken-after s l (renew c b vs)) v.few-deposits))),
      )

  judged-limited : WithinLimits s l → (e : Event) → Judged (Asks s l e × WithinLimits s (after s l e)) (Refusing s l e) (limited_refusal s l e)
  unfolding Refusing limited_refusal
  judged-limited w e = limit (judged e) (let h = within-is w e in opposite h.0 h.1)

-- ---- a play

module _ (s : Sheet) where
  -- What is printed and played from line k on
  abbrev Computed : ℕ → Ledger → List Event → List Line → Ledger → Type 0
  Computed k l es ls l' = (ls ≡ event_lines k (answers s l es)) × (l' ≡ limited_play s l es)

  computed : {k : ℕ} {l l' : Ledger} {es : List Event} {ls : List Line} → WithinLimits s l → Plays s k l es ls l' → Computed k l es ls l'
  unfolding answers event_lines limited_play limited_step event_line
  computed w over = (refl, refl)
  computed w (takes {l = l} {e = e} a v p) =
      let z = (zero_is (judged-limited s l w e)).1 (a, v) in
      let h = computed v p in
      rw z (ap (λ ls. taken_line ∷ ls) h.0, h.1)
  computed w (refuses {n = zero} {l = l} {e = e} low p) = absurd (omega (arith, ((number_is 0 (judged-limited s l w e)).1 low).0))
  computed w (refuses {k = k} {n = suc n} {l = l} {e = e} low p) =
      let z = (number_is (suc n) (judged-limited s l w e)).1 low in
      let h = computed w p in
      rw z.1 (ap (λ ls. refused_line (suc n) k 0 ∷ ls) h.0, h.1)

  plays : (k : ℕ) (l : Ledger) (es : List Event) → WithinLimits s l → Plays s k l es (event_lines k (answers s l es)) (limited_play s l es)
  unfolding answers event_lines limited_play limited_step event_line
  plays k l [] w = over
  plays k l (e ∷ es) w = go (limited_refusal s l e) refl (plays (suc k) (after s l e) es) (plays (suc k) l es w)
    where
      go : (r : ℕ) → limited_refusal s l e ≡ r
          → (WithinLimits s (after s l e) → Plays s (suc k) (after s l e) es (event_lines (suc k) (answers s (after s l e) es)) (limited_play s (after s l e) es))
          → Plays s (suc k) l es (event_lines (suc k) (answers s l es)) (limited_play s l es)
          → Plays s k l (e ∷ es) (event_line k r ∷ event_lines (suc k) (answers s (when_taken r l (after s l e)) es)) (limited_play s (when_taken r l (after s l e)) es)
      go zero z f g = let h = (zero_is (judged-limited s l w e)).0 z in takes h.0 h.1 (f h.1)
      go (suc n) z f g = refuses ((number_is (suc n) (judged-limited s l w e)).0 (omega arith, z)) g

  limits_kept : {k : ℕ} {l l' : Ledger} {es : List Event} {ls : List Line} → WithinLimits s l → Plays s k l es ls l' → WithinLimits s l'
  limits_kept w over = w
  limits_kept w (takes a v p) = limits_kept v p
  limits_kept w (refuses low p) = limits_kept w p

  plainly : {k : ℕ} {l l' : Ledger} {es : List Event} {ls : List Line} → Plays s k l es ls l' → AllTaken s l (taken_in ls es) × (play s l (taken_in ls es) ≡ l')
  unfolding taken_in is_taken AllTaken play step
  plainly over = (tt, refl)
  plainly (takes {l = l} {e = e} a v p) =
      let h = plainly p in
      let z = (zero_is (judged s l e)).1 a in
      ((a, h.0), rw z h.1)
  plainly (refuses low p) = plainly p

pub stipulated-within : (s : Sheet) (vs : List (Option ℕ)) → sum (def_at s 0).deposits ≤ 2100000000000000 → WithinLimits s (stipulated s vs)
unfolding stipulated deposits_taken
stipulated-within s vs h = omega arith

pub events-taken : EventsTaken
events-taken =
    record {
      plain = λ s l e. zero_is (judged s l e);
      plain-number = λ s l e n. number_is n (judged s l e);
      taken = λ s l w e. zero_is (judged-limited s l w e);
      number = λ s l w e n. number_is n (judged-limited s l w e);
      played = λ s l w k es ls l'. (computed s w, λ h. rw (h.0, h.1) (plays s k l es w));
      plainly = λ s k l l' es ls p. plainly s p;
      limits_kept = λ s k l l' es ls w p. limits_kept s w p;
    }
