-- The computed cause holds, and no lower one does. Assumes nothing.
use mathlib.Core.Path.{◌≡◌, refl, sym, ap, ◌∙◌, subst}
use mathlib.Core.Logic.{by_cases}
use Prim.Native.Nat.{ℕ, zero, suc, ◌-◌, ◌≤◌, ◌<◌}
use native.Mathlib.Omega.{arith}
use native.Mathlib.Decide.{dec_le}
use mathlib.Core.Bool.{Bool, true, false, false≢true, not, cond}
use mathlib.Core.List.{List, [], ◌∷◌, ◌++◌, Memᴰ}
use lib.ListN.{length, get_or}
use lib.Dec.{eqb, ltb}
use borrow.Author.Tests.{eq-eqb, ne_eqb, ltb-true, lt-ltb, not-false}
use Rattle.bitml.specs.Lists.{◌&◌, ◌⇒◌, ask, every, below}
use Rattle.bitml.specs.Sheet.{Sheet, Branch, Cond, Action, withdraw, split, reveal, renew_as, node_at, branches_at, branch_at, signs, owns, parts}
use Rattle.bitml.specs.Runs.{only_signer, counts_always, own_action, own, Exit, leave}
use Rattle.bitml.specs.Rule.{rank_at}
use Rattle.bitml.specs.Ledger.{is_renewal, renewed_as}
use Rattle.bitml.specs.Promises.{WellFormed}
use Rattle.bitml.specs.Why.{Cause, signer, secret, condition, renewal, contract, LowestCause, secrets_of, condition_of, own_tests, clear, failing, bar, cause}
use Rattle.bitml.proofs.Lists.{and_l, and_r, and_i, imp_no_l, imp_no_r, every-mem, up_mem, all_of, mem_up, is_false, every-not-mem}
use Rattle.bitml.proofs.Actions.{renewal-is, parts_next}
use Rattle.bitml.proofs.Exits.{exit_ranked, ranked_exit}
use Rattle.bitml.proofs.Trees.{exit_is_tree}

-- ---- the first test that fails

record Fails (k : ℕ) (ts : List Bool) (i : ℕ) : Type 0 where
  from : k ≤ i
  fails : get_or ts (i - k) true ≡ false
  before : (j : ℕ) → k ≤ j → j < i → get_or ts (j - k) true ≡ true

failing-is : (k : ℕ) (ts : List Bool) → 0 < failing k ts → Fails k ts (failing k ts)
unfolding failing ask
failing-is k [] h = absurd (omega arith)
failing-is k (false ∷ ts) h = record { from = omega arith; fails = at-start k k refl; before = λ j a b. absurd (omega arith) }
  where
    at-start : (i k : ℕ) → i ≡ k → get_or (false ∷ ts) (i - k) true ≡ false
    at-start i k e = let z : i - k ≡ 0 = omega arith in rw z
failing-is k (true ∷ ts) h = go (failing-is (suc k) ts h)
  where
    at : (j : ℕ) → suc k ≤ j → get_or (true ∷ ts) (j - k) true ≡ get_or ts (j - suc k) true
    at j a = let z : j - k ≡ suc (j - suc k) = omega arith in rw z

    go : Fails (suc k) ts (failing (suc k) ts) → Fails k (true ∷ ts) (failing (suc k) ts)
    go w = record {
      from = omega (arith, w.from);
      fails = at _ w.from ∙ w.fails;
      before = λ j a b. by_cases (dec_le j k)
          (λ c. let z : j - k ≡ 0 = omega arith in rw z)
          (λ c. at j (omega arith) ∙ w.before j (omega arith) b);
    }

failing-none : (k : ℕ) (ts : List Bool) → failing (suc k) ts ≡ 0 → every (λ t. t) ts ≡ true
unfolding failing ask
failing-none k [] e = refl
failing-none k (true ∷ ts) e = and_i _ _ refl (failing-none (suc k) ts e)
failing-none k (false ∷ ts) e = absurd (omega arith)

-- ---- own branches

-- nothing bars a branch that is own, and no other
pub bar-own : (s : Sheet) (p n : ℕ) (br : Branch) → own s p n br ≡ eqb (bar s p n br) 0
unfolding bar own_tests failing ask ◌&◌ counts_always
bar-own s p n br = go (only_signer s p br) br.action
  where
    revealed : (b c : Bool) → (b & c) ≡ eqb (failing 2 (b ∷ c ∷ true ∷ [])) 0
    revealed true true = refl
    revealed true false = refl
    revealed false c = refl

    go : (b : Bool) (a : Action)
        → (b & own_action s p (node_at s n).definition a) ≡ eqb (failing 1 (b ∷ every (owns s p (node_at s n).definition) (secrets_of a) ∷ counts_always (condition_of a) ∷ not (is_renewal a) ∷ [])) 0
    go false a = refl
    go true (withdraw q) = refl
    go true (split qs) = refl
    go true (reveal js c m) = revealed (every (owns s p (node_at s n).definition) js) (counts_always c)
    go true (renew_as d) = refl

passed_none : (k : ℕ) (ts us : List Bool) → every (λ t. t) (ts ++ us) ≡ true → failing k ts ≡ 0
unfolding failing ask ◌&◌
passed_none k [] us e = refl
passed_none k (true ∷ ts) us e = passed_none (suc k) ts us e
passed_none k (false ∷ ts) us e = absurd (false≢true e)

-- ---- tests and causes

mem-not-every : {A : Type 0} (t : A → Bool) {y : A} (xs : List A) → Memᴰ y xs → t y ≡ false → every t xs ≡ false
mem-not-every t xs h e = is_false _ (λ a. false≢true (sym e ∙ every-mem t xs a h))

other : (a b : Bool) → a ≡ true → b ≡ false → (a ⇒ b) ≡ false
unfolding ◌⇒◌
other a b e f = rw (e, f)

secret_in : (a : Action) (j : ℕ) → Memᴰ j (secrets_of a) → (js : List ℕ) × (c : Cond) × (m : ℕ) × (a ≡ reveal js c m) × Memᴰ j js
secret_in (withdraw _) j h = elim h [ ]
secret_in (split _) j h = elim h [ ]
secret_in (reveal js c m) j h = (js, c, m, refl, h)
secret_in (renew_as _) j h = elim h [ ]

condition_in_lem : (a : Action) → counts_always (condition_of a) ≡ false → (js : List ℕ) × (c : Cond) × (m : ℕ) × (a ≡ reveal js c m) × (counts_always c ≡ false)
unfolding counts_always ◌&◌
condition_in_lem (withdraw q) e = absurd (false≢true (sym e))
condition_in_lem (split qs) e = absurd (false≢true (sym e))
condition_in_lem (reveal js c m) e = (js, c, m, refl, e)
condition_in_lem (renew_as d) e = absurd (false≢true (sym e))

module _ (s : Sheet) (wf : WellFormed s) (p n : ℕ) (br : Branch) where
  test_cause : (j : ℕ) → get_or (clear s p n br) j true ≡ false → Cause s p n br (suc j)
  unfolding own_tests clear
  test_cause zero e =
      let w = every-not-mem (λ q. signs br q ⇒ eqb q p) (below s.participants) e in
      signer w.0 (omega (arith, all_of (up_mem 0 s.participants) w.1)) (imp_no_l _ _ w.2) (λ q. false≢true (ap not (sym (eq-eqb w.0 p q)) ∙ imp_no_r _ _ w.2))
  test_cause (suc zero) e =
      let w = every-not-mem (owns s p (node_at s n).definition) (secrets_of br.action) e in
      let v = secret_in br.action w.0 w.1 in
      secret v.0 v.1 v.2 w.0 v.3 v.4 w.2
  test_cause (suc (suc zero)) e = let v = condition_in_lem br.action e in condition v.0 v.1 v.2 v.3 v.4
  test_cause (suc (suc (suc zero))) e = renewal (renewed_as br.action) (renewal-is br.action (not-false _ e))
  test_cause (suc (suc (suc (suc zero)))) e =
      let w = every-not-mem (λ m. ltb 0 (rank_at s p m)) (parts br.action) e in
      contract w.0 w.1 (λ x. false≢true (sym w.2 ∙ lt-ltb _ _ (exit_ranked s wf p w.0 x)))
  test_cause (suc (suc (suc (suc (suc j))))) e = absurd (false≢true (sym e))

  cause_test : {j : ℕ} → Cause s p n br j → get_or (clear s p n br) (j - 1) true ≡ false
  unfolding own_tests clear
  cause_test (signer q hq e ne) =
      mem-not-every (λ q. signs br q ⇒ eqb q p) (below s.participants) (mem_up 0 s.participants q (omega arith) (omega arith)) (other _ _ e (ne_eqb q p ne))
  cause_test (secret js c m j e h f) = rw e (mem-not-every (owns s p (node_at s n).definition) js h f)
  cause_test (condition js c m e f) = rw e f
  cause_test (renewal d e) = rw e
  cause_test (contract m h f) = mem-not-every (λ m. ltb 0 (rank_at s p m)) (parts br.action) h (is_false _ (λ a. f (ranked_exit s wf p m (ltb-true _ _ a))))

  cause_from : {j : ℕ} → Cause s p n br j → 1 ≤ j
  cause_from (signer q hq e ne) = omega arith
  cause_from (secret js c m j e h f) = omega arith
  cause_from (condition js c m e f) = omega arith
  cause_from (renewal d e) = omega arith
  cause_from (contract m h f) = omega arith

  -- all tests passed: the branch is own
  tests_own : every (λ t. t) (clear s p n br) ≡ true → own s p n br ≡ true
  unfolding bar clear
  tests_own e = bar-own s p n br ∙ eq-eqb _ 0 (passed_none 1 (own_tests s p n br) _ e)

  pub lowest-cause : 0 < cause s p n br → LowestCause s p n br (cause s p n br)
  unfolding cause
  lowest-cause h =
      let k = failing 1 (clear s p n br) in
      let w = failing-is 1 (clear s p n br) h in
      record {
        holds = let z : suc (k - 1) ≡ k = omega (arith, w.from) in subst (Cause s p n br) z (test_cause (k - 1) w.fails);
        lowest = λ j hj c. false≢true (sym (cause_test c) ∙ w.before j (omega (arith, cause_from c)) hj);
      }

module _ (s : Sheet) (wf : WellFormed s) (p n b : ℕ) (hb : b < length (branches_at s n)) where
  tests_exit : every (λ t. t) (clear s p n (branch_at s n b)) ≡ true → Exit s p n
  unfolding own_tests clear
  tests_exit e =
      let a = (branch_at s n b).action in
      let e₃ = and_r _ _ (and_r _ _ (and_r _ _ e)) in
      (exit_is_tree s p n).1 (leave b hb (tests_own s wf p n (branch_at s n b) e) λ m hm.
      (exit_is_tree s p m).0 (ranked_exit s wf p m (ltb-true _ _ (every-mem (λ m. ltb 0 (rank_at s p m)) (parts a) (and_l _ _ (and_r _ _ e₃))
      (subst (Memᴰ m) (parts_next s a (and_l _ _ e₃)) hm)))))

  -- every branch of a node without exit has a cause
  pub some-cause : (Exit s p n → ⊥) → 0 < cause s p n (branch_at s n b)
  unfolding cause
  some-cause no_exit = by_cases (dec_le 1 (failing 1 (clear s p n (branch_at s n b)))) (λ h. h)
      (λ h. absurd (no_exit (tests_exit (failing-none 0 (clear s p n (branch_at s n b)) (omega arith)))))

-- a branch that nothing bars, of a node without exit: a contract in it lacks one
pub cause-bar : (s : Sheet) → WellFormed s → (p n b : ℕ) → b < length (branches_at s n) → (Exit s p n → ⊥)
    → cause s p n (branch_at s n b) ≡ cond (eqb (bar s p n (branch_at s n b)) 0) 5 (bar s p n (branch_at s n b))
unfolding bar cause clear own_tests failing ask
cause-bar s wf p n b hb no_exit =
    let br = branch_at s n b in
    let a = br.action in
    go (only_signer s p br) (every (owns s p (node_at s n).definition) (secrets_of a)) (counts_always (condition_of a)) (not (is_renewal a)) (every (λ m. ltb 0 (rank_at s p m)) (parts a))
    (some-cause s wf p n b hb no_exit)
  where
    go : (t u v w x : Bool) → 0 < failing 1 (t ∷ u ∷ v ∷ w ∷ x ∷ []) → failing 1 (t ∷ u ∷ v ∷ w ∷ x ∷ []) ≡ cond (eqb (failing 1 (t ∷ u ∷ v ∷ w ∷ [])) 0) 5 (failing 1 (t ∷ u ∷ v ∷ w ∷ []))
    go false u v w x h = refl
    go true false v w x h = refl
    go true true false w x h = refl
    go true true true false x h = refl
    go true true true true false h = refl
    go true true true true true h = absurd (omega arith)
