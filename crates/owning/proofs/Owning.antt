-- Own branches, and what bars the others, by a sheet's entries. Assumes nothing.
use mathlib.Core.Path.{◌≡◌, refl, ap, ◌∙◌}
use mathlib.Core.Logic.{◌⊎◌, inl, inr}
use Prim.Native.Nat.{ℕ, zero, suc, ◌^◌, ◌≤◌, ◌<◌}
use native.Mathlib.Omega.{arith}
use mathlib.Core.Bool.{true, false, false≢true, not}
use mathlib.Core.List.{[], ◌∷◌}
use lib.ListN.{length}
use lib.Dec.{eqb}
use borrow.Author.Tests.{lt-ltb, le-ltb}
use Rattle.bitml.specs.Lists.{◌&◌, ask, every}
use Rattle.bitml.specs.Sheet.{Action, owns, node_at}
use Rattle.bitml.specs.Runs.{own, only_signer, counts_always, own_action}
use Rattle.bitml.specs.Ledger.{is_renewal}
use Rattle.bitml.specs.Why.{secrets_of as secretsIn, condition_of, own_tests, failing, bar}
use Rattle.bitml.proofs.Lists.{and_r, and_false, and_true, ask_no, ask_yes}
use Rattle.tables.specs.Entries.{Entries}
use Rattle.tables.specs.SheetOf.{node_entry_at, branch_entry_at, def_entry_at, cond_at, owner_of, secrets_of, action_of, branch_of, sheet_of}
use Rattle.tables.proofs.SheetOf.{owner-count, owner_at_lem, node-def}
use Rattle.sheets.proofs.Bits.{only_none, only_mask, only-other}

module _ (K : ℕ) (E : Entries) (p : ℕ) where
  pub owns_past : (d j : ℕ) → d < length E.defs → (def_entry_at E d).secrets ≤ j → owns (sheet_of K E) p d j ≡ false
  owns_past d j h k = and_false _ _ (le-ltb j _ (let z = owner-count K E d h in omega arith))

  pub owns_in : (d j : ℕ) → d < length E.defs → j < (def_entry_at E d).secrets → owns (sheet_of K E) p d j ≡ eqb (owner_of K E d j) p
  owns_in d j h k = and_true _ _ (lt-ltb j _ (let z = owner-count K E d h in omega arith)) ∙ ap (λ x. eqb x p) (owner_at_lem K E d j h k)

  -- the signers are none but p
  abbrev pub Alone : ℕ → Type 0
  Alone b = ((branch_entry_at E b).signers ≡ 0) ⊎ ((branch_entry_at E b).signers ≡ 2 ^ p)

  alone-is : (b : ℕ) → Alone b → only_signer (sheet_of K E) p (branch_of E b) ≡ true
  unfolding sheet_of branch_of
  alone-is b (inl e) = rw e (only_none K p)
  alone-is b (inr e) = rw e (only_mask K p)

  module _ (n b : ℕ) where
    pub bar-others : (branch_entry_at E b).signers < 2 ^ K → ((branch_entry_at E b).signers ≡ 0 → ⊥) → ((branch_entry_at E b).signers ≡ 2 ^ p → ⊥) → bar (sheet_of K E) p n (branch_of E b) ≡ 1
    unfolding sheet_of branch_of bar own_tests failing
    bar-others h f g = ask_no _ _ _ (only-other K p (branch_entry_at E b).signers h f g)

    -- what bars a branch that no other signs, by its action in definition d
    abbrev barred : ℕ → Action → ℕ
    barred d a = failing 2 (every (owns (sheet_of K E) p d) (secretsIn a) ∷ counts_always (condition_of a) ∷ not (is_renewal a) ∷ [])

    bar-kind : (k : ℕ) → Alone b → (branch_entry_at E b).kind ≡ k → bar (sheet_of K E) p n (branch_of E b) ≡ barred (node_at (sheet_of K E) n).definition (action_of E b k)
    unfolding branch_of bar own_tests failing
    bar-kind k a e = ask_yes _ _ _ (alone-is b a) ∙ ap (λ k. barred (node_at (sheet_of K E) n).definition (action_of E b k)) e

    pub bar_simple : Alone b → (branch_entry_at E b).kind < 2 → bar (sheet_of K E) p n (branch_of E b) ≡ 0
    unfolding action_of failing ask counts_always ◌&◌
    bar_simple a h = bar-kind (branch_entry_at E b).kind a refl ∙ go (branch_entry_at E b).kind h
      where
        go : (k : ℕ) → k < 2 → barred (node_at (sheet_of K E) n).definition (action_of E b k) ≡ 0
        go zero h = refl
        go (suc zero) h = refl
        go (suc (suc k)) h = absurd (omega arith)

    pub bar-renewal : Alone b → (branch_entry_at E b).kind ≡ 3 → bar (sheet_of K E) p n (branch_of E b) ≡ 4
    unfolding action_of failing ask counts_always ◌&◌
    bar-renewal a e = bar-kind 3 a e

    module _ (h : n < length E.nodes) (a : Alone b) (e : (branch_entry_at E b).kind ≡ 2) where
      reveal-is : bar (sheet_of K E) p n (branch_of E b)
          ≡ ask (every (owns (sheet_of K E) p (node_entry_at E n).definition) (secrets_of E b)) 2 (ask (counts_always (cond_at E (branch_entry_at E b).cond)) 3 0)
      unfolding action_of failing ask
      reveal-is = bar-kind 2 a e ∙ ap (λ d. barred d (action_of E b 2)) (node-def K E n h)

      pub bar_another : every (owns (sheet_of K E) p (node_entry_at E n).definition) (secrets_of E b) ≡ false → bar (sheet_of K E) p n (branch_of E b) ≡ 2
      bar_another f = reveal-is ∙ ask_no _ _ _ f

      pub bar-reveal : every (owns (sheet_of K E) p (node_entry_at E n).definition) (secrets_of E b) ≡ true
          → bar (sheet_of K E) p n (branch_of E b) ≡ ask (counts_always (cond_at E (branch_entry_at E b).cond)) 3 0
      bar-reveal f = reveal-is ∙ ask_yes _ _ _ f

    -- "`g` is never own"
    pub own_below : own (sheet_of K E) p n (branch_of E b) ≡ true → (branch_entry_at E b).kind < 3
    unfolding branch_of action_of
    own_below e = go (branch_entry_at E b).kind (and_r _ _ e)
      where
        go : (k : ℕ) → own_action (sheet_of K E) p (node_at (sheet_of K E) n).definition (action_of E b k) ≡ true → k < 3
        go zero e = omega arith
        go (suc zero) e = omega arith
        go (suc (suc zero)) e = omega arith
        go (suc (suc (suc k))) e = absurd (false≢true e)
