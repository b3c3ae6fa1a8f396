-- The ways out of tell. Assumes nothing.
use Prim.Native.Nat.{ℕ, zero, suc, ◌+◌, ◌*◌, ◌≤◌, ◌<◌}
use mathlib.Core.Bool.{false}
use mathlib.Core.Path.{◌≡◌, refl, sym, ap, ◌∙◌}
use mathlib.Core.List.{List}
use native.Mathlib.Omega.{arith}
use lib.ListN.{get_or, set, length, length-set}
use lib.Seq.{get_or-set_same, get_or-set_other}
use Rattle.bitml.specs.Ledger.{tell, refusal, after, Commitment, CommitmentSet, ill, no_set, commitment_at, telling, is_kept}
use Rattle.bitml.specs.Limits.{within}
use Rattle.bitml.proofs.Lists.{at_set, ask_no, ask_yes}
use Rattle.tables.specs.Entries.{people, first_of}
use Rattle.tables.specs.SheetOf.{sheet_in}
use Rattle.tables.proofs.Runs.{first_of_agree, first_of-set}
use Rattle.sheets.specs.Ready.{Ready}
use Rattle.counts.specs.Book.{Book}
use Rattle.counts.specs.View.{view, contract_of, set_of, secret_of, commitment_of}
use Rattle.counts.specs.Fit.{Fit}
use Rattle.counts.specs.Does.{Does, with_answer}
use Rattle.counts.proofs.Updates.{with_state}
use Rattle.counts.proofs.Looking.{refused, takes, total-same, deposits-same, set_of_lem, commitment_of_lem, commitment_past, commitment_none}

module _ (t : List ℕ) (l : Book) (i j : ℕ) (ok : Ready t) (f : Fit t l) where
  pub tell_unknown : l.sets ≤ i → Does t l (tell i j) (with_answer l 17)
  unfolding refusal
  tell_unknown h = refused t l (tell i j) 16 f (ask_no _ _ _ (ap is_kept (commitment_none t l i j h)))

  module _ (h : i < l.sets) where
    pub tell_past : get_or l.count i 0 ≤ j → Does t l (tell i j) (with_answer l 17)
    unfolding refusal
    tell_past k = refused t l (tell i j) 16 f (ask_no _ _ _ (ap is_kept (commitment_past t l i j h k)))

    module _ (k : j < get_or l.count i 0) where
      abbrev S : ℕ
      S = get_or l.state (i * 8 + j) 0

      not_kept : (s v : ℕ) → (s ≡ 1 → ⊥) → is_kept (commitment_of s v) ≡ false
      unfolding commitment_of
      not_kept zero v n = refl
      not_kept (suc zero) v n = absurd (n refl)
      not_kept (suc (suc s)) v n = refl

      pub tell_kept : (S ≡ 1 → ⊥) → Does t l (tell i j) (with_answer l 17)
      unfolding refusal
      tell_kept n = refused t l (tell i j) 16 f (ask_no _ _ _ (ap is_kept (commitment_of_lem t l i j h k) ∙ not_kept S _ n))

      module _ (e : S ≡ 1) where
        abbrev said : Book
        said = with_state l (set l.state (i * 8 + j) 2)

        tell_asks : refusal (sheet_in t) (view (people t) l) (tell i j) ≡ 0
        unfolding refusal commitment_of
        tell_asks = ask_yes _ _ _ (ap is_kept (commitment_of_lem t l i j h k ∙ ap (λ s. commitment_of s (get_or l.value (i * 8 + j) 0)) e))

        within-state : i * 8 + j < length l.state
        within-state = omega (arith, f.sets, f.count i h, f.lengths.states)

        now_told : secret_of said i j ≡ telling (commitment_at (view (people t) l) i j)
        unfolding commitment_of
        now_told = ap (λ s. commitment_of s (get_or l.value (i * 8 + j) 0)) (get_or-set_same l.state (i * 8 + j) 2 0 within-state)
            ∙ sym (ap telling (commitment_of_lem t l i j h k ∙ ap (λ s. commitment_of s (get_or l.value (i * 8 + j) 0)) e))

        secrets_said : first_of (secret_of said i) (get_or l.count i 0) ≡ set (first_of (secret_of l i) (get_or l.count i 0)) j (telling (commitment_at (view (people t) l) i j))
        secrets_said = first_of-set (secret_of l i) (secret_of said i) (get_or l.count i 0) j _ ill k now_told
            (λ j' hj n. ap (λ s. commitment_of s (get_or l.value (i * 8 + j') 0)) (get_or-set_other l.state (i * 8 + j) (i * 8 + j') 2 0 (λ q. n (omega arith))))

        -- a secret that is told is one that its set has
        not_free : (i' j' : ℕ) → get_or l.count i' 0 ≤ j' → j' < 8 → i' * 8 + j' ≡ i * 8 + j → ⊥
        not_free i' j' q hj e =
            let few = f.count i h in
            let same : i' ≡ i = omega arith in
            let n = ap (λ x. get_or l.count x 0) same in
            omega arith

        tell-view : view (people t) said ≡ after (sheet_in t) (view (people t) l) (tell i j)
        unfolding view after
        tell-view = ap (λ (ss : List CommitmentSet). record { time = l.time; contracts = first_of (contract_of l) l.made; sets = ss; paid = first_of (λ p. get_or l.paid p 0) (people t) })
            (first_of-set (set_of l) (set_of said) l.sets i _ no_set h
            (ap (λ (xs : List Commitment). record { definition = get_or l.definition i 0; secrets = xs }) secrets_said
            ∙ ap (λ (x : CommitmentSet). record { definition = x.definition; secrets = set x.secrets j (telling (commitment_at (view (people t) l) i j)) }) (sym (set_of_lem t l i h)))
            (λ i' hi n. ap (λ (xs : List Commitment). record { definition = get_or l.definition i' 0; secrets = xs })
            (first_of_agree (secret_of said i') (secret_of l i') (get_or l.count i' 0) (λ j' hj. ap (λ s. commitment_of s (get_or l.value (i' * 8 + j') 0))
            (get_or-set_other l.state (i * 8 + j) (i' * 8 + j') 2 0 (λ q. n (omega (arith, f.count i h, f.count i' hi))))))))

        pub tell-taken : Does t l (tell i j) (with_state l (set l.state (i * 8 + j) 2))
        unfolding within
        tell-taken = takes t l (tell i j) said tell_asks refl refl tell-view
            (record {
              made = f.made;
              sets = f.sets;
              time = f.time;
              taken = f.taken;
              deposits = deposits-same t l (tell i j) said ok f tell_asks tell-view refl;
              total = total-same t l (tell i j) said ok f tell_asks tell-view refl;
              node = f.node;
              set = f.set;
              count = f.count;
              value = f.value;
              masks = f.masks;
              blank = λ x h. at_set (λ y. y ≡ 0 → get_or l.value x 0 ≡ 0) l.state (i * 8 + j) x 2 0 (f.blank x) (λ _ q. absurd (omega arith)) h;
              fresh = f.fresh;
              free = f.free;
              free-sets = record {
                definitions = f.free-sets.definitions;
                counts = f.free-sets.counts;
                secrets = λ i' j' q hj. get_or-set_other l.state (i * 8 + j) (i' * 8 + j') 2 0 (λ e. not_free i' j' q hj e) ∙ f.free-sets.secrets i' j' q hj;
                three_states = λ x. at_set (λ y. y ≤ 2) l.state (i * 8 + j) x 2 0 (f.free-sets.three_states x) (λ _. omega arith);
              };
              unpaid = f.unpaid;
              lengths = record {
                nodes = f.lengths.nodes;
                balances = f.lengths.balances;
                set-numbers = f.lengths.set-numbers;
                alives = f.lengths.alives;
                signeds = f.lengths.signeds;
                definitions = f.lengths.definitions;
                counts = f.lengths.counts;
                values = f.lengths.values;
                states = simp length-set f.lengths.states;
                paids = f.lengths.paids;
              };
            })
