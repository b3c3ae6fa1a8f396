-- The ways out of renew. Assumes nothing.
use Prim.Native.Nat.{ℕ, suc, ◌+◌, ◌*◌, ◌-◌, ◌≤◌, ◌<◌}
use mathlib.Core.Bool.{Bool, true, false}
use mathlib.Core.Path.{◌≡◌, refl, sym, ap, ap₂, ◌∙◌, subst}
use mathlib.Core.List.{List, [], ◌∷◌, ◌++◌, map}
use mathlib.Core.Logic.{⊎_elim}
use native.Mathlib.Omega.{arith}
use lib.ListN.{get_or, set, length, length-set, length-map}
use lib.Seq.{get_or-set_same, get_or-set_other}
use lib.Dec.{eqb, leb}
use borrow.Author.Tests.{leb-true, leb-false, le-leb, lt-leb, eq-eqb, ne_eqb}
use Rattle.bitml.specs.Lists.{◌&◌, ask, sum}
use Rattle.bitml.specs.Sheet.{def_at}
use Rattle.bitml.specs.Ledger.{refusal, after, Contract, CommitmentSet, Commitment, contract_at, the_branch, new_contract, is_renewal, renewed_as, live, commit}
use Rattle.bitml.specs.Ledger.{Ledger as Plain}
use Rattle.bitml.specs.Limits.{within, deposits_taken}
use Rattle.bitml.proofs.Lists.{and_l, and_r, and_true, and_i, and_false, and_no, ask_no, ask_yes}
use Rattle.bitml.proofs.Balance.{bringing}
use Rattle.tables.specs.Entries.{held, people, first_of}
use Rattle.tables.specs.SheetOf.{branch_entry_at, def_entry_at, branch_count, branch_number, action_of, sheet_in}
use Rattle.tables.proofs.SheetOf.{root_is, deposits-are, owner-count}
use Rattle.tables.proofs.Runs.{first_of_agree, first_of-more}
use Rattle.sheets.specs.Ready.{Ready}
use Rattle.duties.specs.Duties.{not_yet, deposits_of, given, committed, state_of}
use Rattle.duties.proofs.Sums.{deposits-most}
use Rattle.counts.specs.Book.{Book}
use Rattle.counts.specs.View.{alive_at, view, set_of, secret_of, commitment_of}
use Rattle.counts.specs.Fit.{Fit}
use Rattle.counts.specs.Does.{Does, with_answer, renewal}
use Rattle.counts.specs.Steps.{Enabled, Contracts, room, with_secrets, Stored}
use Rattle.counts.proofs.Updates.{pushed, reset}
use Rattle.counts.proofs.Looking.{same?, refused, refused_by, passed, takes, total-after, deposits-after, live-is, contract_of_lem, contracts-are, sets-are}
use Rattle.counts.proofs.Making.{pushed_fits, pushed_are, put_all}
use Rattle.counts.proofs.Firing.{late, timely, renewal-entry, back_is, entry-below, kind-action, dying_are, dying_free, balance_in}
use Rattle.counts.proofs.Storing.{commitments_are}

pub room-is : (made sets taken more : ℕ) → room made sets taken more ≡ true → (made < 256) × (sets < 32) × (taken + more ≤ 2100000000000000)
unfolding room
room-is made sets taken more e =
    let a = leb-true (suc made) 256 (and_l _ _ e) in
    let b = leb-true (suc sets) 32 (and_l _ _ (and_r _ _ e)) in
    (omega arith, omega arith, leb-true (taken + more) 2100000000000000 (and_r _ _ (and_r _ _ e)))

pub room-none : (made sets taken more : ℕ) → 256 ≤ made → false ≡ room made sets taken more
unfolding room
room-none made sets taken more h = sym (and_false _ _ (lt-leb (suc made) 256 (omega arith)))

pub room-sets : (made sets taken more : ℕ) → 32 ≤ sets → false ≡ room made sets taken more
unfolding room
room-sets made sets taken more h = sym (and_no _ _ (and_false _ _ (lt-leb (suc sets) 32 (omega arith))))

pub room-deposits : (made sets taken more : ℕ) → made < 256 → sets < 32 → taken ≤ 2100000000000000 → leb more (2100000000000000 - taken) ≡ room made sets taken more
unfolding room
room-deposits made sets taken more h k l =
    sym (and_true _ _ (le-leb (suc made) 256 (omega arith)) ∙ and_true _ _ (le-leb (suc sets) 32 (omega arith)) ∙ go (leb more (2100000000000000 - taken)) refl)
  where
    go : (z : Bool) → leb more (2100000000000000 - taken) ≡ z → leb (taken + more) 2100000000000000 ≡ z
    go true e = le-leb (taken + more) 2100000000000000 (let w = leb-true more (2100000000000000 - taken) e in omega arith)
    go false e = lt-leb (taken + more) 2100000000000000 (let w = leb-false more (2100000000000000 - taken) e in omega arith)

module _ (t : List ℕ) (l : Book) (c b : ℕ) (vs : List ℕ) (ok : Ready t) (f : Fit t l) where
  abbrev was : Plain
  was = view (people t) l

  pub renew_absent : live (sheet_in t) was c b ≡ false → Does t l (renewal c b vs) (with_answer l 14)
  unfolding refusal
  renew_absent z = refused t l (renewal c b vs) 13 f (ask_no _ _ _ (and_false _ _ z))

  module _ (h : c < l.made) where
    module _ (e : alive_at l.alive c ≡ true) (k : b < branch_count (held t) (get_or l.node c 0)) (q : ℕ) (eq : q ≡ branch_number (held t) (get_or l.node c 0) b) where
      pub renew-other : ((branch_entry_at (held t) q).kind ≡ 3 → ⊥) → Does t l (renewal c b vs) (with_answer l 14)
      unfolding refusal
      renew-other x = refused t l (renewal c b vs) 13 f (ask_no _ _ _ (and_no _ _ (renewal-entry t l c b ok f h e k q eq ∙ ne_eqb _ 3 x)))

      module _ (w : (branch_entry_at (held t) q).kind ≡ 3) where
        first : (live (sheet_in t) was c b & is_renewal (the_branch (sheet_in t) was c b).action) ≡ true
        first = and_i _ _ (live-is t l f c b h e k) (renewal-entry t l c b ok f h e k q eq ∙ eq-eqb _ 3 w)

        pub renew_late : {m n : ℕ} → m ≡ get_or l.signed (c * 16 + b) 0 → n ≡ not_yet (people t) (held t) q l.time m → (n ≡ 0 → ⊥) → Does t l (renewal c b vs) (with_answer l n)
        unfolding refusal
        renew_late {m} {n} y x z = refused_by t l (renewal c b vs) n f z (ask_yes _ _ _ first ∙ late _ _ n _ (back_is t l c b ok f h e k q eq ∙ ap (not_yet (people t) (held t) q l.time) (sym y) ∙ sym x) z)

        renew-rest : not_yet (people t) (held t) q l.time (get_or l.signed (c * 16 + b) 0) ≡ 0
            → refusal (sheet_in t) was (renewal c b vs) ≡ ask (eqb (length (committed vs)) (length (def_at (sheet_in t) (renewed_as (the_branch (sheet_in t) was c b).action)).owners)) 18 0
        unfolding refusal
        renew-rest x = ask_yes _ _ _ first ∙ timely _ _ _ (back_is t l c b ok f h e k q eq ∙ x)

module _ (t : List ℕ) (l : Book) (c b : ℕ) (vs : List ℕ) (q : ℕ) (ok : Ready t) (f : Fit t l) (r : Enabled t l c b q) (w : (branch_entry_at (held t) q).kind ≡ 3) where
  abbrev is : Plain
  is = view (people t) l

  abbrev D : ℕ
  D = (branch_entry_at (held t) q).arg

  abbrev more : ℕ
  more = deposits_of (people t) (held t) D

  pub def_in_lem : D < length (held t).defs
  def_in_lem = ((ok.promises.branch q (entry-below t l c b q ok f r)).renew w).definition

  pub n_numbers : (q < length (held t).branches) × ((def_entry_at (held t) D).secrets ≤ 8) × (more ≤ 2100000000000000) × (get_or l.balance c 0 ≤ l.taken)
  n_numbers =
      let k = entry-below t l c b q ok f r in
      let d = def_in_lem in
      let h = balance_in t l f c r.here r.lives in
      (k, (ok.promises.def D d).secrets, deposits-most (people t) (held t) D ok.promises d, omega (arith, f.total))

  renewed_is : renewed_as (the_branch (sheet_in t) is c b).action ≡ D
  unfolding action_of
  renewed_is = ap renewed_as (kind-action t l c b q ok f r 3 w)

  asks : refusal (sheet_in t) is (renewal c b vs) ≡ ask (eqb (length vs) (def_entry_at (held t) D).secrets) 18 0
  asks = renew-rest t l c b vs ok f r.here r.lives r.there q r.entry w r.ready
      ∙ ap₂ (λ x y. ask (eqb x y) 18 0) (length-map vs given) (ap (λ d. length (def_at (sheet_in t) d).owners) renewed_is ∙ owner-count (people t) (held t) D def_in_lem)

  renew-count : (length vs ≡ (def_entry_at (held t) D).secrets → ⊥) → Does t l (renewal c b vs) (with_answer l 18)
  renew-count n = refused t l (renewal c b vs) 17 f (asks ∙ ask_no _ _ _ (ne_eqb _ _ n))

  brings : bringing (sheet_in t) is (renewal c b vs) ≡ more
  unfolding deposits_of
  brings = ap (λ d. sum (def_at (sheet_in t) d).deposits) renewed_is ∙ ap (λ xs. sum xs) (deposits-are (people t) (held t) D def_in_lem)

  module _ (ev : length vs ≡ (def_entry_at (held t) D).secrets) where
    taken : refusal (sheet_in t) is (renewal c b vs) ≡ 0
    taken = asks ∙ ask_yes _ _ _ (eq-eqb _ _ ev)

    limits : within (sheet_in t) is (renewal c b vs) ≡ room l.made l.sets l.taken more
    unfolding within room
    limits =
        ap₂ (λ x y. leb (suc x) 256 & leb (suc y) 32 & leb (deposits_taken (sheet_in t) is + bringing (sheet_in t) is (renewal c b vs)) 2100000000000000) (contracts-are t l) (sets-are t l)
        ∙ ap₂ (λ x y. leb (suc l.made) 256 & leb (suc l.sets) 32 & leb (x + y) 2100000000000000) f.deposits brings

    renew_limit : room l.made l.sets l.taken more ≡ false → Does t l (renewal c b vs) (with_answer l 19)
    renew_limit h = passed t l (renewal c b vs) f taken (limits ∙ h)

    module _ (hr : room l.made l.sets l.taken more ≡ true) where
      hm : l.made < 256
      hm = (room-is l.made l.sets l.taken more hr).0

      hs : l.sets < 32
      hs = (room-is l.made l.sets l.taken more hr).1

      ht : l.taken + more ≤ 2100000000000000
      ht = (room-is l.made l.sets l.taken more hr).2

      abbrev A : Book
      A = reset l c D (length vs) more

      abbrev B : Book
      B = pushed A (def_entry_at (held t) D).root (get_or l.balance c 0 + more) l.sets

      reset_fits : Contracts t A
      reset_fits = record {
        made = f.made;
        node = f.node;
        set = λ i h. (let z = f.set i h in omega arith);
        fresh = f.fresh;
        free = dying_free c f.free;
        lengths = record {
          nodes = f.lengths.nodes;
          balances = f.lengths.balances;
          set-numbers = f.lengths.set-numbers;
          alives = simp length-set f.lengths.alives;
          signeds = f.lengths.signeds;
          definitions = simp length-set f.lengths.definitions;
          counts = simp length-set f.lengths.counts;
          values = f.lengths.values;
          states = f.lengths.states;
          paids = f.lengths.paids;
        };
      }

      new_fits : Contracts t B
      new_fits = pushed_fits t A (def_entry_at (held t) D).root (get_or l.balance c 0 + more) l.sets reset_fits hm (ok.promises.def D def_in_lem).root (omega arith)

      module _ (st va : List ℕ) (s : Stored l.state l.value l.sets vs (length vs) st va) where
        abbrev R : Book
        R = with_secrets B st va

        set_new : set_of R l.sets ≡ record { definition = D; secrets = map commit (committed vs) }
        set_new = ap₂ (λ (d : ℕ) (xs : List Commitment). record { definition = d; secrets = xs })
            (get_or-set_same l.definition l.sets D 0 (omega (arith, hs, f.lengths.definitions)))
            (ap (λ n. first_of (secret_of R l.sets) n) (get_or-set_same l.count l.sets (length vs) 0 (omega (arith, hs, f.lengths.counts)))
            ∙ first_of_agree (secret_of R l.sets) (λ j. commitment_of (state_of (get_or vs j 0)) (get_or vs j 0 - 1)) (length vs) (λ j h. ap₂ commitment_of (s.here j h).0 (s.here j h).1)
            ∙ sym (commitments_are vs))

        set_old : (i : ℕ) → i < l.sets → set_of R i ≡ set_of l i
        set_old i h =
            let ne : i ≡ l.sets → ⊥ = λ e. omega arith in
            ap₂ (λ (d : ℕ) (xs : List Commitment). record { definition = d; secrets = xs })
            (get_or-set_other l.definition l.sets i D 0 ne)
            (ap (λ n. first_of (secret_of R i) n) (get_or-set_other l.count l.sets i (length vs) 0 ne)
            ∙ first_of_agree (secret_of R i) (secret_of l i) (get_or l.count i 0) (λ j k.
            let p = s.other (i * 8 + j) (λ j' q e. omega (arith, f.count i h)) in ap₂ commitment_of p.0 p.1))

        -- places that no set has are not stored to
        free-secrets : (i j : ℕ) → get_or (set l.count l.sets (length vs)) i 0 ≤ j → j < 8 → get_or st (i * 8 + j) 0 ≡ 0
        free-secrets i j k hj = ⊎_elim
            (λ (e : i ≡ l.sets).
            let n : length vs ≤ j = subst (λ x. x ≤ j) (ap (λ i. get_or (set l.count l.sets (length vs)) i 0) e ∙ get_or-set_same l.count l.sets (length vs) 0 (omega (arith, hs, f.lengths.counts))) k in
            (s.other (i * 8 + j) (λ j' q e'. omega arith)).0 ∙ f.free-sets.secrets i j (let z = f.free-sets.counts i (omega arith) in omega arith) hj)
            (λ (ne : i ≡ l.sets → ⊥).
            let n : get_or l.count i 0 ≤ j = subst (λ x. x ≤ j) (get_or-set_other l.count l.sets i (length vs) 0 ne) k in
            (s.other (i * 8 + j) (λ j' q e'. ne (omega (arith, (ok.promises.def D def_in_lem).secrets)))).0 ∙ f.free-sets.secrets i j n hj)
            (same? i l.sets)

        renew-view : view (people t) R ≡ after (sheet_in t) is (renewal c b vs)
        unfolding after view
        renew-view = ap₂ (λ (cs : List Contract) (ss : List CommitmentSet). record { time = l.time; contracts = cs; sets = ss; paid = first_of (λ p. get_or l.paid p 0) (people t) })
            (pushed_are t A (def_entry_at (held t) D).root (get_or l.balance c 0 + more) l.sets reset_fits hm
            ∙ ap₂ (λ (xs : List Contract) (k : Contract). xs ++ (k ∷ [])) (dying_are t l f c r.here)
            (ap₂ (λ (n v : ℕ). new_contract n v l.sets) (sym (ap (λ d. (def_at (sheet_in t) d).root) renewed_is ∙ root_is (people t) (held t) D def_in_lem))
            (ap₂ ◌+◌ (sym (ap (λ k. k.balance) (contract_of_lem t l c r.here))) (sym brings))
            ∙ ap (λ i. new_contract (def_at (sheet_in t) (renewed_as (the_branch (sheet_in t) is c b).action)).root ((contract_at is c).balance + bringing (sheet_in t) is (renewal c b vs)) i) (sym (sets-are t l))))
            (first_of-more (set_of R) (set_of l) l.sets (record { definition = renewed_as (the_branch (sheet_in t) is c b).action; secrets = map commit (committed vs) }) set_old
            (set_new ∙ ap (λ d. record { definition = d; secrets = map commit (committed vs) }) (sym renewed_is)))

        renew-does : Does t l (renewal c b vs) R
        renew-does = takes t l (renewal c b vs) R taken (limits ∙ hr) refl renew-view
            (record {
              made = new_fits.made;
              sets = omega (arith, hs);
              time = f.time;
              taken = ht;
              deposits = deposits-after t l (renewal c b vs) R ok f taken renew-view ∙ ap (λ x. l.taken + x) brings;
              total = total-after t l (renewal c b vs) R ok f taken renew-view ∙ ap (λ x. l.taken + x) brings;
              node = new_fits.node;
              set = new_fits.set;
              count = put_all (λ x. x ≤ 8) l.count l.sets (length vs) f.count (omega (arith, (ok.promises.def D def_in_lem).secrets)) (omega (arith, hs, f.lengths.counts));
              value = s.small f.value;
              masks = f.masks;
              blank = s.blank f.blank;
              fresh = new_fits.fresh;
              free = new_fits.free;
              free-sets = record {
                definitions = λ i k. get_or-set_other l.definition l.sets i D 0 (λ e. omega arith) ∙ f.free-sets.definitions i (omega arith);
                counts = λ i k. get_or-set_other l.count l.sets i (length vs) 0 (λ e. omega arith) ∙ f.free-sets.counts i (omega arith);
                secrets = free-secrets;
                three_states = s.three_states f.free-sets.three_states;
              };
              unpaid = f.unpaid;
              lengths = let h = new_fits.lengths in record {
                nodes = h.nodes;
                balances = h.balances;
                set-numbers = h.set-numbers;
                alives = h.alives;
                signeds = h.signeds;
                definitions = h.definitions;
                counts = h.counts;
                values = s.values;
                states = s.states;
                paids = h.paids;
              };
            })

  -- over what the code read
  module _ {d n : ℕ} (ed : d ≡ (branch_entry_at (held t) q).arg) (en : n ≡ (def_entry_at (held t) d).secrets) where
    same_count : n ≡ (def_entry_at (held t) D).secrets
    same_count = en ∙ ap (λ d. (def_entry_at (held t) d).secrets) ed

    pub renew-count_by : (length vs ≡ n → ⊥) → Does t l (renewal c b vs) (with_answer l 18)
    renew-count_by x = renew-count (λ e. x (e ∙ sym same_count))

    module _ (ev : length vs ≡ n) where
      module _ {m : ℕ} (em : m ≡ deposits_of (people t) (held t) d) where
        same_more : m ≡ deposits_of (people t) (held t) (branch_entry_at (held t) q).arg
        same_more = em ∙ ap (λ d. deposits_of (people t) (held t) d) ed

        same-room : room l.made l.sets l.taken m ≡ room l.made l.sets l.taken (deposits_of (people t) (held t) (branch_entry_at (held t) q).arg)
        same-room = ap (room l.made l.sets l.taken) same_more

        module _ {z : Bool} (ez : z ≡ room l.made l.sets l.taken m) where
          pub renew_limit_by : z ≡ false → Does t l (renewal c b vs) (with_answer l 19)
          renew_limit_by h = renew_limit (ev ∙ same_count) (sym same-room ∙ sym ez ∙ h)

          -- the numbers that the code goes by
          pub room_by : z ≡ true → (l.made < 256) × (l.sets < 32) × (l.taken + m ≤ 2100000000000000)
          room_by h = room-is l.made l.sets l.taken m (sym ez ∙ h)

          pub renew-taken_by : {rt : ℕ} → rt ≡ (def_entry_at (held t) d).root → z ≡ true → (st va : List ℕ) → Stored l.state l.value l.sets vs (length vs) st va
              → Does t l (renewal c b vs) (with_secrets (pushed (reset l c d n m) rt (get_or l.balance c 0 + m) l.sets) st va)
          renew-taken_by {rt} er h st va s =
              subst (λ r. Does t l (renewal c b vs) (with_secrets (pushed (reset l c d n m) r (get_or l.balance c 0 + m) l.sets) st va)) (sym (er ∙ ap (λ d. (def_entry_at (held t) d).root) ed))
              (subst (λ m'. Does t l (renewal c b vs) (with_secrets (pushed (reset l c d n m') (def_entry_at (held t) D).root (get_or l.balance c 0 + m') l.sets) st va)) (sym same_more)
              (subst (λ n'. Does t l (renewal c b vs) (with_secrets (pushed (reset l c d n' more) (def_entry_at (held t) D).root (get_or l.balance c 0 + more) l.sets) st va)) ev
              (subst (λ d'. Does t l (renewal c b vs) (with_secrets (pushed (reset l c d' (length vs) more) (def_entry_at (held t) D).root (get_or l.balance c 0 + more) l.sets) st va)) (sym ed)
              (renew-does (ev ∙ same_count) (sym same-room ∙ sym ez ∙ h) st va s))))
