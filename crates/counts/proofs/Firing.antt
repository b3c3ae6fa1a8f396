-- The ways out of fire, up to the kind of the branch; and of firing a `w`. Assumes nothing.
use Prim.Native.Nat.{ℕ, zero, suc, ◌+◌, ◌*◌, ◌/◌, ◌%◌, ◌^◌, ◌≤◌, ◌<◌}
use mathlib.Core.Bool.{Bool, true, false, not}
use mathlib.Core.Path.{◌≡◌, refl, sym, ap, ap₂, ◌∙◌, fun_ext, subst}
use mathlib.Core.List.{List, ◌++◌, append-nil}
use native.Mathlib.Omega.{arith}
use lib.ListN.{get_or, set, length, length-set}
use lib.Seq.{get_or-set_same, get_or-set_other}
use lib.Dec.{eqb, leb}
use borrow.Author.Tests.{lt-ltb, le-leb, eq-eqb, ne_eqb}
use Rattle.bitml.specs.Lists.{◌&◌, ask}
use Rattle.bitml.specs.Ledger.{fire, refusal, after, Contract, no_contract, contract_at, commitment_at, the_branch, dead, is_renewal, all_signed, revealed, live, making, paying}
use Rattle.bitml.specs.Ledger.{Ledger as Plain}
use Rattle.bitml.specs.Limits.{within}
use Rattle.bitml.specs.Balance.{locked}
use Rattle.bitml.proofs.Lists.{at_set, and_i, and_false, and_true, and_no, ask_no, ask_yes}
use Rattle.bitml.proofs.Balance.{dead-locked, get_d_sum}
use Rattle.tables.specs.Entries.{held, people, first_of}
use Rattle.tables.specs.SheetOf.{branch_entry_at, branch_count, branch_number, action_of, branch_of, sheet_of, sheet_in}
use Rattle.tables.proofs.Runs.{first_of_get_d, first_of-set}
use Rattle.sheets.specs.Ready.{Ready}
use Rattle.duties.specs.Duties.{covers, not_yet}
use Rattle.counts.specs.Book.{Book}
use Rattle.counts.specs.View.{alive_at, view, contract_of, set_of, signed_by}
use Rattle.counts.specs.Fit.{Fit, FreeContracts}
use Rattle.counts.specs.Does.{Does, with_answer}
use Rattle.counts.specs.Steps.{Enabled}
use Rattle.counts.proofs.Updates.{with_paid, dying}
use Rattle.counts.proofs.Looking.{refused, refused_by, takes, total-same, deposits-same, live-is, branch-is, contract_of_lem, contracts-are, entry-small}

-- what comes before the last test
pub late : (a b : Bool) (n rest : ℕ) → ask a 15 (ask b 16 0) ≡ n → (n ≡ 0 → ⊥) → ask a 15 (ask b 16 rest) ≡ n
unfolding ask
late true true n rest e h = absurd (h (sym e))
late true false n rest e h = e
late false b n rest e h = e

pub timely : (a b : Bool) (rest : ℕ) → ask a 15 (ask b 16 0) ≡ 0 → ask a 15 (ask b 16 rest) ≡ rest
unfolding ask
timely true true rest e = refl
timely true false rest e = absurd (omega arith)
timely false b rest e = absurd (omega arith)

module _ (t : List ℕ) (l : Book) (c b : ℕ) (ok : Ready t) (f : Fit t l) where
  pub fire_absent : live (sheet_in t) (view (people t) l) c b ≡ false → Does t l (fire c b) (with_answer l 14)
  unfolding refusal
  fire_absent z = refused t l (fire c b) 13 f (ask_no _ _ _ (and_false _ _ z))

  module _ (h : c < l.made) where
    module _ (e : alive_at l.alive c ≡ true) (k : b < branch_count (held t) (get_or l.node c 0)) (q : ℕ) (eq : q ≡ branch_number (held t) (get_or l.node c 0) b) where
      abbrev as_plain : Plain
      as_plain = view (people t) l

      branch : the_branch (sheet_in t) as_plain c b ≡ branch_of (held t) q
      branch = branch-is t l f c b h k ∙ ap (branch_of (held t)) (sym eq)

      renewal-is : (k : ℕ) → k ≤ 3 → is_renewal (action_of (held t) q k) ≡ eqb k 3
      unfolding action_of
      renewal-is zero h = refl
      renewal-is (suc zero) h = refl
      renewal-is (suc (suc zero)) h = refl
      renewal-is (suc (suc (suc zero))) h = refl
      renewal-is (suc (suc (suc (suc k)))) h = absurd (omega arith)

      pub entry_in : q < length (held t).branches
      entry_in = entry-small t (get_or l.node c 0) b eq k

      pub renewal-entry : is_renewal (the_branch (sheet_in t) as_plain c b).action ≡ eqb (branch_entry_at (held t) q).kind 3
      unfolding branch_of
      renewal-entry = ap (λ r. is_renewal r.action) branch ∙ renewal-is (branch_entry_at (held t) q).kind (ok.promises.branch q entry_in).kind

      pub fire-renewal : (branch_entry_at (held t) q).kind ≡ 3 → Does t l (fire c b) (with_answer l 14)
      unfolding refusal
      fire-renewal x = refused t l (fire c b) 13 f (ask_no _ _ _ (and_no _ _ (ap not (renewal-entry ∙ eq-eqb _ 3 x))))

      opens-is : (the_branch (sheet_in t) as_plain c b).opens ≡ (branch_entry_at (held t) q).opens
      unfolding branch_of
      opens-is = ap (λ r. r.opens) branch

      few : b < 16
      few = omega (arith, (ok.promises.node _ (f.node c h)).few)

      plainly : signed_by l.signed c b ≡ λ p. eqb (get_or l.signed (c * 16 + b) 0 / 2 ^ p % 2) 1
      unfolding signed_by
      plainly = fun_ext λ p. and_true _ _ (lt-ltb b 16 few)

      signed_is : all_signed (sheet_in t) (the_branch (sheet_in t) as_plain c b) ((contract_at as_plain c).signed b) ≡ covers (people t) (branch_entry_at (held t) q).signers (get_or l.signed (c * 16 + b) 0)
      unfolding covers sheet_of branch_of
      signed_is = ap₂ (λ br g. all_signed (sheet_in t) br g) branch (ap (λ k. k.signed b) (contract_of_lem t l c h) ∙ plainly)

      -- opening time and signatures are as `not_yet` says
      pub back_is : ask (leb (the_branch (sheet_in t) as_plain c b).opens as_plain.time) 15 (ask (all_signed (sheet_in t) (the_branch (sheet_in t) as_plain c b) ((contract_at as_plain c).signed b)) 16 0)
          ≡ not_yet (people t) (held t) q l.time (get_or l.signed (c * 16 + b) 0)
      unfolding not_yet view
      back_is = ap₂ (λ o g. ask (leb o l.time) 15 (ask g 16 0)) opens-is signed_is

      module _ (n : (branch_entry_at (held t) q).kind ≡ 3 → ⊥) where
        first : (live (sheet_in t) as_plain c b & not (is_renewal (the_branch (sheet_in t) as_plain c b).action)) ≡ true
        first = and_i _ _ (live-is t l f c b h e k) (ap not (renewal-entry ∙ ne_eqb _ 3 n))

        pub fire_late : {m n : ℕ} → m ≡ get_or l.signed (c * 16 + b) 0 → n ≡ not_yet (people t) (held t) q l.time m → (n ≡ 0 → ⊥) → Does t l (fire c b) (with_answer l n)
        unfolding refusal
        fire_late {m} {n} y x z = refused_by t l (fire c b) n f z (ask_yes _ _ _ first ∙ late _ _ n _ (back_is ∙ ap (not_yet (people t) (held t) q l.time) (sym y) ∙ sym x) z)

        asks_rest : not_yet (people t) (held t) q l.time (get_or l.signed (c * 16 + b) 0) ≡ 0
            → refusal (sheet_in t) as_plain (fire c b) ≡ ask (revealed (commitment_at as_plain (contract_at as_plain c).set) (the_branch (sheet_in t) as_plain c b).action) 17 0
        unfolding refusal
        asks_rest x = ask_yes _ _ _ first ∙ timely _ _ _ (back_is ∙ x)

-- ---- the contracts after a firing

module _ (t : List ℕ) (l : Book) (f : Fit t l) where
  pub dying_are : (c : ℕ) → c < l.made → first_of (contract_of (dying l c)) l.made ≡ set (view (people t) l).contracts c (dead (contract_at (view (people t) l) c))
  unfolding view
  dying_are c h = first_of-set (contract_of l) (contract_of (dying l c)) l.made c _ no_contract h
      (ap (λ (a : Bool). record { node = get_or l.node c 0; balance = get_or l.balance c 0; set = get_or l.set c 0; signed = signed_by l.signed c; alive = a })
      (ap (λ x. eqb x 1) (get_or-set_same l.alive c 0 0 (omega (arith, f.made, f.lengths.alives))))
      ∙ ap dead (sym (contract_of_lem t l c h)))
      (λ i hi n. ap (λ (a : Bool). record { node = get_or l.node i 0; balance = get_or l.balance i 0; set = get_or l.set i 0; signed = signed_by l.signed i; alive = a })
      (ap (λ x. eqb x 1) (get_or-set_other l.alive c i 0 0 n)))

  pub balance_in : (c : ℕ) → c < l.made → alive_at l.alive c ≡ true → get_or l.balance c 0 ≤ locked (view (people t) l).contracts
  balance_in c h e =
      let n = dead-locked (view (people t) l) c (ap (λ k. k.alive) (contract_of_lem t l c h) ∙ e) in
      let b = ap (λ k. k.balance) (contract_of_lem t l c h) in
      omega arith

-- what is not made yet stays as it was
pub dying_free : {made : ℕ} {node balance set' alive : List ℕ} (c : ℕ) → FreeContracts made node balance set' alive → FreeContracts made node balance set' (set alive c 0)
dying_free {alive = alive} c g = record {
  nodes = g.nodes;
  balances = g.balances;
  set-numbers = g.set-numbers;
  alives = λ i h. at_set (λ x. x ≡ 0) alive c i 0 0 (g.alives i h) (λ _. refl);
  live-or-dead = λ i. at_set (λ x. x ≤ 1) alive c i 0 0 (g.live-or-dead i) (λ _. omega arith);
}

-- ---- withdraw

module _ (t : List ℕ) (l : Book) (c b q : ℕ) (ok : Ready t) (f : Fit t l) (r : Enabled t l c b q) where
  abbrev was : Plain
  was = view (people t) l

  branch-entry : the_branch (sheet_in t) was c b ≡ branch_of (held t) q
  branch-entry = branch t l c b ok f r.here r.lives r.there q r.entry

  pub entry-below : q < length (held t).branches
  entry-below = entry_in t l c b ok f r.here r.lives r.there q r.entry

  pub kind-action : (k : ℕ) → (branch_entry_at (held t) q).kind ≡ k → (the_branch (sheet_in t) was c b).action ≡ action_of (held t) q k
  unfolding branch_of
  kind-action k e = ap (λ x. x.action) branch-entry ∙ ap (action_of (held t) q) e

  pub rest : (k : ℕ) → (branch_entry_at (held t) q).kind ≡ k → (k ≡ 3 → ⊥) → refusal (sheet_in t) was (fire c b) ≡ ask (revealed (commitment_at was (contract_at was c).set) (action_of (held t) q k)) 17 0
  rest k e n = asks_rest t l c b ok f r.here r.lives r.there q r.entry (λ x. n (sym e ∙ x)) r.ready
      ∙ ap (λ a. ask (revealed (commitment_at was (contract_at was c).set) a) 17 0) (kind-action k e)

  module _ (w : (branch_entry_at (held t) q).kind ≡ 0) where
    abbrev paid_out : Book
    paid_out = with_paid l (set l.alive c 0) (set l.paid (branch_entry_at (held t) q).arg (get_or l.paid (branch_entry_at (held t) q).arg 0 + get_or l.balance c 0))

    payee : (branch_entry_at (held t) q).arg < people t
    payee = ((ok.promises.branch q entry-below).withdraw w).payee

    pay-fits : ((branch_entry_at (held t) q).arg < 16) × (get_or l.paid (branch_entry_at (held t) q).arg 0 + get_or l.balance c 0 ≤ 2100000000000000)
    unfolding view
    pay-fits =
        let a = balance_in t l f c r.here r.lives in
        let p = get_d_sum was.paid (branch_entry_at (held t) q).arg in
        let e : get_or was.paid (branch_entry_at (held t) q).arg 0 ≡ get_or l.paid (branch_entry_at (held t) q).arg 0 = first_of_get_d (λ p. get_or l.paid p 0) (people t) (branch_entry_at (held t) q).arg 0 payee in
        let h = payee in
        (omega (arith, ok.promises.limits.people), omega (arith, f.total, f.taken))

    pub pay-fits_by : {p : ℕ} → p ≡ (branch_entry_at (held t) q).arg → (p < 16) × (get_or l.paid p 0 + get_or l.balance c 0 ≤ 2100000000000000)
    pay-fits_by e = subst (λ p. (p < 16) × (get_or l.paid p 0 + get_or l.balance c 0 ≤ 2100000000000000)) (sym e) pay-fits

    w_asks : refusal (sheet_in t) was (fire c b) ≡ 0
    unfolding action_of
    w_asks = rest 0 w (λ x. omega arith) ∙ ask_yes _ _ _ refl

    w_within : within (sheet_in t) was (fire c b) ≡ true
    unfolding within action_of
    w_within = le-leb (length was.contracts + length (making (contract_at was c) (the_branch (sheet_in t) was c b).action)) 256 (let z = ap (λ a. length (making (contract_at was c) a)) (kind-action 0 w) in omega (arith, contracts-are t l, f.made))

    w_view : view (people t) paid_out ≡ after (sheet_in t) was (fire c b)
    unfolding after view action_of
    w_view = ap₂ (λ (cs : List Contract) (ps : List ℕ). record { time = l.time; contracts = cs; sets = first_of (set_of l) l.sets; paid = ps })
        (dying_are t l f c r.here ∙ sym (append-nil _) ∙ ap (λ a. set was.contracts c (dead (contract_at was c)) ++ making (contract_at was c) a) (sym (kind-action 0 w)))
        (first_of-set (λ p. get_or l.paid p 0) (λ p. get_or paid_out.paid p 0) (people t) (branch_entry_at (held t) q).arg (get_or (first_of (λ p. get_or l.paid p 0) (people t)) (branch_entry_at (held t) q).arg 0 + (contract_at was c).balance) 0 payee
        (get_or-set_same l.paid (branch_entry_at (held t) q).arg _ 0 (omega (arith, f.lengths.paids, ok.promises.limits.people, payee))
        ∙ ap₂ ◌+◌ (sym (first_of_get_d (λ p. get_or l.paid p 0) (people t) (branch_entry_at (held t) q).arg 0 payee)) (ap (λ k. k.balance) (sym (contract_of_lem t l c r.here))))
        (λ i hi n. get_or-set_other l.paid (branch_entry_at (held t) q).arg i _ 0 n)
        ∙ ap (λ a. paying was.paid (contract_at was c).balance a) (sym (kind-action 0 w)))

    w_taken : Does t l (fire c b) (with_paid l (set l.alive c 0) (set l.paid (branch_entry_at (held t) q).arg (get_or l.paid (branch_entry_at (held t) q).arg 0 + get_or l.balance c 0)))
    w_taken = takes t l (fire c b) paid_out w_asks w_within refl w_view
        (record {
          made = f.made;
          sets = f.sets;
          time = f.time;
          taken = f.taken;
          deposits = deposits-same t l (fire c b) paid_out ok f w_asks w_view refl;
          total = total-same t l (fire c b) paid_out ok f w_asks w_view refl;
          node = f.node;
          set = f.set;
          count = f.count;
          value = f.value;
          masks = f.masks;
          blank = f.blank;
          fresh = f.fresh;
          free = dying_free c f.free;
          free-sets = f.free-sets;
          unpaid = λ p k. get_or-set_other l.paid (branch_entry_at (held t) q).arg p _ 0 (λ e. omega (arith, payee)) ∙ f.unpaid p k;
          lengths = record {
            nodes = f.lengths.nodes;
            balances = f.lengths.balances;
            set-numbers = f.lengths.set-numbers;
            alives = simp length-set f.lengths.alives;
            signeds = f.lengths.signeds;
            definitions = f.lengths.definitions;
            counts = f.lengths.counts;
            values = f.lengths.values;
            states = f.lengths.states;
            paids = simp length-set f.lengths.paids;
          };
        })

    pub w_taken_by : {p : ℕ} → p ≡ (branch_entry_at (held t) q).arg → Does t l (fire c b) (with_paid l (set l.alive c 0) (set l.paid p (get_or l.paid p 0 + get_or l.balance c 0)))
    w_taken_by e = subst (λ p. Does t l (fire c b) (with_paid l (set l.alive c 0) (set l.paid p (get_or l.paid p 0 + get_or l.balance c 0)))) (sym e) w_taken

-- what the code read makes a branch enabled
pub enabled_by : (t : List ℕ) (l : Book) (c b q : ℕ) {m : ℕ} → c < l.made → alive_at l.alive c ≡ true → b < branch_count (held t) (get_or l.node c 0)
    → q ≡ branch_number (held t) (get_or l.node c 0) b → m ≡ get_or l.signed (c * 16 + b) 0 → 0 ≡ not_yet (people t) (held t) q l.time m → Enabled t l c b q
enabled_by t l c b q h e k eq y z = record { here = h; lives = e; there = k; entry = eq; ready = ap (not_yet (people t) (held t) q l.time) (sym y) ∙ sym z }
