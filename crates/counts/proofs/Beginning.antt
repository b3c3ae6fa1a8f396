-- The ledger at stipulation. Assumes nothing.
use Prim.Native.Nat.{ℕ, zero, suc, ◌+◌, ◌*◌, ◌-◌, ◌≤◌, ◌<◌}
use mathlib.Core.Path.{◌≡◌, refl, sym, ap, ap₂, ◌∙◌, subst}
use mathlib.Core.List.{List, [], ◌∷◌, map}
use native.Mathlib.Omega.{arith}
use mathlib.Core.Logic.{by_cases}
use native.Mathlib.Decide.{dec_le}
use lib.ListN.{get_or, set, length, replicate, length-set, length-replicate, get_or-eq_default}
use lib.Seq.{ext_get_or, get_or-set_same, get_or-set_other}
use lib.Dec.{eqb}
use Rattle.bitml.specs.Lists.{sum}
use Rattle.bitml.specs.Sheet.{def_at}
use Rattle.bitml.specs.Ledger.{Commitment, commit, new_contract, stipulated}
use Rattle.bitml.specs.Ledger.{Ledger as Plain}
use Rattle.bitml.specs.Limits.{deposits_taken}
use Rattle.bitml.specs.Balance.{locked}
use Rattle.bitml.proofs.Lists.{at_set, at-replicate}
use Rattle.tables.specs.Entries.{held, people, first_of}
use Rattle.tables.specs.SheetOf.{def_entry_at, sheet_of, sheet_in}
use Rattle.tables.proofs.SheetOf.{root_is, deposits-are}
use Rattle.tables.proofs.Runs.{first_of_agree, first_of-length, first_of_get_d}
use Rattle.sheets.specs.Ready.{Ready}
use Rattle.duties.specs.Duties.{deposits_of, committed, state_of}
use Rattle.duties.proofs.Sums.{deposits-most}
use Rattle.pages.specs.Pages.{Pages, size, start, cells_long, pages_in, with_contract, with_set, nodes, balances, set_numbers, lives, definitions, secret_counts, states, values, payments, signatures}
use Rattle.pages.proofs.Laws.{page_long, page_at}
use Rattle.counts.specs.declared.Counts.{Counts}
use Rattle.counts.specs.Book.{Book, book}
use Rattle.counts.specs.View.{view, contract_of, set_of, secret_of, commitment_of}
use Rattle.counts.specs.Does.{Begins}
use Rattle.counts.specs.Steps.{with_secrets, Stored, Stores}
use Rattle.counts.proofs.Making.{unsigned, contract-eq, put_all}
use Rattle.counts.proofs.Storing.{commitments_are, stored-book, stores_same}

zeros_are : (n : ℕ) (f : ℕ → ℕ) → ((i : ℕ) → f i ≡ 0) → first_of f n ≡ replicate n 0
zeros_are n f h =
    ext_get_or 0 (first_of f n) (replicate n 0) (first_of-length f n ∙ sym (length-replicate {A = ℕ} n 0))
    (λ i l. first_of_get_d f n i 0 (subst (λ m. i < m) (first_of-length f n) l) ∙ h i ∙ sym (at-replicate n i 0))

sum_zeros : (n : ℕ) → sum (replicate n 0) ≡ 0
sum_zeros zero = refl
sum_zeros (suc n) = let h = sum_zeros n in omega arith

-- cells that were never written
pub cells-long : {C : List ℕ} → C ≡ replicate cells_long 0 → cells_long ≤ length C
cells-long e = rw e (let z = length-replicate {A = ℕ} cells_long 0 in omega arith)

pub blank-at : (s k : ℕ) → get_or (pages_in (replicate cells_long 0) s) k 0 ≡ 0
blank-at s k =
    by_cases (dec_le (size s) k)
    (λ h. get_or-eq_default (pages_in (replicate cells_long 0) s) 0 {n = k} (rw (page_long (replicate cells_long 0) s) h))
    (λ h. page_at (replicate cells_long 0) s k (omega arith) ∙ at-replicate cells_long (start s + k) 0)

module _ (t vs : List ℕ) (ok : Ready t) (ev : length vs ≡ (def_entry_at (held t) 0).secrets) (P : Pages) (long : (s : ℕ) → length (P s) ≡ size s) (blank : (s k : ℕ) → get_or (P s) k 0 ≡ 0) where
  abbrev root : ℕ
  root = (def_entry_at (held t) 0).root

  abbrev total : ℕ
  total = deposits_of (people t) (held t) 0

  abbrev first : Counts
  first = record { answer = 0; time = 0; made = 1; sets = 1; taken = total }

  abbrev O : Book
  O = book first (with_set 0 0 (length vs) (with_contract 0 root total 0 P))

  module _ (st va : List ℕ) (s : Stored (P states) (P values) 0 vs (length vs) st va) where
    abbrev R : Book
    R = with_secrets O st va

    some : (s : ℕ) → 0 < size s → 0 < length (P s)
    some s h = omega (arith, long s)

    set_is : set_of R 0 ≡ record { definition = 0; secrets = map commit (committed vs) }
    unfolding size
    set_is = ap₂ (λ (d : ℕ) (xs : List Commitment). record { definition = d; secrets = xs })
        (get_or-set_same (P definitions) 0 0 0 (some definitions (omega arith)))
        (ap (λ n. first_of (secret_of R 0) n) (get_or-set_same (P secret_counts) 0 (length vs) 0 (some secret_counts (omega arith)))
        ∙ first_of_agree (secret_of R 0) (λ j. commitment_of (state_of (get_or vs j 0)) (get_or vs j 0 - 1)) (length vs) (λ j h. ap₂ commitment_of (s.here j h).0 (s.here j h).1)
        ∙ sym (commitments_are vs))

    deposits-sum : sum (def_at (sheet_in t) 0).deposits ≡ total
    unfolding deposits_of
    deposits-sum = ap (λ xs. sum xs) (deposits-are (people t) (held t) 0 ok.promises.limits.defs.0)

    contract-is : contract_of R 0 ≡ new_contract (def_at (sheet_in t) 0).root (sum (def_at (sheet_in t) 0).deposits) 0
    unfolding size
    contract-is = contract-eq
        (get_or-set_same (P nodes) 0 root 0 (some nodes (omega arith)) ∙ sym (root_is (people t) (held t) 0 ok.promises.limits.defs.0))
        (get_or-set_same (P balances) 0 total 0 (some balances (omega arith)) ∙ sym deposits-sum)
        (get_or-set_same (P set_numbers) 0 0 0 (some set_numbers (omega arith)))
        (unsigned (P signatures) 0 (λ k h. blank signatures k))
        (ap (λ x. eqb x 1) (get_or-set_same (P lives) 0 1 0 (some lives (omega arith))))

    begin_view : view (people t) R ≡ stipulated (sheet_in t) (committed vs)
    unfolding view stipulated first_of sheet_of
    begin_view = λ k. record {
      time = 0;
      contracts = contract-is k ∷ [];
      sets = set_is k ∷ [];
      paid = zeros_are (people t) (λ p. get_or (P payments) p 0) (blank payments) k;
    }

    money : locked (view (people t) R).contracts + sum (view (people t) R).paid ≡ total
    unfolding stipulated sheet_of
    money = ap (λ (x : Plain). locked x.contracts + sum x.paid) begin_view ∙ (let z = sum_zeros (people t) in let y = deposits-sum in omega arith)

    taken_is : deposits_taken (sheet_in t) (view (people t) R) ≡ total
    unfolding stipulated deposits_taken
    taken_is = ap (λ (x : Plain). deposits_taken (sheet_in t) x) begin_view ∙ (let y = deposits-sum in omega arith)

    -- behind the first contract and the first set nothing is made
    other : (s x k : ℕ) → 1 ≤ k → get_or (set (P s) 0 x) k 0 ≡ 0
    other s x k h = get_or-set_other (P s) 0 k x 0 (λ e. omega arith) ∙ blank s k

    free-secrets : (i j : ℕ) → get_or (set (P secret_counts) 0 (length vs)) i 0 ≤ j → j < 8 → get_or st (i * 8 + j) 0 ≡ 0
    unfolding size
    free-secrets zero j k h = (s.other (0 * 8 + j) (λ j' q e. (let z = get_or-set_same (P secret_counts) 0 (length vs) 0 (some secret_counts (omega arith)) in omega arith))).0 ∙ blank states (0 * 8 + j)
    free-secrets (suc i) j k h = (s.other (suc i * 8 + j) (λ j' q e. omega (arith, ev, (ok.promises.def 0 ok.promises.limits.defs.0).secrets))).0 ∙ blank states (suc i * 8 + j)

    begins : Begins t vs R
    unfolding size
    begins = record {
      answer = refl;
      plain = begin_view;
      fit = record {
        made = omega arith;
        sets = omega arith;
        time = omega arith;
        taken = deposits-most (people t) (held t) 0 ok.promises ok.promises.limits.defs.0;
        deposits = taken_is;
        total = money;
        node = λ c h. put_all (λ x. x < length (held t).nodes) (P nodes) 0 root (λ j k. absurd (omega arith)) (ok.promises.def 0 ok.promises.limits.defs.0).root (some nodes (omega arith)) c (omega arith);
        set = λ c h. at_set (λ x. x < 1) (P set_numbers) 0 c 0 0 (let z = blank set_numbers c in omega arith) (λ _. omega arith);
        count = λ i h. at_set (λ x. x ≤ 8) (P secret_counts) 0 i (length vs) 0 (let z = blank secret_counts i in omega arith) (λ _. omega (arith, (ok.promises.def 0 ok.promises.limits.defs.0).secrets));
        value = s.small (λ k. (let z = blank values k in omega arith));
        masks = λ k. (let z = blank signatures k in omega arith);
        blank = s.blank (λ k e. blank values k);
        fresh = λ k h. blank signatures k;
        free = record {
          nodes = other nodes root;
          balances = other balances total;
          set-numbers = other set_numbers 0;
          alives = other lives 1;
          live-or-dead = λ c. at_set (λ x. x ≤ 1) (P lives) 0 c 1 0 (let z = blank lives c in omega arith) (λ _. omega arith);
        };
        free-sets = record {
          definitions = other definitions 0;
          counts = other secret_counts (length vs);
          secrets = free-secrets;
          three_states = s.three_states (λ k. (let z = blank states k in omega arith));
        };
        unpaid = λ p h. blank payments p;
        lengths = record {
          nodes = simp length-set (long nodes);
          balances = simp length-set (long balances);
          set-numbers = simp length-set (long set_numbers);
          alives = simp length-set (long lives);
          signeds = long signatures;
          definitions = simp length-set (long definitions);
          counts = simp length-set (long secret_counts);
          values = s.values;
          states = s.states;
          paids = long payments;
        };
      };
    }

-- over what the code read, and from cells that are still zero
pub begins_by : (t vs : List ℕ) → Ready t → {n : ℕ} → length vs ≡ n → n ≡ (def_entry_at (held t) 0).secrets → {r d : ℕ} → r ≡ (def_entry_at (held t) 0).root → d ≡ deposits_of (people t) (held t) 0
    → {P Q : Pages} → P ≡ with_set 0 0 n (with_contract 0 r d 0 (pages_in (replicate cells_long 0))) → Stores P 0 vs n Q
    → Begins t vs (book (record { answer = 0; time = 0; made = 1; sets = 1; taken = d }) Q)
begins_by t vs ok {n} el ev er ed {Q = Q} eP s =
    let Z = pages_in (replicate cells_long 0) in
    let D = deposits_of (people t) (held t) 0 in
    let e = eP ∙ ap₂ (λ r d. with_set 0 0 n (with_contract 0 r d 0 Z)) er ed ∙ ap (λ n. with_set 0 0 n (with_contract 0 (def_entry_at (held t) 0).root D 0 Z)) (sym el) in
    let s' = subst (λ P. Stores P 0 vs (length vs) Q) e (stores_same (sym el) s) in
    subst (λ d. Begins t vs (book (record { answer = 0; time = 0; made = 1; sets = 1; taken = d }) Q)) (sym ed)
    (subst (λ x. Begins t vs x) (sym (stored-book (record { answer = 0; time = 0; made = 1; sets = 1; taken = D }) s'))
    (begins t vs ok (el ∙ ev) Z (page_long (replicate cells_long 0)) blank-at (Q states) (Q values) s'.secrets))
