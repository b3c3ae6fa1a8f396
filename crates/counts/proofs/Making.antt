-- Making a contract: what it does to the list of contracts, and what it leaves in order. Assumes nothing.
use Prim.Native.Nat.{ℕ, ◌+◌, ◌*◌, ◌/◌, ◌%◌, ◌^◌, ◌≤◌, ◌<◌}
use mathlib.Core.Bool.{Bool, false}
use mathlib.Core.Path.{◌≡◌, refl, ap, ◌∙◌, fun_ext}
use mathlib.Core.List.{List, [], ◌∷◌, ◌++◌}
use native.Mathlib.Omega.{arith}
use lib.ListN.{get_or, set, length, length-set}
use lib.Seq.{get_or-set_same, get_or-set_other}
use lib.Dec.{eqb}
use borrow.Author.Tests.{ne_eqb}
use Rattle.bitml.specs.Ledger.{Contract, new_contract}
use Rattle.bitml.proofs.Lists.{at_set, and_no}
use Rattle.bitml.proofs.Counting.{at_store}
use Rattle.tables.specs.Entries.{held, first_of}
use Rattle.tables.proofs.Runs.{first_of-more}
use Rattle.sheets.proofs.Bits.{bit, none-zero}
use Rattle.counts.specs.Book.{Book}
use Rattle.counts.specs.View.{contract_of, signed_by}
use Rattle.counts.specs.Fit.{Fit}
use Rattle.counts.specs.Steps.{Contracts}
use Rattle.counts.proofs.Updates.{dying, pushed}
use Rattle.counts.proofs.Firing.{dying_free}

abbrev contract_by : ℕ → ℕ → ℕ → (ℕ → ℕ → Bool) → Bool → Contract
contract_by n v i s a = record { node = n; balance = v; set = i; signed = s; alive = a }

pub contract-eq : {n n' v v' i i' : ℕ} {s s' : ℕ → ℕ → Bool} {a a' : Bool} → n ≡ n' → v ≡ v' → i ≡ i' → s ≡ s' → a ≡ a' → contract_by n v i s a ≡ contract_by n' v' i' s' a'
contract-eq e1 e2 e3 e4 e5 = λ k. record { node = e1 k; balance = e2 k; set = e3 k; signed = e4 k; alive = e5 k }

pub dying_fits : {t : List ℕ} {l : Book} (c : ℕ) → Fit t l → Contracts t (dying l c)
dying_fits c f = record {
  made = f.made;
  node = f.node;
  set = f.set;
  fresh = f.fresh;
  free = dying_free c f.free;
  lengths = record {
    nodes = f.lengths.nodes;
    balances = f.lengths.balances;
    set-numbers = f.lengths.set-numbers;
    alives = simp length-set f.lengths.alives;
    signeds = f.lengths.signeds;
    definitions = f.lengths.definitions;
    counts = f.lengths.counts;
    values = f.lengths.values;
    states = f.lengths.states;
    paids = f.lengths.paids;
  };
}

-- the first n and one more
pub put_all : (Q : ℕ → Type 0) (xs : List ℕ) (n y : ℕ) → ((j : ℕ) → j < n → Q (get_or xs j 0)) → Q y → n < length xs → (j : ℕ) → j < n + 1 → Q (get_or (set xs n y) j 0)
put_all Q xs n y f q h j k = at_store Q xs n j y 0 h (λ ne. f j (omega (arith, ne))) (λ e. q)

pub unsigned : (masks : List ℕ) (c : ℕ) → ((k : ℕ) → c * 16 ≤ k → get_or masks k 0 ≡ 0) → signed_by masks c ≡ λ b p. false
unfolding signed_by
unsigned masks c f = fun_ext λ b. fun_ext λ p.
    and_no _ _ (ap (λ x. eqb (x / 2 ^ p % 2) 1) (f (c * 16 + b) (omega arith)) ∙ ne_eqb (bit 0 p) 1 (λ (e : bit 0 p ≡ 1). let z = none-zero p in omega arith))

module _ (t : List ℕ) (l : Book) (n v i : ℕ) (h : Contracts t l) (room : l.made < 256) where
  -- behind the contract that is made nothing is
  behind : (xs : List ℕ) (x : ℕ) → ((c : ℕ) → l.made ≤ c → get_or xs c 0 ≡ 0) → (c : ℕ) → l.made + 1 ≤ c → get_or (set xs l.made x) c 0 ≡ 0
  behind xs x f c k = get_or-set_other xs l.made c x 0 (λ e. omega arith) ∙ f c (omega arith)

  pub pushed_fits : n < length (held t).nodes → i < l.sets → Contracts t (pushed l n v i)
  pushed_fits hn hi = record {
    made = omega arith;
    node = put_all (λ x. x < length (held t).nodes) l.node l.made n h.node hn (omega (arith, h.lengths.nodes));
    set = put_all (λ x. x < l.sets) l.set l.made i h.set hi (omega (arith, h.lengths.set-numbers));
    fresh = λ k q. h.fresh k (omega arith);
    free = record {
      nodes = behind l.node n h.free.nodes;
      balances = behind l.balance v h.free.balances;
      set-numbers = behind l.set i h.free.set-numbers;
      alives = behind l.alive 1 h.free.alives;
      live-or-dead = λ c. at_set (λ x. x ≤ 1) l.alive l.made c 1 0 (h.free.live-or-dead c) (λ _. omega arith);
    };
    lengths = record {
      nodes = simp length-set h.lengths.nodes;
      balances = simp length-set h.lengths.balances;
      set-numbers = simp length-set h.lengths.set-numbers;
      alives = simp length-set h.lengths.alives;
      signeds = h.lengths.signeds;
      definitions = h.lengths.definitions;
      counts = h.lengths.counts;
      values = h.lengths.values;
      states = h.lengths.states;
      paids = h.lengths.paids;
    };
  }

  pub pushed_are : first_of (contract_of (pushed l n v i)) (l.made + 1) ≡ first_of (contract_of l) l.made ++ (new_contract n v i ∷ [])
  pushed_are =
      first_of-more (contract_of (pushed l n v i)) (contract_of l) l.made (new_contract n v i)
      (λ j k. let ne : j ≡ l.made → ⊥ = λ e. omega arith in
      contract-eq (get_or-set_other l.node l.made j n 0 ne) (get_or-set_other l.balance l.made j v 0 ne) (get_or-set_other l.set l.made j i 0 ne) refl (ap (λ x. eqb x 1) (get_or-set_other l.alive l.made j 1 0 ne)))
      (contract-eq (get_or-set_same l.node l.made n 0 (omega (arith, h.lengths.nodes))) (get_or-set_same l.balance l.made v 0 (omega (arith, h.lengths.balances))) (get_or-set_same l.set l.made i 0 (omega (arith, h.lengths.set-numbers)))
      (unsigned l.signed l.made h.fresh) (ap (λ x. eqb x 1) (get_or-set_same l.alive l.made 1 0 (omega (arith, h.lengths.alives)))))
