-- Numbers that are listed one behind the other: deposits, owners, the secrets of an `r`. Assumes nothing.
use Prim.Native.Nat.{ℕ, zero, suc, ◌+◌, ◌≤◌, ◌<◌}
use mathlib.Core.Path.{◌≡◌, refl, sym, ap, ap₂, ◌∙◌, subst}
use mathlib.Core.List.{List, [], ◌∷◌, ◌++◌, map, append_assoc, append-nil}
use native.Mathlib.Omega.{arith}
use lib.ListN.{length, get_or, length-append, get_or-append}
use lib.Seq.{get_or-append-add}
use Rattle.bitml.specs.Lists.{up_from}
use Rattle.fields.specs.Field.{number_at, any_number}
use Rattle.fields.specs.Field.{Value}
use Rattle.fields.proofs.Laws.{number-end}
use Rattle.tables.specs.Entries.{Entries}
use Rattle.tables.specs.SheetOf.{listed_at}
use Rattle.tables.specs.State.{State, entries, with_listed}
use Rattle.steps.specs.Steps.{Outcome, to_place, times}
use Rattle.steps.proofs.Ends.{Ends, good, refused, ends-map, ends-field, ends_test, ends_then}
use Rattle.contracts.specs.Contract.{list_at}
use Rattle.lines.specs.Definition.{deposits_at, owner_at}
use Rattle.texts.specs.Text.{field, fields}
use Rattle.writing.proofs.Fields.{between, between_join, field_back}
use Rattle.writing.proofs.Says.{Starts, Grown, starts_same, between_none}
use Rattle.spelling.proofs.Covering.{Covers, silent, span, span_none}

-- a state with more numbers listed
abbrev pub listing : ℕ → List ℕ → State → State
listing e vs a = record { at = e; nodes = a.nodes; branches = a.branches; defs = a.defs; listed = a.listed ++ vs; cells = a.cells }

-- from a to b n numbers were read, and listed
pub record Listed (s : List ℕ) (n : ℕ) (a b : State) : Type 0 where
  pub values : List ℕ
  pub count : length values ≡ n
  pub on : a.at ≤ b.at
  pub same : b ≡ listing b.at values a
  pub text : fields values ≡ between s a.at b.at

module _ (s : List ℕ) where
  listed-none : (a : State) → Listed s 0 a a
  unfolding fields
  listed-none a =
      record {
        values = [];
        count = refl;
        on = omega arith;
        same = ap (λ l. record { at = a.at; nodes = a.nodes; branches = a.branches; defs = a.defs; listed = l; cells = a.cells }) (sym (append-nil a.listed));
        text = between_none s a.at;
      }

  listed_more : (max v e n : ℕ) (a c : State) → number_at s a.at max ≡ Value v e → Listed s n (with_listed v (to_place a e)) c → Listed s (suc n) a c
  unfolding fields
  listed_more max v e n a c q x =
      let h : a.at ≤ e = omega (arith, (number-end s a.at max v e q).0) in
      record {
        values = v ∷ x.values;
        count = ap suc x.count;
        on = omega (arith, h, x.on);
        same = x.same ∙ ap (λ l. record { at = c.at; nodes = a.nodes; branches = a.branches; defs = a.defs; listed = l; cells = a.cells }) (append_assoc a.listed (v ∷ []) x.values);
        text = ap₂ (λ xs ys. xs ++ ys) (field_back s a.at max v e q) x.text ∙ between_join s a.at e c.at h x.on;
      }

  -- a number more, and so many
  abbrev One : State → State → Type 0
  One a b = (v : ℕ) × (e : ℕ) × (number_at s a.at any_number ≡ Value v e) × (b ≡ with_listed v (to_place a e))

  listed-times : (f : State → Outcome) → ((a : State) → Ends (One a) (f a)) → (n : ℕ) (a : State) → Ends (Listed s n a) (times n f a)
  unfolding times
  listed-times f h zero a = good (listed-none a)
  listed-times f h (suc n) a =
      ends_then _ _ (h a) λ b x. ends-map (listed-times f h n b) λ c y.
      listed_more any_number x.0 x.1 n a c x.2 (subst (λ b. Listed s n b c) x.3 y)

  -- "`r`, count, secrets"
  pub secrets-listed : (secrets from n : ℕ) (a : State) → Ends (Listed s n a) (times n (list_at s secrets from) a)
  unfolding list_at
  secrets-listed secrets from =
      listed-times (list_at s secrets from) λ a. ends-field a _ _ λ v e q. ends_test _ _ _ (λ t. refused) λ t. ends_test _ _ _ (λ t. refused) λ t. good (v, e, q, refl)

  -- "each secret's owner"
  pub owners-listed : (people n : ℕ) (a : State) → Ends (Listed s n a) (times n (owner_at s people) a)
  unfolding owner_at
  owners-listed people = listed-times (owner_at s people) λ a. ends-field a _ _ λ v e q. ends_test _ _ _ (λ t. good (v, e, q, refl)) (λ t. refused)

  -- "K deposits in satoshi"
  pub deposits-listed : (sum n : ℕ) (a : State) → Ends (Listed s n a) (deposits_at s sum n a)
  unfolding deposits_at
  deposits-listed sum zero a = good (listed-none a)
  deposits-listed sum (suc n) a =
      ends-field a _ _ λ v e q. ends_test _ _ _ (λ t. refused) λ t.
      ends-map (deposits-listed (sum + v) n (with_listed v (to_place a e))) λ c y. listed_more 2100000000000000 v e n a c q y

-- ---- and are found there

pub listed_grown : {s : List ℕ} {n : ℕ} {a b : State} → Listed s n a b → Grown (entries a) (entries b)
listed_grown {a = a} {b = b} x =
    subst (λ (c : State). Grown (entries a) (entries c)) (sym x.same)
    (record {
      nodes = starts_same a.nodes;
      branches = starts_same a.branches;
      defs = starts_same a.defs;
      listed = record { rest = x.values; is = refl };
      cells = starts_same a.cells;
    })

pub listed-covers : (s : List ℕ) (K : ℕ) {n : ℕ} {a b : State} → (x : Listed s n a b) → Covers s K (λ E. fields x.values) silent a b
listed-covers s K {a = a} {b = b} x =
    record {
      on = x.on;
      grown = listed_grown x;
      text = λ E h p. x.text;
      nodes = λ E h p. span_none (length a.nodes) ∙ ap (λ (c : State). span (length a.nodes) (length c.nodes)) (sym x.same);
    }

-- a list is what a function gives for as many numbers from k on
map_is : (f : ℕ → ℕ) (vs : List ℕ) (k n : ℕ) → length vs ≡ n → ((i m : ℕ) → m ≡ k + i → i < n → f m ≡ get_or vs i 0) → map f (up_from k n) ≡ vs
map_is f [] k zero e h = refl
map_is f [] k (suc n) e h = absurd (omega (arith, e))
map_is f (v ∷ vs) k zero e h = absurd (omega (arith, e))
map_is f (v ∷ vs) k (suc n) e h =
    ap₂ ◌∷◌ (h 0 k (omega arith) (omega arith)) (map_is f vs (suc k) n (omega (arith, e)) (λ i m q l. h (suc i) m (omega (arith, q)) (omega (arith, l))))

module _ {s : List ℕ} {n : ℕ} {a b : State} (x : Listed s n a b) (E : Entries) (h : Grown (entries b) E) where
  listed-at : (i : ℕ) → i < n → listed_at E (length a.listed + i) ≡ get_or x.values i 0
  listed-at i l =
      let e : E.listed ≡ (a.listed ++ x.values) ++ h.listed.rest = h.listed.is ∙ ap (λ (c : State). c.listed ++ h.listed.rest) x.same in
      let y = length-append a.listed x.values in
      ap (λ l. get_or l (length a.listed + i) 0) e
      ∙ get_or-append (a.listed ++ x.values) h.listed.rest 0 (length a.listed + i) (omega (arith, y, l, x.count))
      ∙ get_or-append-add a.listed x.values i 0

  -- numbers that are found from where they are listed on: f is where, from k on
  pub listed-are : (f : ℕ → ℕ) (k : ℕ) → ((i m : ℕ) → m ≡ k + i → f m ≡ length a.listed + i) → map (λ m. listed_at E (f m)) (up_from k n) ≡ x.values
  listed-are f k g = map_is (λ m. listed_at E (f m)) x.values k n x.count (λ i m q l. ap (listed_at E) (g i m q) ∙ listed-at i l)
