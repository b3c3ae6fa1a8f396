-- How the code's steps through a condition give what the definition says. Assumes nothing.
use Prim.Native.Nat.{ℕ, zero, suc, ◌+◌, ◌*◌, ◌-◌, ◌≤◌, ◌<◌}
use mathlib.Core.Path.{◌≡◌, refl, sym, ◌∙◌, ap, subst}
use mathlib.Core.List.{List}
use mathlib.Core.Bool.{Bool, true, false, false≢true}
use Rattle.std.specs.Prelude.{Some, None, cond, eqb}
use native.Mathlib.Numerals.{sub-one}
use native.Mathlib.Omega.{arith}
use lib.ListN.{length}
use lib.Dec.{leb}
use borrow.Author.Tests.{le-leb, lt-leb, eq-eqb, ne_eqb}
use Rattle.fields.specs.Field.{word_at}
use Rattle.tables.specs.declared.St.{St}
use Rattle.tables.specs.State.{State, state_of, cells_of, more_cells}
use Rattle.tables.proofs.Laws.{cells-length}
use Rattle.tables.specs.Entries.{most_cells}
use Rattle.steps.specs.Steps.{Read}
use Rattle.steps.specs.Steps.{Value, Bad}
use Rattle.steps.specs.Steps.{Outcome, next, bad, either, and_then, twice, moved, OnSt, Met}
use Rattle.steps.proofs.Laws.{Took, Leads, took_word, passed, no', by, promised, called, call_refused}
use Rattle.conditions.specs.Words.{no_word, cell_of, pick, condition_cell, expression_cell}
use Rattle.conditions.specs.Condition.{store_at, constant_at, secret_at, operands_at, expression_with, expression_in, expression_at, clauses_at, condition_with, condition_in, condition_at, HasRoom, Kept, Leaves, Within}

-- ---- counts

module _ {s : List ℕ} where
  pub ready_took : {n : ℕ} {st e : St} → HasRoom s st → Took s n st e → HasRoom s e
  ready_took r k =
      record {
        fits = record { nodes-fit = omega arith; branches-fit = omega arith; defs-fit = omega arith; listed-fit = omega arith; cells_fit = omega arith };
        paid = omega arith;
        inside = omega arith;
        short = omega arith;
      }

  -- a field of two bytes pays for a cell
  pub room : {st e : St} → HasRoom s st → Took s 2 st e → e.cells < most_cells
  room r k = omega arith

  -- as for each before
  pub pays : {st e : St} → HasRoom s st → Took s 2 st e → 2 * (e.cells + 1) ≤ length s
  pays r k = omega arith

  pub kept_stored : {st e q : St} → HasRoom s st → Took s 2 st e → q ≡ more_cells e → Kept s st q
  kept_stored {st} r k h =
      subst (Kept s st) (sym h)
      (record {
        same_nodes = k.nodes;
        same-branches = k.branches;
        same-defs = k.defs;
        same-listed = k.listed;
        more-cells = omega arith;
        paid-cells = omega arith;
        still_inside = omega arith;
      })

  pub ready_kept : {st e : St} → HasRoom s st → Kept s st e → HasRoom s e
  ready_kept r k =
      record {
        fits = record { nodes-fit = omega arith; branches-fit = omega arith; defs-fit = omega arith; listed-fit = omega arith; cells_fit = omega arith };
        paid = omega arith;
        inside = omega arith;
        short = omega arith;
      }

  pub kept_kept : {st e q : St} → Kept s st e → Kept s e q → Kept s st q
  kept_kept k l =
      record {
        same_nodes = l.same_nodes ∙ k.same_nodes;
        same-branches = l.same-branches ∙ k.same-branches;
        same-defs = l.same-defs ∙ k.same-defs;
        same-listed = l.same-listed ∙ k.same-listed;
        more-cells = omega arith;
        paid-cells = l.paid-cells;
        still_inside = l.still_inside;
      }

-- ---- the fields that are left

left_behind : (limit n : ℕ) (e : St) → Leaves limit (Value n e) → e.cells + n ≡ limit
unfolding Leaves
left_behind limit n e h = h

pub leaves-refused : (limit : ℕ) {n p : ℕ} {r : Read} → r ≡ Bad n p → Leaves limit r
unfolding Leaves
leaves-refused limit i = subst (Leaves limit) (sym i) tt

pub leaves-same : {m limit : ℕ} (r : Read) → m ≡ limit → Leaves m r → Leaves limit r
leaves-same r e h = subst (λ n. Leaves n r) e h

-- behind a word or a part that was read with `left` fields to come: n are left, fewer by one for each cell
pub record Behind (s : List ℕ) (left : ℕ) (st : St) (n : ℕ) (e : St) : Type 0 where
  pub kept : Kept s st e
  pub total : e.cells + n ≡ st.cells + left

module _ {s : List ℕ} {st e : St} {left n : ℕ} where
  behind-word : {q : St} {w : Outcome} {t : List ℕ} → HasRoom s st → Took s 2 st e → Met (λ f. f ≡ more_cells e) w (Value n q) t → Leaves (e.cells + left) (Value n q)
      → Behind s left st n q
  behind-word h k m l = record { kept = kept_stored h k (promised m); total = omega (arith, left_behind _ _ _ l, k.cells) }

  pub behind_part : {want : ℕ → ℕ → Outcome} {t : List ℕ} → Within s left st want (Value n e) t → Behind s left st n e
  behind_part w = record { kept = promised (w.met left (omega arith)); total = left_behind _ _ _ w.leaves }

  -- a part of it is read to a depth that is one less
  pub fewer : {d : ℕ} → Behind s left st n e → left ≤ d → n ≤ d - 1
  fewer b h = omega (arith, b.total, b.kept.more-cells)

  some_depth : {d : ℕ} → Behind s left st n e → left ≤ d → 0 < d
  some_depth b h = omega (arith, b.total, b.kept.more-cells)

-- no field is left, as the code tests it
pub none_left : (left n : ℕ) (t : List ℕ) → left ≡ 0 → leb (n + left) (length (cells_of n t)) ≡ true
none_left left n t h = rw cells-length (le-leb (n + left) n (omega (arith, h)))

pub some_left : (left n : ℕ) (t : List ℕ) → (left ≡ 0 → ⊥) → leb (n + left) (length (cells_of n t)) ≡ false
some_left left n t h = rw cells-length (lt-leb (n + left) n (omega (arith, h)))

-- ---- words

cell_when : (b : Bool) (n c : ℕ) → Some c ≡ cond b None (Some n) → (c ≡ n) × (b ≡ false)
cell_when true n c h = let z : ◌≡◌ {A = ℕ} 0 1 = cc in absurd (omega arith)
cell_when false n c h = (cc, refl)

-- a cell that the code has is that of the word, which is one
pub cell_is : (n : ℕ) {c : ℕ} → Some c ≡ cell_of n → (c ≡ n) × (eqb n no_word ≡ false)
cell_is n {c} h = cell_when (eqb n no_word) n c h

no-cell : (b : Bool) (n : ℕ) → None ≡ cond b None (Some n) → b ≡ true
no-cell true n h = refl
no-cell false n h = let z : ◌≡◌ {A = ℕ} 0 1 = cc in absurd (omega arith)

pub no_cell : (n : ℕ) → None ≡ cell_of n → eqb n no_word ≡ true
no_cell n h = no-cell (eqb n no_word) n h

-- the empty word is none
pub expression_bytes : (w : ℕ) → (expression_cell w ≡ no_word → ⊥) → w ≡ 0 → ⊥
unfolding expression_cell pick
expression_bytes w h z = h (rw z)

pub condition-bytes : (w : ℕ) → (condition_cell w ≡ no_word → ⊥) → w ≡ 0 → ⊥
unfolding condition_cell pick
condition-bytes w h z = h (rw z)

module _ {s : List ℕ} {st e : St} {w b : ℕ} where
  pub took_expression : Value w e ≡ moved st (word_at s st.at) → Some b ≡ cell_of (expression_cell w) → Took s 2 st e
  took_expression h c = took_word h (expression_bytes w λ i. false≢true (sym (cell_is _ c).1 ∙ eq-eqb _ _ i))

  pub took_condition : Value w e ≡ moved st (word_at s st.at) → Some b ≡ cell_of (condition_cell w) → Took s 2 st e
  took_condition h c = took_word h (condition-bytes w λ i. false≢true (sym (cell_is _ c).1 ∙ eq-eqb _ _ i))

module _ {s : List ℕ} {st e q : St} {w b left n : ℕ} {x : Outcome} {t : List ℕ} where
  pub behind_expression : HasRoom s st → Value w e ≡ moved st (word_at s st.at) → Some b ≡ cell_of (expression_cell w)
      → Met (λ f. f ≡ more_cells e) x (Value n q) t → Leaves (e.cells + left) (Value n q) → Behind s left st n q
  behind_expression r h c m l = behind-word r (took_expression h c) m l

  pub behind_condition : HasRoom s st → Value w e ≡ moved st (word_at s st.at) → Some b ≡ cell_of (condition_cell w)
      → Met (λ f. f ≡ more_cells e) x (Value n q) t → Leaves (e.cells + left) (Value n q) → Behind s left st n q
  behind_condition r h c m l = behind-word r (took_condition h c) m l

-- ---- what follows a word, by the depth d and by its cell, b in the code; m is the limit as the code has it

module _ {P Q : St → Type 0} {m n q j : ℕ} {r : Read} {t : List ℕ} where
  -- no field is left for it: the limit says what depth 0 says
  no_depth : (p b : ℕ) (a : State) → length a.cells ≡ j → m ≤ j → Met Q (store_at m p b a) (Bad n q) t → r ≡ Bad n q → Met P (bad 7 p) r t
  unfolding store_at either OnSt
  no_depth p b a g h i k = record { same = rw k (i.same ∙ rw (g, le-leb m j h)); holds = subst (OnSt P) (sym k) tt }

  module _ (s : List ℕ) {limit : ℕ} (from : ℕ) where
    pub expression_none : (d p c b : ℕ) (a : State) → m ≡ limit → b ≡ c → length a.cells ≡ j → limit ≤ j + d → Met Q (store_at m p b a) (Bad n q) t → r ≡ Bad n q
        → Met P (expression_in s limit from d p c a) r t
    unfolding expression_in
    expression_none zero p c b a e f g h i k = no_depth p b a g (omega arith) i k
    expression_none (suc d) p c b a e f g h i k = rw (← e, ← f) (call_refused _ i k)

    pub condition-none : (d p c b : ℕ) (a : State) → m ≡ limit → b ≡ c → length a.cells ≡ j → limit ≤ j + d → Met Q (store_at m p b a) (Bad n q) t → r ≡ Bad n q
        → Met P (condition_in s limit from d p c a) r t
    unfolding condition_in
    condition-none zero p c b a e f g h i k = no_depth p b a g (omega arith) i k
    condition-none (suc d) p c b a e f g h i k = rw (← e, ← f) (call_refused _ i k)

module _ {P : St → Type 0} {m limit : ℕ} where
  pub store_within : (p v : ℕ) (a : State) → m ≡ limit → Leads P (store_at m p v a) (store_at limit p v a)
  store_within p v a e r t i = by (ap (λ n. store_at n p v a) e) i

  module _ (s : List ℕ) (from : ℕ) where
    expression_more : (d p c b : ℕ) (a : State) → m ≡ limit → b ≡ c → 0 < d
        → Leads P (and_then (store_at m p b a) (operands_at s limit from (expression_at s limit from (d - 1)) b)) (expression_in s limit from d p c a)
    unfolding expression_in expression_at
    expression_more zero p c b a e f h r t i = absurd (omega arith)
    expression_more (suc d) p c b a e f h r t i = simp (sub-one) at (rw (e, f) at i)

    condition-more : (d p c b : ℕ) (a : State) → m ≡ limit → b ≡ c → 0 < d
        → Leads P (and_then (store_at m p b a) (clauses_at (condition_at s limit from (d - 1)) (expression_at s limit from (d - 1)) b)) (condition_in s limit from d p c a)
    unfolding condition_in condition_at
    condition-more zero p c b a e f h r t i = absurd (omega arith)
    condition-more (suc d) p c b a e f h r t i = simp (sub-one) at (rw (e, f) at i)

    -- a part
    pub expression_within : (d : ℕ) (a : State) → m ≡ limit → Leads P (expression_at s m from d a) (expression_at s limit from d a)
    expression_within d a e r t i = by (ap (λ n. expression_at s n from d a) e) i

    pub condition-within : (d : ℕ) (a : State) → m ≡ limit → Leads P (condition_at s m from d a) (condition_at s limit from d a)
    condition-within d a e r t i = by (ap (λ n. condition_at s n from d a) e) i

    pub both-within : (d : ℕ) (a : State) → m ≡ limit → Leads P (twice (expression_at s m from d) a) (twice (expression_at s limit from d) a)
    both-within d a e r t i = by (ap (λ n. twice (expression_at s n from d) a) e) i

    module _ (E : State → Outcome) (c : ℕ) (a : State) where
      pub operands_k : m ≡ limit → c ≡ 0 → Leads P (constant_at s m a) (operands_at s limit from E c a)
      unfolding operands_at either
      operands_k e h r t i = rw (← e, h) i

      pub operands_v : m ≡ limit → c ≡ 1 → Leads P (secret_at s m from a) (operands_at s limit from E c a)
      unfolding operands_at either
      operands_v e h r t i = rw (← e, h) i

module _ {P : St → Type 0} (s : List ℕ) (limit from : ℕ) (E : State → Outcome) (c : ℕ) (a : State) where
  pub operands_two : (c ≡ 0 → ⊥) → (c ≡ 1 → ⊥) → Leads P (twice E a) (operands_at s limit from E c a)
  unfolding operands_at either
  operands_two h i r t m = rw (ne_eqb c 0 h, ne_eqb c 1 i) m

module _ {P : St → Type 0} (C E : State → Outcome) (c : ℕ) (a : State) where
  pub clauses_t : c ≡ 0 → Leads P (next a) (clauses_at C E c a)
  unfolding clauses_at either
  clauses_t h r t m = rw h m

  pub clauses_and : c ≡ 1 → Leads P (twice C a) (clauses_at C E c a)
  unfolding clauses_at either
  clauses_and h r t m = rw h m

  pub clauses_not : c ≡ 2 → Leads P (C a) (clauses_at C E c a)
  unfolding clauses_at either
  clauses_not h r t m = rw h m

  -- `eq` and `lt`: both have two expressions
  pub clauses_two : (c ≡ 0 → ⊥) → (c ≡ 1 → ⊥) → (c ≡ 2 → ⊥) → Leads P (twice E a) (clauses_at C E c a)
  unfolding clauses_at either
  clauses_two h i j r t m = rw (ne_eqb c 0 h, ne_eqb c 1 i, ne_eqb c 2 j) m

-- a word is read and its cell stored, and its parts follow
module _ {P Q : St → Type 0} {s : List ℕ} {st e f : St} {w b n : ℕ} {r : Read} {t' u : List ℕ} (left from d : ℕ) (t : List ℕ) where
  pub expression_word_lem : Value w e ≡ moved st (word_at s st.at) → Some b ≡ cell_of (expression_cell w)
      → Met Q (store_at (e.cells + left) st.at b (state_of e t)) (Value n f) t' → Behind s left st n f → left ≤ d
      → Met P (operands_at s (st.cells + left) from (expression_at s (st.cells + left) from (d - 1)) b (state_of f t')) r u
      → Met P (expression_at s (st.cells + left) from d (state_of st t)) r u
  unfolding expression_at expression_with
  expression_word_lem h c m b g x =
      passed _ _ _ _ h (no' _ (cell_is _ c).1 (expression_more _ _ d _ _ _ _ (ap (λ n. n + left) (took_expression h c).cells) (cell_is _ c).0 (some_depth b g) _ _ (called _ m x)))

  pub condition-word : Value w e ≡ moved st (word_at s st.at) → Some b ≡ cell_of (condition_cell w)
      → Met Q (store_at (e.cells + left) st.at b (state_of e t)) (Value n f) t' → Behind s left st n f → left ≤ d
      → Met P (clauses_at (condition_at s (st.cells + left) from (d - 1)) (expression_at s (st.cells + left) from (d - 1)) b (state_of f t')) r u
      → Met P (condition_at s (st.cells + left) from d (state_of st t)) r u
  unfolding condition_at condition_with
  condition-word h c m b g x =
      passed _ _ _ _ h (no' _ (cell_is _ c).1 (condition-more _ _ d _ _ _ _ (ap (λ n. n + left) (took_condition h c).cells) (cell_is _ c).0 (some_depth b g) _ _ (called _ m x)))
