-- Reading a condition keeps the state good: only cells are added, one or more, each within its range. Assumes nothing.
use Prim.Native.Nat.{ℕ, zero, suc, ◌*◌, ◌≤◌}
use mathlib.Core.Path.{◌≡◌, subst}
use mathlib.Core.List.{List}
use mathlib.Core.Bool.{Bool, true, false}
use native.Mathlib.Omega.{arith}
use lib.ListN.{length}
use borrow.Author.Tests.{eqb-false}
use Rattle.tables.specs.Entries.{NodeEntry, DefEntry}
use Rattle.tables.specs.State.{State, among, since}
use Rattle.steps.specs.Steps.{Outcome, to_place, twice}
use Rattle.conditions.specs.Words.{pick, condition_cell, expression_cell}
use Rattle.conditions.specs.Condition.{store_at, constant_at, clauses_at, secret_at, operands_at, expression_with, expression_in, expression_at, condition_with, condition_in, condition_at}
use Rattle.conditions.proofs.Laws.{expression_bytes, condition-bytes}
use Rattle.steps.proofs.Ends.{Ends, good, refused, ends_test, ends_then}
use Rattle.ranges.proofs.Lists.{length_more}
use Rattle.ranges.proofs.Good.{Good, number_goes, word_goes, good_cell}

-- ---- words have small cells

pick-most : (m : ℕ) (b : Bool) (x y : ℕ) → x ≤ m → y ≤ m → pick b x y ≤ m
unfolding pick
pick-most m true x y h i = h
pick-most m false x y h i = i

condition-small : (w : ℕ) → condition_cell w ≤ 5
unfolding condition_cell
condition-small w =
    pick-most 5 _ _ _ (omega arith)
    (pick-most 5 _ _ _ (omega arith)
    (pick-most 5 _ _ _ (omega arith)
    (pick-most 5 _ _ _ (omega arith)
    (pick-most 5 _ _ _ (omega arith) (omega arith)))))

expression_small : (w : ℕ) → expression_cell w ≤ 5
unfolding expression_cell
expression_small w =
    pick-most 5 _ _ _ (omega arith)
    (pick-most 5 _ _ _ (omega arith)
    (pick-most 5 _ _ _ (omega arith)
    (pick-most 5 _ _ _ (omega arith) (omega arith))))

-- ---- the condition of an `r` whose secrets are listed from `from` on, in xs, each of them small

-- the listed numbers are xs still, and there are f cells or more
pub record Celled (s : List ℕ) (K F : ℕ) (ds : List DefEntry) (ns : List NodeEntry) (m n : ℕ) (xs : List ℕ) (f : ℕ) (a : State) : Type 0 where
  pub state : Good s K F ds ns m n a
  pub same-listed : a.listed ≡ xs
  pub more : f ≤ length a.cells

module _ (s : List ℕ) (K F : ℕ) (ds : List DefEntry) (ns : List NodeEntry) (m n from : ℕ) (xs : List ℕ) (limit : ℕ)
    (small : (v : ℕ) → among v (since from xs) ≡ true → v ≤ 1000000000) where
  -- there stay f cells or more
  abbrev Keeps : (State → Outcome) → Type 0
  Keeps k = (f : ℕ) (a : State) → Celled s K F ds ns m n xs f a → Ends (Celled s K F ds ns m n xs f) (k a)

  -- one cell is added, or more: f may be one more than there are
  abbrev Adds : (State → Outcome) → Type 0
  Adds k = (f : ℕ) (a : State) → f ≤ suc (length a.cells) → Good s K F ds ns m n a → a.listed ≡ xs → Ends (Celled s K F ds ns m n xs f) (k a)

  -- the same after a field, which pays for its cell v
  abbrev AddsPaid : (ℕ → State → Outcome) → Type 0
  AddsPaid k = (v : ℕ) → v ≤ 1000000000 → (f : ℕ) (a : State) → f ≤ suc (length a.cells) → Good s K F ds ns m n a → a.listed ≡ xs
      → 2 * suc (length a.cells) ≤ a.at → Ends (Celled s K F ds ns m n xs f) (k v a)

  store_adds : (p : ℕ) → AddsPaid (store_at limit p)
  unfolding store_at
  store_adds p v h f a i g e j = ends_test _ _ _ (λ b. refused) λ b. good (record { state = good_cell g v h j; same-listed = e; more = rw length_more i })

  constant_keeps : Keeps (constant_at s limit)
  unfolding constant_at
  constant_keeps f a c =
      number_goes c.state _ _ λ v e h i g. store_adds a.at v h f (to_place a e) (omega (arith, c.more)) g c.same-listed (omega (arith, i, c.state.paid))

  secret_keeps : Keeps (secret_at s limit from)
  unfolding secret_at
  secret_keeps f a c =
      number_goes c.state _ _ λ v e h i g.
      ends_test _ _ _
      (λ b.
      let v-small = small v (subst (λ x. among v (since from x) ≡ true) c.same-listed b) in
      store_adds a.at v v-small f (to_place a e) (omega (arith, c.more)) g c.same-listed (omega (arith, i, c.state.paid)))
      (λ b. refused)

  adds_keeps : (k : State → Outcome) → Adds k → Keeps k
  adds_keeps k r f a c = r f a (omega (arith, c.more)) c.state c.same-listed

  twice_keeps : (k : State → Outcome) → Adds k → Keeps (twice k)
  twice_keeps k r f a c = ends_then _ _ (adds_keeps k r f a c) (adds_keeps k r f)

  -- ---- expressions

  operands_keep : (k : State → Outcome) → Adds k → (c : ℕ) → Keeps (operands_at s limit from k c)
  unfolding operands_at
  operands_keep k r c f a h =
      ends_test _ _ _ (λ b. constant_keeps f a h) λ b.
      ends_test _ _ _ (λ b. secret_keeps f a h) (λ b. twice_keeps k r f a h)

  expression_adds : (k : ℕ → ℕ → State → Outcome) → ((p : ℕ) → AddsPaid (k p)) → Adds (expression_with s limit from k)
  unfolding expression_with
  expression_adds k r f a i g l =
      word_goes g _ λ w e t g₁.
      ends_test _ _ _ (λ b. refused) λ b.
      let further = t (expression_bytes w (eqb-false _ _ b)) in
      r a.at (expression_cell w) (omega (arith, expression_small w)) f (to_place a e) i g₁ l (omega (arith, further, g.paid))

  expression_in_adds : (d p : ℕ) → AddsPaid (expression_in s limit from d p)
  unfolding expression_in
  expression_in_adds zero p v h f a i g l j = refused
  expression_in_adds (suc d) p v h f a i g l j =
      ends_then _ _ (store_adds p v h f a i g l j) (operands_keep _ (expression_adds _ (expression_in_adds d)) v f)

  -- ---- conditions

  clauses_keep : (c e : State → Outcome) → Adds c → Adds e → (v : ℕ) → Keeps (clauses_at c e v)
  unfolding clauses_at
  clauses_keep c e r t v f a h =
      ends_test _ _ _ (λ b. good h) λ b.
      ends_test _ _ _ (λ b. twice_keeps c r f a h) λ b.
      ends_test _ _ _ (λ b. adds_keeps c r f a h) λ b.
      twice_keeps e t f a h

  condition_adds : (k : ℕ → ℕ → State → Outcome) → ((p : ℕ) → AddsPaid (k p)) → Adds (condition_with s limit from k)
  unfolding condition_with
  condition_adds k r f a i g l =
      word_goes g _ λ w e t g₁.
      ends_test _ _ _ (λ b. refused) λ b.
      let further = t (condition-bytes w (eqb-false _ _ b)) in
      r a.at (condition_cell w) (omega (arith, condition-small w)) f (to_place a e) i g₁ l (omega (arith, further, g.paid))

  condition_in_adds : (d p : ℕ) → AddsPaid (condition_in s limit from d p)
  unfolding condition_in expression_at
  condition_in_adds zero p v h f a i g l j = refused
  condition_in_adds (suc d) p v h f a i g l j =
      ends_then _ _ (store_adds p v h f a i g l j)
      (clauses_keep _ _ (condition_adds _ (condition_in_adds d)) (expression_adds _ (expression_in_adds d)) v f)

  -- a whole condition
  pub condition-read : (d : ℕ) → Adds (condition_at s limit from d)
  unfolding condition_at
  condition-read d = condition_adds _ (condition_in_adds d)
