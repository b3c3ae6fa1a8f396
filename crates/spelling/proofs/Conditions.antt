-- The text of a condition that was read is the bytes that it was read from, and its cells are all that was listed. Assumes nothing.
use Prim.Native.Nat.{ℕ, zero, suc, ◌≤◌}
use mathlib.Core.Path.{◌≡◌, refl, sym, ap, ap₂, ◌∙◌, subst}
use mathlib.Core.List.{List, [], ◌∷◌, ◌++◌, append_assoc}
use native.Mathlib.Omega.{arith}
use borrow.Author.Tests.{eqb-false}
use Rattle.bitml.specs.Sheet.{number, secret, add, sub, Cond, always, both, neg, equal, less}
use Rattle.fields.specs.Field.{comma, number_at, word_at, any_number}
use Rattle.fields.specs.Field.{Value}
use Rattle.fields.proofs.Laws.{number-end, word_end}
use Rattle.fields.proofs.Words.{Bytes}
use Rattle.tables.specs.State.{State, with_cell}
use Rattle.steps.specs.Steps.{Outcome, to_place, either, and_then, twice}
use Rattle.steps.proofs.Ends.{Ends, good, refused, ends-map, ends-field, ends_test, ends_then}
use Rattle.conditions.specs.Words.{no_word, condition_cell, expression_cell}
use Rattle.conditions.specs.Condition.{store_at, constant_at, clauses_at, secret_at, operands_at, expression_with, expression_in, expression_at, condition_with, condition_in, condition_at}
use Rattle.texts.specs.Text.{field}
use Rattle.writing.proofs.Fields.{between, between_join, field_back, word_back}
use Rattle.writing.proofs.Conditions.{Spells, expression_cases, condition-cases, store_is}
use Rattle.spelling.specs.Spelled.{spell_expression, spell_condition}
use Rattle.spelling.proofs.Cells.{cells_of_expr, cells_of}

-- The state a at e, with the cells cs instead of its own
abbrev pub with_cells : State → ℕ → List ℕ → State
with_cells a e cs = record { at = e; nodes = a.nodes; branches = a.branches; defs = a.defs; listed = a.listed; cells = cs }

-- From a to b a condition was read: nothing but its cells was listed
pub record Spelt (s : List ℕ) (a b : State) : Type 0 where
  pub on : a.at ≤ b.at
  pub condition : Cond
  pub same : b ≡ with_cells a b.at (a.cells ++ cells_of condition)
  pub text : spell_condition condition ≡ between s a.at b.at

-- From a to b the bytes t were read, and nothing but the cells cs was listed
record Took (s cs t : List ℕ) (a b : State) : Type 0 where
  on : a.at ≤ b.at
  same : b ≡ with_cells a b.at (a.cells ++ cs)
  text : t ≡ between s a.at b.at

took_then : {s cs ds t u : List ℕ} {a b c : State} → Took s cs t a b → Took s ds u b c → Took s (cs ++ ds) (t ++ u) a c
took_then {s} {cs} {ds} {t} {u} {a} {b} {c} x y =
    record {
      on = omega (arith, x.on, y.on);
      same = y.same ∙ ap (λ d. with_cells d c.at (d.cells ++ ds)) x.same ∙ ap (with_cells a c.at) (append_assoc a.cells cs ds);
      text = ap₂ ◌++◌ x.text y.text ∙ between_join s a.at b.at c.at x.on y.on;
    }

module _ (s : List ℕ) (hs : Bytes s) (limit from : ℕ) where
  -- Reading from a took the text and the cells of some x
  abbrev Reads : {A : Type 0} → (A → List ℕ) → (A → List ℕ) → State → Outcome → Type 0
  Reads {A} cells text a w = Ends (λ b. (x : A) × Took s (cells x) (text x) a b) w

  abbrev Number : State → Outcome → Type 0
  Number a w = Reads (λ v. v ∷ []) field a w

  abbrev Expression : State → Outcome → Type 0
  Expression a w = Reads cells_of_expr spell_expression a w

  abbrev Condition : State → Outcome → Type 0
  Condition a w = Reads cells_of spell_condition a w

  -- ---- a number, and its cell

  store_took : (p max v e : ℕ) (a : State) → number_at s a.at max ≡ Value v e → Number a (store_at limit p v (to_place a e))
  store_took p max v e a q =
      let x : Took s (v ∷ []) (field v) a (with_cell v (to_place a e)) =
      record { on = omega (arith, (number-end s a.at max v e q).0); same = refl; text = field_back s a.at max v e q } in
      ends-map (store_is s hs limit from p v (to_place a e)) λ b z. (v, subst (Took s (v ∷ []) (field v) a) (sym z) x)

  constant_took : (a : State) → Number a (constant_at s limit a)
  unfolding constant_at
  constant_took a = ends-field a _ _ λ v e q. store_took a.at 1000000000 v e a q

  secret_took : (a : State) → Number a (secret_at s limit from a)
  unfolding secret_at
  secret_took a = ends-field a _ _ λ v e q. ends_test _ _ _ (λ t. store_took a.at any_number v e a q) (λ t. refused)

  -- ---- a word and its cell; two of a kind

  word_took : {a : State} {w e : ℕ} {u : List ℕ} (c : ℕ) → word_at s a.at ≡ Value w e → Spells u w
      → Took s (c ∷ []) (comma ∷ u) a (with_cell c (to_place a e))
  word_took {a} {w} {e} {u} c q h =
      record { on = omega (arith, (word_end s a.at w e q).0); same = refl; text = word_back s a.at w e u hs h.bytes q h.number h.some }

  -- what follows a cell that was stored
  stored : {P : State → Type 0} (p v : ℕ) (a : State) (k : State → Outcome) → Ends P (k (with_cell v a)) → Ends P (and_then (store_at limit p v a) k)
  stored {P} p v a k h = ends_then _ k (store_is s hs limit from p v a) λ b z. subst (λ x. Ends P (k x)) (sym z) h

  twice_took : {A : Type 0} (cells text : A → List ℕ) (k : State → Outcome) → ((a : State) → Reads cells text a (k a)) → (a : State)
      → Reads {A = A × A} (λ x. cells x.0 ++ cells x.1) (λ x. text x.0 ++ text x.1) a (twice k a)
  twice_took cells text k r a = ends_then (k a) k (r a) λ b x. ends-map (r b) λ c y. ((x.0, y.0), took_then x.1 y.1)

  -- ---- expressions and conditions

  -- after the word w of an expression
  operands_took : (k : State → Outcome) → ((a : State) → Expression a (k a))
      → (a : State) (w e : ℕ) → word_at s a.at ≡ Value w e → (expression_cell w ≡ no_word → ⊥)
      → Expression a (operands_at s limit from k (expression_cell w) (with_cell (expression_cell w) (to_place a e)))
  unfolding operands_at either cells_of_expr spell_expression
  operands_took k r a w e q n =
      let two = twice_took cells_of_expr spell_expression k r in
      expression_cases (λ c. Expression a (operands_at s limit from k c (with_cell c (to_place a e)))) w n
      (λ h. ends-map (constant_took _) λ b x. (number x.0, took_then (word_took 0 q h) x.1))
      (λ h. ends-map (secret_took _) λ b x. (secret x.0, took_then (word_took 1 q h) x.1))
      (λ h. ends-map (two _) λ b x. (add x.0.0 x.0.1, took_then (word_took 2 q h) x.1))
      (λ h. ends-map (two _) λ b x. (sub x.0.0 x.0.1, took_then (word_took 3 q h) x.1))

  expression_took : (d : ℕ) (a : State) → Expression a (expression_at s limit from d a)
  unfolding expression_at expression_with expression_in
  expression_took zero a = ends-field a _ _ λ w e q. ends_test _ _ _ (λ t. refused) (λ t. refused)
  expression_took (suc d) a =
      ends-field a _ _ λ w e q. ends_test _ _ _ (λ t. refused) λ t.
      stored a.at (expression_cell w) (to_place a e) _ (operands_took (expression_at s limit from d) (expression_took d) a w e q (eqb-false _ _ t))

  -- after the word w of a condition
  clauses_took : (k l : State → Outcome) → ((a : State) → Condition a (k a)) → ((a : State) → Expression a (l a))
      → (a : State) (w e : ℕ) → word_at s a.at ≡ Value w e → (condition_cell w ≡ no_word → ⊥)
      → Condition a (clauses_at k l (condition_cell w) (with_cell (condition_cell w) (to_place a e)))
  unfolding clauses_at either cells_of spell_condition
  clauses_took k l r r' a w e q n =
      let two = twice_took cells_of_expr spell_expression l r' in
      condition-cases (λ c. Condition a (clauses_at k l c (with_cell c (to_place a e)))) w n
      (λ h. good (always, word_took 0 q h))
      (λ h. ends-map (twice_took cells_of spell_condition k r _) λ b x. (both x.0.0 x.0.1, took_then (word_took 1 q h) x.1))
      (λ h. ends-map (r _) λ b x. (neg x.0, took_then (word_took 2 q h) x.1))
      (λ h. ends-map (two _) λ b x. (equal x.0.0 x.0.1, took_then (word_took 3 q h) x.1))
      (λ h. ends-map (two _) λ b x. (less x.0.0 x.0.1, took_then (word_took 4 q h) x.1))

  condition_took : (d : ℕ) (a : State) → Condition a (condition_at s limit from d a)
  unfolding condition_at condition_with condition_in
  condition_took zero a = ends-field a _ _ λ w e q. ends_test _ _ _ (λ t. refused) (λ t. refused)
  condition_took (suc d) a =
      ends-field a _ _ λ w e q. ends_test _ _ _ (λ t. refused) λ t.
      stored a.at (condition_cell w) (to_place a e) _
      (clauses_took (condition_at s limit from d) (expression_at s limit from d) (condition_took d) (expression_took d) a w e q (eqb-false _ _ t))

  pub condition_spelt : (d : ℕ) (a : State) → Ends (Spelt s a) (condition_at s limit from d a)
  condition_spelt d a =
      ends-map (condition_took d a) λ b x. record { on = x.1.on; condition = x.0; same = x.1.same; text = x.1.text }
