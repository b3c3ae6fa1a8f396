-- A condition that was read is written as it stood. Assumes nothing.
use Prim.Native.Nat.{ℕ, zero, suc}
use mathlib.Core.Path.{◌≡◌, refl, sym, ap, ◌∙◌, subst}
use mathlib.Core.Bool.{Bool, true, false}
use mathlib.Core.List.{List, [], ◌∷◌}
use native.Mathlib.Omega.{arith}
use lib.ListN.{length}
use lib.Dec.{eqb, ltb}
use borrow.Author.Tests.{eqb-true, eqb-false, ltb-true}
use Rattle.bitml.specs.Lists.{◌&◌, every}
use Rattle.bitml.proofs.Lists.{and_l, and_r}
use Rattle.fields.specs.Field.{comma, packed, packed_of, number_at, word_at, any_number}
use Rattle.fields.specs.Field.{Value}
use Rattle.fields.proofs.Words.{Bytes}
use Rattle.tables.specs.Entries.{Entries}
use Rattle.tables.specs.SheetOf.{cell_at}
use Rattle.tables.specs.State.{State, with_cell}
use Rattle.steps.specs.Steps.{Outcome, to_place, twice}
use Rattle.steps.proofs.Ends.{Ends, good, refused, ends-map, ends-field, ends_test, ends_then}
use Rattle.conditions.specs.Words.{pick, no_word, t_word, and_word, not_word, eq_word, lt_word, k_word, v_word, add_word, sub_word, condition_cell, expression_cell}
use Rattle.conditions.specs.Condition.{store_at, constant_at, clauses_at, secret_at, operands_at, expression_with, expression_in, expression_at, condition_with, condition_in, condition_at}
use Rattle.texts.specs.Text.{letters, field}
use Rattle.writing.specs.Written.{Writer, say, ◌then◌, cell_done, condition_word, expression_word, number_text, operands_text, expression_text, clauses_text, condition_text}
use Rattle.writing.proofs.Says.{starts_trans, starts_at, place_of, says_nothing, says_number, says_word, says_cell, Quiet, quiet_then, quiet_by}

-- ---- words, by their cells

-- The bytes u are those of the word w, and no other
pub record Spells (u : List ℕ) (w : ℕ) : Type 0 where
  pub bytes : Bytes u
  pub number : packed_of u ≡ w
  pub some : w ≡ 0 → ⊥

all-bytes : (u : List ℕ) → every (λ b. ltb b 256) u ≡ true → Bytes u
all-bytes [] e i = omega arith
all-bytes (b ∷ u) e zero = ltb-true b 256 (and_l _ _ e)
all-bytes (b ∷ u) e (suc i) = all-bytes u (and_r _ _ e) i

pub spells : (u : List ℕ) (w v : ℕ) → every (λ b. ltb b 256) u ≡ true → packed_of u ≡ w → ltb 0 w ≡ true → eqb v w ≡ true → Spells u v
spells u w v a b c e =
    subst (Spells u) (sym (eqb-true v w e)) (record { bytes = all-bytes u a; number = b; some = λ z. let h = ltb-true 0 w c in omega arith })

pick-cases : (Q : ℕ → Type 0) (b : Bool) (x y : ℕ) → (b ≡ true → Q x) → (b ≡ false → Q y) → Q (pick b x y)
unfolding pick
pick-cases Q true x y f g = f refl
pick-cases Q false x y f g = g refl

-- A word of an expression is one of these, and what is shown for each of their cells holds for its own
pub expression_cases : (Q : ℕ → Type 0) (w : ℕ) → (expression_cell w ≡ no_word → ⊥)
    → (Spells (letters "k") w → Q 0) → (Spells (letters "v") w → Q 1) → (Spells (letters "add") w → Q 2) → (Spells (letters "sub") w → Q 3) → Q (expression_cell w)
unfolding expression_cell packed_of packed ◌&◌
expression_cases Q w n k v a m =
    pick-cases R (eqb w k_word) 0 _ (λ e _. k (spells (letters "k") k_word w refl refl refl e)) (λ e.
    pick-cases R (eqb w v_word) 1 _ (λ e _. v (spells (letters "v") v_word w refl refl refl e)) λ e.
    pick-cases R (eqb w add_word) 2 _ (λ e _. a (spells (letters "add") add_word w refl refl refl e)) λ e.
    pick-cases R (eqb w sub_word) 3 no_word (λ e _. m (spells (letters "sub") sub_word w refl refl refl e)) λ e n. absurd (n refl)) n
  where
    R : ℕ → Type 0
    R c = (c ≡ no_word → ⊥) → Q c

-- the same of a condition
pub condition-cases : (Q : ℕ → Type 0) (w : ℕ) → (condition_cell w ≡ no_word → ⊥) → (Spells (letters "t") w → Q 0) → (Spells (letters "and") w → Q 1)
    → (Spells (letters "not") w → Q 2) → (Spells (letters "eq") w → Q 3) → (Spells (letters "lt") w → Q 4) → Q (condition_cell w)
unfolding condition_cell packed_of packed ◌&◌
condition-cases Q w n t a m q l =
    pick-cases R (eqb w t_word) 0 _ (λ e _. t (spells (letters "t") t_word w refl refl refl e)) (λ e.
    pick-cases R (eqb w and_word) 1 _ (λ e _. a (spells (letters "and") and_word w refl refl refl e)) λ e.
    pick-cases R (eqb w not_word) 2 _ (λ e _. m (spells (letters "not") not_word w refl refl refl e)) λ e.
    pick-cases R (eqb w eq_word) 3 _ (λ e _. q (spells (letters "eq") eq_word w refl refl refl e)) λ e.
    pick-cases R (eqb w lt_word) 4 no_word (λ e _. l (spells (letters "lt") lt_word w refl refl refl e)) λ e n. absurd (n refl)) n
  where
    R : ℕ → Type 0
    R c = (c ≡ no_word → ⊥) → Q c

expression_word_lem : (w : ℕ) → (expression_cell w ≡ no_word → ⊥) → (u : List ℕ) × Spells u w × (expression_word (expression_cell w) ≡ comma ∷ u)
unfolding expression_word
expression_word_lem w n =
    expression_cases (λ c. (u : List ℕ) × Spells u w × (expression_word c ≡ comma ∷ u)) w n
    (λ h. (letters "k", h, refl)) (λ h. (letters "v", h, refl)) (λ h. (letters "add", h, refl)) (λ h. (letters "sub", h, refl))

condition-word : (w : ℕ) → (condition_cell w ≡ no_word → ⊥) → (u : List ℕ) × Spells u w × (condition_word (condition_cell w) ≡ comma ∷ u)
unfolding condition_word
condition-word w n =
    condition-cases (λ c. (u : List ℕ) × Spells u w × (condition_word c ≡ comma ∷ u)) w n
    (λ h. (letters "t", h, refl)) (λ h. (letters "and", h, refl)) (λ h. (letters "not", h, refl)) (λ h. (letters "eq", h, refl)) (λ h. (letters "lt", h, refl))

-- ---- the rules

module _ (s : List ℕ) (hs : Bytes s) (limit from : ℕ) where
  abbrev R : (Entries → Writer) → State → Outcome → Type 0
  R f a w = Ends (Quiet s f a) w

  pub store_is : (p v : ℕ) (a : State) → Ends (λ b. b ≡ with_cell v a) (store_at limit p v a)
  unfolding store_at
  store_is p v a = ends_test _ _ _ (λ h. refused) (λ h. good refl)

  -- a number's field and its cell
  number_says : (a : State) (max v e : ℕ) → number_at s a.at max ≡ Value v e → Quiet s number_text a (with_cell v (to_place a e))
  unfolding number_text
  number_says a max v e q =
      quiet_by s (λ E. say (field v) then cell_done) number_text (quiet_then s (λ E. say (field v)) (λ E. cell_done) (record { text = says_number s a max v e q; branches = refl }) (record { text = says_cell s v (to_place a e); branches = refl }))
      (λ E h. ap (λ x. (say (field x) then cell_done) (place_of a)) (starts_at a.cells v 0 h.cells))

  store_says : (p max v e : ℕ) (a : State) → number_at s a.at max ≡ Value v e → R number_text a (store_at limit p v (to_place a e))
  store_says p max v e a q = ends-map (store_is p v (to_place a e)) (λ b z. subst (Quiet s number_text a) (sym z) (number_says a max v e q))

  constant_says : (a : State) → R number_text a (constant_at s limit a)
  unfolding constant_at
  constant_says a = ends-field a _ _ λ v e q. store_says a.at 1000000000 v e a q

  secret_says : (a : State) → R number_text a (secret_at s limit from a)
  unfolding secret_at
  secret_says a = ends-field a _ _ λ v e q. ends_test _ _ _ (λ t. store_says a.at any_number v e a q) (λ t. refused)

  twice_says : (f : Entries → Writer) (k : State → Outcome) → ((a : State) → R f a (k a)) → (a : State) → R (λ E. f E then f E) a (twice k a)
  twice_says f k r a = ends_then (k a) k (r a) λ b x. ends-map (r b) λ c y. quiet_then s f f x y

  operands_says : (f : Entries → Writer) (k : State → Outcome) → ((a : State) → R f a (k a)) → (c : ℕ) (a : State)
      → R (λ E. operands_text E (f E) c) a (operands_at s limit from k c a)
  unfolding operands_at operands_text
  operands_says f k r c a =
      ends_test _ _ _ (λ e. ends-map (constant_says a) λ b x. quiet_by s number_text _ x (λ E h. rw e)) λ e.
      ends_test _ _ _ (λ e'. ends-map (secret_says a) λ b x. quiet_by s number_text _ x (λ E h. rw (e, e'))) λ e'.
      ends-map (twice_says f k r a) λ b x. quiet_by s (λ E. f E then f E) _ x (λ E h. rw (e, e'))

  -- a word, its cell, and what stands after it
  word_says : (spell : ℕ → List ℕ) (f : Entries → ℕ → Writer) (c : ℕ) (u : List ℕ) (a : State) (w e : ℕ) → Spells u w → spell c ≡ comma ∷ u → word_at s a.at ≡ Value w e
      → (b : State) → Quiet s (λ E. f E c) (with_cell c (to_place a e)) b
      → Quiet s (λ E p. (say (spell (cell_at E p.cell)) then cell_done then f E (cell_at E p.cell)) p) a b
  word_says spell f c u a w e sp k q b x =
      let d : State = with_cell c (to_place a e) in
      quiet_by s (λ E. say (comma ∷ u) then cell_done then f E c) _
      (quiet_then s (λ E. say (comma ∷ u)) (λ E. cell_done then f E c) (record { text = says_word s hs a w e u sp.bytes sp.number sp.some q; branches = refl })
      (quiet_then s (λ E. cell_done) (λ E. f E c) (record { text = says_cell s c (to_place a e); branches = refl }) x))
      (λ E h. let z : cell_at E (length a.cells) ≡ c = starts_at a.cells c 0 (starts_trans x.text.grown.cells h.cells) in
      ap (λ i. (say (spell i) then cell_done then f E i) (place_of a)) z ∙ ap (λ t. (say t then cell_done then f E c) (place_of a)) k)

  pub expression_says : (d : ℕ) (a : State) → R (λ E. expression_text E d) a (expression_at s limit from d a)
  unfolding expression_at expression_with expression_in expression_text
  expression_says zero a = ends-field a _ _ λ w e q. ends_test _ _ _ (λ t. refused) (λ t. refused)
  expression_says (suc d) a =
      ends-field a _ _ λ w e q. ends_test _ _ _ (λ t. refused) λ t.
      let v = expression_word_lem w (eqb-false _ _ t) in
      ends_then _ _ (store_is a.at (expression_cell w) (to_place a e)) λ b z.
      ends-map (operands_says (λ E. expression_text E d) (expression_at s limit from d) (expression_says d) (expression_cell w) b) λ c x.
      word_says expression_word (λ E i. operands_text E (expression_text E d) i) (expression_cell w) v.0 a w e v.1 v.2 q c (subst (λ b. Quiet s (λ E. operands_text E (expression_text E d) (expression_cell w)) b c) z x)

  clauses_says : (f g : Entries → Writer) (k l : State → Outcome) → ((a : State) → R f a (k a)) → ((a : State) → R g a (l a)) → (c : ℕ) (a : State)
      → R (λ E. clauses_text E (f E) (g E) c) a (clauses_at k l c a)
  unfolding clauses_at clauses_text
  clauses_says f g k l r q c a =
      ends_test _ _ _ (λ e. good (quiet_by s (λ E. say []) _ (record { text = says_nothing s a; branches = refl }) (λ E h. rw e))) λ e.
      ends_test _ _ _ (λ e'. ends-map (twice_says f k r a) λ b x. quiet_by s (λ E. f E then f E) _ x (λ E h. rw (e, e'))) λ e'.
      ends_test _ _ _ (λ e''. ends-map (r a) λ b x. quiet_by s f _ x (λ E h. rw (e, e', e''))) λ e''.
      ends-map (twice_says g l q a) λ b x. quiet_by s (λ E. g E then g E) _ x (λ E h. rw (e, e', e''))

  pub condition_says : (d : ℕ) (a : State) → R (λ E. condition_text E d) a (condition_at s limit from d a)
  unfolding condition_at condition_with condition_in condition_text
  condition_says zero a = ends-field a _ _ λ w e q. ends_test _ _ _ (λ t. refused) (λ t. refused)
  condition_says (suc d) a =
      ends-field a _ _ λ w e q. ends_test _ _ _ (λ t. refused) λ t.
      let v = condition-word w (eqb-false _ _ t) in
      ends_then _ _ (store_is a.at (condition_cell w) (to_place a e)) λ b z.
      ends-map (clauses_says (λ E. condition_text E d) (λ E. expression_text E d) (condition_at s limit from d) (expression_at s limit from d) (condition_says d) (expression_says d) (condition_cell w) b) λ c x.
      word_says condition_word (λ E i. clauses_text E (condition_text E d) (expression_text E d) i) (condition_cell w) v.0 a w e v.1 v.2 q c
      (subst (λ b. Quiet s (λ E. clauses_text E (condition_text E d) (expression_text E d) (condition_cell w)) b c) z x)
