-- Every rule of reading looks no further than it reads. Assumes nothing.
use Prim.Native.Nat.{ℕ, zero, suc, ◌+◌}
use mathlib.Core.Path.{◌≡◌, refl, ◌∙◌}
use mathlib.Core.Bool.{Bool, true, false, false≢true}
use mathlib.Core.List.{List}
use native.Mathlib.Omega.{arith}
use lib.ListN.{length}
use lib.Dec.{eqb, ltb, leb}
use borrow.Author.Tests.{eqb-true}
use Rattle.fields.specs.Field.{spelled, any_number, number_at, word_at, first_at, line_end_at}
use Rattle.tables.specs.declared.Head.{Head}
use Rattle.tables.specs.State.{State, with_node, with_branch, with_listed, with_cell, with_def, node_entry, branch_entry, def_entry, among, since}
use Rattle.tables.specs.Entries.{most_nodes}
use Rattle.steps.specs.Steps.{Outcome, next, bad, to_place, go_on, either, and_then, twice, times}
use Rattle.steps.proofs.Ends.{refused, ends-map, ends_test}
use Rattle.conditions.specs.Words.{no_word, condition_cell, expression_cell}
use Rattle.conditions.specs.Condition.{store_at, constant_at, clauses_at, secret_at, operands_at, expression_with, expression_in, expression_at, condition_with, condition_in, condition_at}
use Rattle.contracts.specs.declared.Limits.{Limits}
use Rattle.contracts.specs.Contract.{c_word, w_word, s_word, r_word, g_word, action, ContractReader, hold_at, leaf_at, weighed_at, split_at, list_at, open_at, reveal_at, contract_with, action_at, read_branch, inside_at, read_contract}
use Rattle.lines.specs.Definition.{within, deposits_at, owner_at, root_at, owned_at, define_at}
use Rattle.writing.proofs.Local.{Reads, A, L, a_field, a_test, a_then, a_next, a_times, a_value, a_line, number_alike, word_alike, first_alike}

pub test_yes : (b : Bool) (x y : Outcome) → b ≡ true → either b x y ≡ x
unfolding either
test_yes true x y e = refl
test_yes false x y e = absurd (false≢true e)

module _ (s : List ℕ) where
  a_number : {j : ℕ} (a : State) (max : ℕ) (k : List ℕ → ℕ → State → Outcome) → ((v e : ℕ) → Reads s j e (λ t. k t v (to_place a e))) → Reads s j a.at (λ t. go_on a (number_at t a.at max) (k t))
  a_number a max k f = a_field s a.at a (λ t. number_at t a.at max) k (number_alike s a.at max) f

  a_word : (a : State) (k : List ℕ → ℕ → State → Outcome) → ((v e : ℕ) → A s e (λ t. k t v (to_place a e))) → A s a.at (λ t. go_on a (word_at t a.at) (k t))
  a_word a k f = a_field s a.at a (λ t. word_at t a.at) k (word_alike s a.at) f

  a_twice : (k : List ℕ → State → Outcome) → ((a : State) → A s a.at (λ t. k t a)) → (a : State) → A s a.at (λ t. twice (k t) a)
  a_twice k f a = a_then s a.at (λ t. k t a) k (f a) f

  -- ---- conditions

  module _ (limit from : ℕ) where
    a_store : (p v : ℕ) (a : State) → A s a.at (λ t. store_at limit p v a)
    unfolding store_at
    a_store p v a = a_test s a.at (leb limit (length a.cells)) (λ t. bad 7 p) (λ t. next (with_cell v a)) refused (a_next s a.at (with_cell v a) (omega arith))

    a_constant : (a : State) → A s a.at (λ t. constant_at t limit a)
    unfolding constant_at
    a_constant a = a_number a 1000000000 (λ t v a₁. store_at limit a.at v a₁) λ v e. a_store a.at v (to_place a e)

    a_secret : (a : State) → A s a.at (λ t. secret_at t limit from a)
    unfolding secret_at
    a_secret a = a_number a any_number (λ t v a₁. either (among v (since from a₁.listed)) (store_at limit a.at v a₁) (bad 6 a.at)) λ v e.
        a_test s e (among v (since from a.listed)) (λ t. store_at limit a.at v (to_place a e)) (λ t. bad 6 a.at) (a_store a.at v (to_place a e)) refused

    a_operands : (k : List ℕ → State → Outcome) → ((a : State) → A s a.at (λ t. k t a)) → (c : ℕ) (a : State) → A s a.at (λ t. operands_at t limit from (k t) c a)
    unfolding operands_at
    a_operands k f c a = a_test s a.at (eqb c 0) (λ t. constant_at t limit a) (λ t. either (eqb c 1) (secret_at t limit from a) (twice (k t) a)) (a_constant a)
        (a_test s a.at (eqb c 1) (λ t. secret_at t limit from a) (λ t. twice (k t) a) (a_secret a) (a_twice k f a))

    a_expression : (d : ℕ) (a : State) → A s a.at (λ t. expression_at t limit from d a)
    unfolding expression_at expression_with expression_in
    a_expression zero a = a_word a (λ t w a₁. either (eqb (expression_cell w) no_word) (bad 3 a.at) (bad 7 a.at)) λ w e.
        a_test s e (eqb (expression_cell w) no_word) (λ t. bad 3 a.at) (λ t. bad 7 a.at) refused refused
    a_expression (suc d) a =
        a_word a (λ t w a₁. either (eqb (expression_cell w) no_word) (bad 3 a.at) (and_then (store_at limit a.at (expression_cell w) a₁) (operands_at t limit from (expression_at t limit from d) (expression_cell w)))) λ w e.
        a_test s e (eqb (expression_cell w) no_word) (λ t. bad 3 a.at) (λ t. and_then (store_at limit a.at (expression_cell w) (to_place a e)) (operands_at t limit from (expression_at t limit from d) (expression_cell w))) refused
        (a_then s e (λ t. store_at limit a.at (expression_cell w) (to_place a e)) (λ t. operands_at t limit from (expression_at t limit from d) (expression_cell w))
        (a_store a.at (expression_cell w) (to_place a e)) (a_operands (λ t. expression_at t limit from d) (a_expression d) (expression_cell w)))

    a_clauses : (k l : List ℕ → State → Outcome) → ((a : State) → A s a.at (λ t. k t a)) → ((a : State) → A s a.at (λ t. l t a)) → (c : ℕ) (a : State) → A s a.at (λ t. clauses_at (k t) (l t) c a)
    unfolding clauses_at
    a_clauses k l f g c a = a_test s a.at (eqb c 0) (λ t. next a) (λ t. either (eqb c 1) (twice (k t) a) (either (eqb c 2) (k t a) (twice (l t) a))) (a_next s a.at a (omega arith))
        (a_test s a.at (eqb c 1) (λ t. twice (k t) a) (λ t. either (eqb c 2) (k t a) (twice (l t) a)) (a_twice k f a)
        (a_test s a.at (eqb c 2) (λ t. k t a) (λ t. twice (l t) a) (f a) (a_twice l g a)))

    pub a_condition : (d : ℕ) (a : State) → A s a.at (λ t. condition_at t limit from d a)
    unfolding condition_at condition_with condition_in
    a_condition zero a = a_word a (λ t w a₁. either (eqb (condition_cell w) no_word) (bad 3 a.at) (bad 7 a.at)) λ w e.
        a_test s e (eqb (condition_cell w) no_word) (λ t. bad 3 a.at) (λ t. bad 7 a.at) refused refused
    a_condition (suc d) a =
        a_word a (λ t w a₁. either (eqb (condition_cell w) no_word) (bad 3 a.at) (and_then (store_at limit a.at (condition_cell w) a₁) (clauses_at (condition_at t limit from d) (expression_at t limit from d) (condition_cell w)))) λ w e.
        a_test s e (eqb (condition_cell w) no_word) (λ t. bad 3 a.at) (λ t. and_then (store_at limit a.at (condition_cell w) (to_place a e)) (clauses_at (condition_at t limit from d) (expression_at t limit from d) (condition_cell w))) refused
        (a_then s e (λ t. store_at limit a.at (condition_cell w) (to_place a e)) (λ t. clauses_at (condition_at t limit from d) (expression_at t limit from d) (condition_cell w))
        (a_store a.at (condition_cell w) (to_place a e)) (a_clauses (λ t. condition_at t limit from d) (λ t. expression_at t limit from d) (a_condition d) (a_expression d) (condition_cell w)))

  -- ---- contracts

  abbrev C : (List ℕ → ContractReader) → Type 0
  C contract = (b w : ℕ) (a : State) → A s a.at (λ t. contract t b w a)

  a_leaf : (h : Head) (kind limit : ℕ) (a : State) → A s a.at (λ t. leaf_at t h kind limit a)
  unfolding leaf_at
  a_leaf h kind limit a = a_number a any_number _ λ p e.
      a_test s e (ltb p limit) _ _ (a_next s e (with_branch (branch_entry h (action kind p 0 0 0)) (to_place a e)) (omega arith)) refused

  a_list : (secrets from : ℕ) (a : State) → A s a.at (λ t. list_at t secrets from a)
  unfolding list_at
  a_list secrets from a = a_number a any_number _ λ v e.
      a_test s e (among v (since from a.listed)) _ _ refused (a_test s e (leb secrets v) _ _ refused (a_next s e (with_listed v (to_place a e)) (omega arith)))

  module _ (contract : List ℕ → ContractReader) (c : C contract) where
    a_weighed : (b sum n : ℕ) (a : State) → A s a.at (λ t. weighed_at t (contract t) b sum n a)
    unfolding weighed_at
    a_weighed b sum zero a = a_next s a.at a (omega arith)
    a_weighed b sum (suc n) a = a_number a 1000 _ λ w e. a_test s e (eqb (n + (sum + w)) 0) _ _ refused
        (a_then s e (λ t. contract t b w (to_place a e)) (λ t. weighed_at t (contract t) b (sum + w) n) (c b w (to_place a e)) (a_weighed b (sum + w) n))

    a_split : (h : Head) (a : State) → A s a.at (λ t. split_at t (contract t) h a)
    unfolding split_at
    a_split h a = a_number a 8 _ λ n e. a_test s e (eqb n 0) _ _ refused (a_weighed (length a.branches) 0 n (with_branch (branch_entry h (action 1 n 0 0 0)) (to_place a e)))

    a_reveal : (secrets : ℕ) (h : Head) (a : State) → A s a.at (λ t. reveal_at t secrets (contract t) h a)
    unfolding reveal_at open_at hold_at
    a_reveal secrets h a = a_number a 8 _ λ n e. a_test s e (eqb n 0) _ _ refused
        (a_then s e (λ t. times n (list_at t secrets (length a.listed)) (to_place a e)) (λ t. open_at t (contract t) h n (length a.listed))
        (a_times s n (λ t. list_at t secrets (length a.listed)) (a_list secrets (length a.listed)) (to_place a e)) λ a₁.
        a_then s a₁.at (λ t. condition_at t (length a₁.cells + 64) (length a.listed) 64 a₁)
        (λ t a₂. contract t (length a₂.branches) 0 (with_branch (branch_entry h (action 2 (length a₂.nodes) (length a.listed) n (length a₁.cells))) a₂))
        (a_condition (length a₁.cells + 64) (length a.listed) 64 a₁) λ a₂.
        c (length a₂.branches) 0 (with_branch (branch_entry h (action 2 (length a₂.nodes) (length a.listed) n (length a₁.cells))) a₂))

    module _ (lim : Limits) where
      a_action : (h : Head) (p : ℕ) (a : State) (w : ℕ) → A s a.at (λ t. action_at t lim (contract t) h p a w)
      unfolding action_at
      a_action h p a w = a_test s a.at (eqb w w_word) _ _ (a_leaf h 0 lim.people a) (a_test s a.at (eqb w s_word) _ _ (a_split h a)
          (a_test s a.at (eqb w r_word) _ _ (a_reveal lim.secrets h a) (a_test s a.at (eqb w g_word) _ _ (a_leaf h 3 lim.defs a) refused)))

      a_branch : (node : ℕ) (a : State) → A s a.at (λ t. read_branch t lim (contract t) node a)
      unfolding read_branch
      a_branch node a = a_number a any_number _ λ g e. a_test s e (leb lim.all g) _ _ refused (a_test s e (leb 1024 (length a.branches)) _ _ refused
          (a_number (to_place a e) 4294967295 _ λ t e'. a_word (to_place a e') _ λ w e''. a_action (record { node = node; signers = g; opens = t }) e' (to_place a e'') w))

  pub a_contract : (lim : Limits) (d : ℕ) → C (λ t. read_contract t lim d)
  unfolding read_contract contract_with inside_at
  a_contract lim zero b w a = a_word a _ λ v e. a_test s e (eqb v c_word) _ _ refused refused
  a_contract lim (suc d) b w a = a_word a _ λ v e. a_test s e (eqb v c_word) _ _ (a_test s e (leb most_nodes (length a.nodes)) _ _ refused
      (a_number (to_place a e) 16 _ λ n e'. a_times s n (λ t. read_branch t lim (read_contract t lim d) (length a.nodes)) (a_branch (λ t. read_contract t lim d) (a_contract lim d) lim (length a.nodes))
      (with_node (node_entry lim.def b w n) (to_place a e')))) refused

  -- ---- lines

  a_deposits : (sum n : ℕ) (a : State) → A s a.at (λ t. deposits_at t sum n a)
  unfolding deposits_at
  a_deposits sum zero a = a_next s a.at a (omega arith)
  a_deposits sum (suc n) a = a_number a 2100000000000000 _ λ v e. a_test s e (ltb 2100000000000000 (sum + v)) _ _ refused (a_deposits (sum + v) n (with_listed v (to_place a e)))

  a_owner : (people : ℕ) (a : State) → A s a.at (λ t. owner_at t people a)
  unfolding owner_at
  a_owner people a = a_number a any_number _ λ v e. a_test s e (ltb v people) _ _ (a_next s e (with_listed v (to_place a e)) (omega arith)) refused

  a_root : (z : Limits) (first n : ℕ) (a : State) → L s a.at (λ t. root_at t z first n a)
  unfolding root_at
  a_root z first n a = a_then s a.at (λ t. read_contract t (within z n (length a.defs)) 32 1024 0 (with_def (def_entry (length a.nodes) first n) a))
      (λ t a₁. go_on a₁ (line_end_at t a₁.at) λ v a₂. next a₂)
      (a_contract (within z n (length a.defs)) 32 1024 0 (with_def (def_entry (length a.nodes) first n) a)) (a_line s)

  a_owned : (z : Limits) (first : ℕ) (a : State) → L s a.at (λ t. owned_at t z first a)
  unfolding owned_at
  a_owned z first a = a_number a 8 _ λ n e. a_then s e (λ t. times n (owner_at t z.people) (to_place a e)) (λ t. root_at t z first n)
      (a_times s n (λ t. owner_at t z.people) (a_owner z.people) (to_place a e)) (a_root z first n)

  pub a_define : (z : Limits) (a : State) → L s a.at (λ t. define_at t z a)
  unfolding define_at
  a_define z a = a_value s a.at a (λ t. first_at t a.at) _ λ w e q. ends_test _ _ _
      (λ k. ends-map (a_then s e (λ t. deposits_at t 0 z.people (to_place a e)) (λ t. owned_at t z (length a.listed)) (a_deposits 0 z.people (to_place a e)) (a_owned z (length a.listed))) λ b x.
      let f = first_alike s a.at w e q (λ y. let y' = eqb-true w (spelled "def") k in omega arith) in
      (record { on = x.on; again = λ t n i j. test_yes (eqb w (spelled "def")) _ (bad 3 a.at) k ∙ x.again t n i j }, f.0, f.1))
      (λ k. refused)
