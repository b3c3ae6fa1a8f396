-- A contract that was read is written as it stood. Assumes nothing.
use Prim.Native.Nat.{ℕ, zero, suc, ◌+◌}
use mathlib.Core.Path.{◌≡◌, refl, ap, ◌∙◌, subst}
use mathlib.Core.List.{List, [], ◌∷◌, ◌++◌}
use lib.ListN.{length}
use Rattle.bitml.specs.Lists.{◌&◌}
use Rattle.fields.specs.Field.{comma, packed, packed_of, number_at, word_at, any_number}
use Rattle.fields.specs.Field.{Value}
use Rattle.fields.proofs.Words.{Bytes}
use Rattle.tables.specs.declared.Head.{Head}
use Rattle.tables.specs.declared.Action.{Action}
use Rattle.tables.specs.Entries.{NodeEntry, BranchEntry, Entries}
use Rattle.tables.specs.SheetOf.{node_entry_at}
use Rattle.tables.specs.State.{State, entries, with_node, with_branch, with_listed, node_entry, branch_entry}
use Rattle.steps.specs.Steps.{Outcome, to_place, times}
use Rattle.steps.proofs.Ends.{Ends, good, refused, ends-map, ends-field, ends_test, ends_then}
use Rattle.contracts.specs.declared.Limits.{Limits}
use Rattle.contracts.specs.Contract.{c_word, w_word, s_word, r_word, g_word, action, ContractReader, hold_at, leaf_at, weighed_at, split_at, list_at, open_at, reveal_at, contract_with, action_at, read_branch, inside_at, read_contract}
use Rattle.texts.specs.Text.{letters, field}
use Rattle.writing.specs.Written.{Writer, word, say, ◌then◌, repeat, node_done, branch_done, listed_done, condition_text, listed_text, part_text, leaf_text, split_text, reveal_text, action_text, branch_text, contract_text}
use Rattle.writing.proofs.Says.{Starts, starts_same, starts_trans, starts_at, Grown, place_of, Says, says_then, says_by, says_nothing, says_number, says_word, says_node, says_branch, says_listed, Quiet, quiet_then}
use Rattle.writing.proofs.Conditions.{Spells, spells, condition_says}

module _ (s : List ℕ) (hs : Bytes s) where
  abbrev R : (Entries → Writer) → State → Outcome → Type 0
  R f a w = Ends (Says s 0 f a) w

  -- the same again
  pub times_says : (f : Entries → Writer) (k : State → Outcome) → ((a : State) → R f a (k a)) → (n : ℕ) (a : State) → R (λ E. repeat n (f E)) a (times n k a)
  unfolding times repeat
  times_says f k r zero a = good (says_nothing s a)
  times_says f k r (suc n) a = ends_then (k a) (times n k) (r a) λ b x. ends-map (times_says f k r n b) λ c y. says_then s f (λ E. repeat n (f E)) x y

  -- ---- a contract: what it writes, and the node that it lists first, with its weight

  pub record Contract (f : Entries → Writer) (w : ℕ) (a b : State) : Type 0 where
    pub text : Says s 0 f a b
    pub weight : (E : Entries) → Grown (entries b) E → (node_entry_at E (length a.nodes)).weight ≡ w

  abbrev C : (Entries → Writer) → ContractReader → Type 0
  C f contract = (b w : ℕ) (a : State) → Ends (Contract f w a) (contract b w a)

  pub listed_says : (v e max : ℕ) (a : State) → number_at s a.at max ≡ Value v e → Says s 0 listed_text a (with_listed v (to_place a e))
  unfolding listed_text
  listed_says v e max a q =
      says_by s (λ E. say (field v) then listed_done) listed_text (says_then s (λ E. say (field v)) (λ E. listed_done) (says_number s a max v e q) (says_listed s v (to_place a e)))
      (λ E h. ap (λ x. (say (field x) then listed_done) (place_of a)) (starts_at a.listed v 0 h.listed))

  list_says : (secrets from n : ℕ) (a : State) → Ends (Quiet s (λ E. repeat n (listed_text E)) a) (times n (list_at s secrets from) a)
  unfolding list_at times repeat
  list_says secrets from zero a = good (record { text = says_nothing s a; branches = refl })
  list_says secrets from (suc n) a = ends_then _ _ (one a) λ b x. ends-map (list_says secrets from n b) λ c y. quiet_then s listed_text (λ E. repeat n (listed_text E)) x y
    where
      one : (a : State) → Ends (Quiet s listed_text a) (list_at s secrets from a)
      one a =
          ends-field a _ _ λ v e q. ends_test _ _ _ (λ t. refused) λ t. ends_test _ _ _ (λ t. refused) λ t.
          good (record { text = listed_says v e any_number a q; branches = refl })

  module _ (f : Entries → Writer) (contract : ContractReader) (c : C f contract) where
    -- "n times weight and contract"
    weighed_says : (b sum n : ℕ) (a : State) → R (λ E. repeat n (part_text E (f E))) a (weighed_at s contract b sum n a)
    unfolding weighed_at repeat part_text
    weighed_says b sum zero a = good (says_nothing s a)
    weighed_says b sum (suc n) a =
        ends-field a _ _ λ w e q. ends_test _ _ _ (λ t. refused) λ t.
        ends_then _ _ (c b w (to_place a e)) λ a' x. ends-map (weighed_says b (sum + w) n a') λ a'' y.
        says_then s (λ E. part_text E (f E)) (λ E. repeat n (part_text E (f E)))
        (says_by s (λ E. say (field w) then f E) (λ E. part_text E (f E)) (says_then s (λ E. say (field w)) f (says_number s a 1000 w e q) x.text)
        (λ E h. ap (λ v. (say (field v) then f E) (place_of a)) (x.weight E h))) y

    -- an action of a branch with head h, from before its word on: what it writes, and the branch that it lists first
    record Acts (h : Head) (a b : State) : Type 0 where
      act : Action
      text : Says s 0 (λ E. action_text E (f E) (branch_entry h act)) a b
      entry : Starts (a.branches ++ (branch_entry h act ∷ [])) b.branches

    -- a word, a number and the branch's own entry
    leaf_says : (u : List ℕ) (w e max p e' : ℕ) (en : BranchEntry) (a : State) → Spells u w → word_at s a.at ≡ Value w e → number_at s e max ≡ Value p e'
        → Says s 0 (λ E. leaf_text (comma ∷ u) p) a (with_branch en (to_place a e'))
    unfolding leaf_text
    leaf_says u w e max p e' en a sp q q' =
        says_then s (λ E. say (comma ∷ u)) (λ E. say (field p) then branch_done) (says_word s hs a w e u sp.bytes sp.number sp.some q)
        (says_then s (λ E. say (field p)) (λ E. branch_done) (says_number s (to_place a e) max p e' q') (says_branch s en (to_place a e')))

    leaf_acts : (h : Head) (kind limit : ℕ) (u : List ℕ) (w e : ℕ) (a : State) → Spells u w → word_at s a.at ≡ Value w e
        → ((p : ℕ) (E : Entries) → action_text E (f E) (branch_entry h (action kind p 0 0 0)) ≡ leaf_text (comma ∷ u) p)
        → Ends (Acts h a) (leaf_at s h kind limit (to_place a e))
    unfolding leaf_at
    leaf_acts h kind limit u w e a sp q match =
        ends-field (to_place a e) _ _ λ p e' q'. ends_test _ _ _ (λ t. good (record {
          act = action kind p 0 0 0;
          text = says_by s (λ E. leaf_text (comma ∷ u) p) _ (leaf_says u w e any_number p e' (branch_entry h (action kind p 0 0 0)) a sp q q') (λ E g. ap (λ x. x (place_of a)) (match p E));
          entry = starts_same (a.branches ++ (branch_entry h (action kind p 0 0 0) ∷ []));
        })) (λ t. refused)

    split_acts : (h : Head) (w e : ℕ) (a : State) → Spells (letters "s") w → word_at s a.at ≡ Value w e → Ends (Acts h a) (split_at s contract h (to_place a e))
    unfolding split_at action_text split_text
    split_acts h w e a sp q =
        ends-field (to_place a e) _ _ λ n e' q'. ends_test _ _ _ (λ t. refused) λ t.
        let en = branch_entry h (action 1 n 0 0 0) in
        ends-map (weighed_says (length a.branches) 0 n (with_branch en (to_place a e'))) λ b x. record {
          act = action 1 n 0 0 0;
          text = says_then s (λ E. leaf_text (word "s") n) (λ E. repeat n (part_text E (f E))) (leaf_says (letters "s") w e 8 n e' en a sp q q') x;
          entry = x.grown.branches;
        }

    reveal_acts : (h : Head) (secrets w e : ℕ) (a : State) → Spells (letters "r") w → word_at s a.at ≡ Value w e → Ends (Acts h a) (reveal_at s secrets contract h (to_place a e))
    unfolding reveal_at open_at hold_at action_text reveal_text
    reveal_acts h secrets w e a sp q =
        ends-field (to_place a e) _ _ λ n e' q'. ends_test _ _ _ (λ t. refused) λ t.
        ends_then _ _ (list_says secrets (length a.listed) n (to_place a e')) λ a₁ x.
        ends_then _ _ (condition_says s hs (length a₁.cells + 64) (length a.listed) 64 a₁) λ a₂ y.
        let en = branch_entry h (action 2 (length a₂.nodes) (length a.listed) n (length a₁.cells)) in
        ends-map (c (length a₂.branches) 0 (with_branch en a₂)) λ b z. record {
          act = action 2 (length a₂.nodes) (length a.listed) n (length a₁.cells);
          text =
              says_then s (λ E. say (word "r")) (λ E. say (field n) then repeat n (listed_text E) then condition_text E 64 then branch_done then f E)
              (says_word s hs a w e (letters "r") sp.bytes sp.number sp.some q)
              (says_then s (λ E. say (field n)) (λ E. repeat n (listed_text E) then condition_text E 64 then branch_done then f E) (says_number s (to_place a e) 8 n e' q')
              (says_then s (λ E. repeat n (listed_text E)) (λ E. condition_text E 64 then branch_done then f E) x.text
              (says_then s (λ E. condition_text E 64) (λ E. branch_done then f E) y.text
              (says_then s (λ E. branch_done) f (says_branch s en a₂) z.text))));
          entry = subst (λ bs. Starts (bs ++ (en ∷ [])) b.branches) (y.branches ∙ x.branches) z.text.grown.branches;
        }

    module _ (lim : Limits) where
      action_acts : (h : Head) (w e : ℕ) (a : State) → word_at s a.at ≡ Value w e → Ends (Acts h a) (action_at s lim contract h a.at (to_place a e) w)
      unfolding action_at action_text leaf_text packed_of packed ◌&◌
      action_acts h w e a q =
          ends_test _ _ _ (λ t. leaf_acts h 0 lim.people (letters "w") w e a (spells (letters "w") w_word w refl refl refl t) q (λ p E. refl)) λ t.
          ends_test _ _ _ (λ t. split_acts h w e a (spells (letters "s") s_word w refl refl refl t) q) λ t.
          ends_test _ _ _ (λ t. reveal_acts h lim.secrets w e a (spells (letters "r") r_word w refl refl refl t) q) λ t.
          ends_test _ _ _ (λ t. leaf_acts h 3 lim.defs (letters "g") w e a (spells (letters "g") g_word w refl refl refl t) q (λ p E. refl)) λ t. refused

      branch_says : (node : ℕ) (a : State) → R (λ E. branch_text E (f E)) a (read_branch s lim contract node a)
      unfolding read_branch branch_text
      branch_says node a =
          ends-field a _ _ λ g e q. ends_test _ _ _ (λ t. refused) λ t. ends_test _ _ _ (λ t. refused) λ t.
          ends-field (to_place a e) _ _ λ t e' q'. ends-field (to_place a e') _ _ λ w e'' q''.
          let h : Head = record { node = node; signers = g; opens = t } in
          ends-map (action_acts h w e'' (to_place a e') q'') λ b x.
          says_by s (λ E. say (field g) then say (field t) then action_text E (f E) (branch_entry h x.act)) (λ E. branch_text E (f E))
          (says_then s (λ E. say (field g)) (λ E. say (field t) then action_text E (f E) (branch_entry h x.act)) (says_number s a any_number g e q)
          (says_then s (λ E. say (field t)) (λ E. action_text E (f E) (branch_entry h x.act)) (says_number s (to_place a e) 4294967295 t e' q') x.text))
          (λ E k. ap (λ en. (say (field en.signers) then say (field en.opens) then action_text E (f E) en) (place_of a))
          (starts_at a.branches (branch_entry h x.act) _ (starts_trans x.entry k.branches)))

  -- ---- contracts in contracts

  pub contract_says : (lim : Limits) (d : ℕ) → C (λ E. contract_text E d) (read_contract s lim d)
  unfolding read_contract contract_with inside_at contract_text packed_of packed ◌&◌
  contract_says lim zero b w a = ends-field a _ _ λ v e q. ends_test _ _ _ (λ t. refused) (λ t. refused)
  contract_says lim (suc d) b w a =
      ends-field a _ _ λ v e q. ends_test _ _ _ (λ t. ends_test _ _ _ (λ t. refused) λ t'.
      ends-field (to_place a e) _ _ λ n e' q'.
      let en : NodeEntry = node_entry lim.def b w n in
      let sp : Spells (letters "c") v = spells (letters "c") c_word v refl refl refl t in
      ends-map (times_says (λ E. branch_text E (contract_text E d)) (read_branch s lim (read_contract s lim d) (length a.nodes))
      (branch_says (λ E. contract_text E d) (read_contract s lim d) (contract_says lim d) lim (length a.nodes)) n (with_node en (to_place a e'))) λ c x.
      let found : (E : Entries) → Grown (entries c) E → node_entry_at E (length a.nodes) ≡ en = λ E k. starts_at a.nodes en _ (starts_trans x.grown.nodes k.nodes) in
      record {
        text = says_by s (λ E. say (word "c") then say (field n) then node_done then repeat n (branch_text E (contract_text E d))) (λ E. contract_text E (suc d))
            (says_then s (λ E. say (word "c")) (λ E. say (field n) then node_done then repeat n (branch_text E (contract_text E d))) (says_word s hs a v e (letters "c") sp.bytes sp.number sp.some q)
            (says_then s (λ E. say (field n)) (λ E. node_done then repeat n (branch_text E (contract_text E d))) (says_number s (to_place a e) 16 n e' q')
            (says_then s (λ E. node_done) (λ E. repeat n (branch_text E (contract_text E d))) (says_node s en (to_place a e')) x)))
            (λ E k. ap (λ i. (say (word "c") then say (field i) then node_done then repeat i (branch_text E (contract_text E d))) (place_of a)) (ap (λ y. y.count) (found E k)));
        weight = λ E k. ap (λ y. y.weight) (found E k);
      }) (λ t. refused)
