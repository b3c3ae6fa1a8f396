-- Which rule of the definition is due, by the numbers that the code has read: one law for each. Assumes nothing.
use Prim.Native.Nat.{ℕ, zero, suc, ◌-◌, ◌≤◌}
use Rattle.std.specs.Prelude.{Option}
use mathlib.Core.Path.{◌≡◌, refl, sym, subst}
use mathlib.Core.List.{List, [], ◌∷◌}
use native.Mathlib.Omega.{arith}
use borrow.Author.Tests.{ne_eqb}
use Rattle.tables.specs.Entries.{Entries}
use Rattle.tables.specs.SheetOf.{node_entry_at, branch_entry_at, def_entry_at, cell_at}
use Rattle.texts.specs.Text.{letters, field}
use Rattle.writing.specs.Written.{Place, Writer, word, say, ◌then◌, repeat, node_done, def_done, cell_done, expression_word, condition_word, number_text, listed_text, operands_text, expression_text, clauses_text, condition_text, leaf_text, part_text, split_text, reveal_text, action_text, branch_text, contract_text, def_text}
use Rattle.writer.specs.Putting.{Puts}
use Rattle.writer.specs.declared.Pen.{Pen}

-- one less is what a positive number follows
pub less_one : (A : ℕ → Type 0) (n : ℕ) → (n ≡ 0 → ⊥) → ((m : ℕ) → m ≡ n - 1 → A (suc m)) → A n
less_one A zero h f = absurd (h refl)
less_one A (suc m) h f = f m (let e : m ≡ suc m - 1 = omega arith in e)

module _ {u₀ u : List ℕ} {at : ℕ} {r : Option Pen} (E : Entries) (x : Place) where
  -- ---- conditions

  pub operands_number : (f : Writer) (c : ℕ) → c ≤ 1 → Puts u₀ at (number_text E x) r u → Puts u₀ at (operands_text E f c x) r u
  unfolding operands_text
  operands_number f zero h k = k
  operands_number f (suc zero) h k = k
  operands_number f (suc (suc c)) h k = absurd (omega arith)

  pub operands_two : (f : Writer) (c : ℕ) → 2 ≤ c → Puts u₀ at ((f then f) x) r u → Puts u₀ at (operands_text E f c x) r u
  unfolding operands_text
  operands_two f c h k = rw (ne_eqb c 0 (λ e. omega arith), ne_eqb c 1 (λ e. omega arith)) k

  pub expression_none : (d : ℕ) → d ≡ 0 → Puts u₀ at (say [] x) r u → Puts u₀ at (expression_text E d x) r u
  unfolding expression_text say
  expression_none d e k = subst (λ i. Puts u₀ at (expression_text E i x) r u) (sym e) k

  pub expression_more : (d c : ℕ) → (d ≡ 0 → ⊥) → c ≡ cell_at E x.cell
      → Puts u₀ at ((say (expression_word c) then cell_done then operands_text E (expression_text E (d - 1)) c) x) r u → Puts u₀ at (expression_text E d x) r u
  unfolding expression_text
  expression_more d c h e k =
      less_one (λ i. Puts u₀ at (expression_text E i x) r u) d h λ m q.
      subst (λ i. Puts u₀ at ((say (expression_word i) then cell_done then operands_text E (expression_text E m) i) x) r u) e
      (subst (λ i. Puts u₀ at ((say (expression_word c) then cell_done then operands_text E (expression_text E i) c) x) r u) (sym q) k)

  module _ (f g : Writer) (c : ℕ) where
    pub clauses_none : c ≡ 0 → Puts u₀ at (say [] x) r u → Puts u₀ at (clauses_text E f g c x) r u
    unfolding clauses_text
    clauses_none e k = rw e k

    pub clauses_not : c ≡ 2 → Puts u₀ at (f x) r u → Puts u₀ at (clauses_text E f g c x) r u
    unfolding clauses_text
    clauses_not e k = rw e k

    pub clauses_and : c ≡ 1 → Puts u₀ at ((f then f) x) r u → Puts u₀ at (clauses_text E f g c x) r u
    unfolding clauses_text
    clauses_and e k = rw e k

    pub clauses_two : 3 ≤ c → Puts u₀ at ((g then g) x) r u → Puts u₀ at (clauses_text E f g c x) r u
    unfolding clauses_text
    clauses_two h k = rw (ne_eqb c 0 (λ e. omega arith), ne_eqb c 1 (λ e. omega arith), ne_eqb c 2 (λ e. omega arith)) k

  pub condition-none : (d : ℕ) → d ≡ 0 → Puts u₀ at (say [] x) r u → Puts u₀ at (condition_text E d x) r u
  unfolding condition_text say
  condition-none d e k = subst (λ i. Puts u₀ at (condition_text E i x) r u) (sym e) k

  pub condition-more : (d c : ℕ) → (d ≡ 0 → ⊥) → c ≡ cell_at E x.cell
      → Puts u₀ at ((say (condition_word c) then cell_done then clauses_text E (condition_text E (d - 1)) (expression_text E (d - 1)) c) x) r u
      → Puts u₀ at (condition_text E d x) r u
  unfolding condition_text
  condition-more d c h e k =
      less_one (λ i. Puts u₀ at (condition_text E i x) r u) d h λ m q.
      subst (λ i. Puts u₀ at ((say (condition_word i) then cell_done then clauses_text E (condition_text E m) (expression_text E m) i) x) r u) e
      (subst (λ i. Puts u₀ at ((say (condition_word c) then cell_done then clauses_text E (condition_text E i) (expression_text E i) c) x) r u) (sym q) k)

  -- ---- contracts

  pub contract-none : (d : ℕ) → d ≡ 0 → Puts u₀ at (say [] x) r u → Puts u₀ at (contract_text E d x) r u
  unfolding contract_text say
  contract-none d e k = subst (λ i. Puts u₀ at (contract_text E i x) r u) (sym e) k

  pub contract-more : (d n : ℕ) → (d ≡ 0 → ⊥) → n ≡ (node_entry_at E x.node).count
      → Puts u₀ at ((say (word "c") then say (field n) then node_done then repeat n (branch_text E (contract_text E (d - 1)))) x) r u
      → Puts u₀ at (contract_text E d x) r u
  unfolding contract_text
  contract-more d n h e k =
      less_one (λ i. Puts u₀ at (contract_text E i x) r u) d h λ m q.
      subst (λ i. Puts u₀ at ((say (word "c") then say (field i) then node_done then repeat i (branch_text E (contract_text E m))) x) r u) e
      (subst (λ i. Puts u₀ at ((say (word "c") then say (field n) then node_done then repeat n (branch_text E (contract_text E i))) x) r u) (sym q) k)

  -- a branch by what follows its opening time
  module _ (f : Writer) (signers opens : ℕ) where
    pub branch_by : (act : Writer) → signers ≡ (branch_entry_at E x.branch).signers → opens ≡ (branch_entry_at E x.branch).opens
        → action_text E f (branch_entry_at E x.branch) ≡ act
        → Puts u₀ at ((say (field signers) then say (field opens) then act) x) r u → Puts u₀ at (branch_text E f x) r u
    unfolding branch_text
    branch_by act e h i k = rw (sym e, sym h, i) k

  pub part_by : (f : Writer) (n : ℕ) → n ≡ (node_entry_at E x.node).weight → Puts u₀ at ((say (field n) then f) x) r u → Puts u₀ at (part_text E f x) r u
  unfolding part_text
  part_by f n e k = subst (λ i. Puts u₀ at ((say (field i) then f) x) r u) e k

  pub def_by : (K n : ℕ) → n ≡ (def_entry_at E x.def).secrets
      → Puts u₀ at ((say (letters "def") then repeat K (listed_text E) then say (field n) then repeat n (listed_text E) then def_done then contract_text E 32 then say (10 ∷ [])) x) r u
      → Puts u₀ at (def_text E K x) r u
  unfolding def_text
  def_by K n e k = subst (λ i. Puts u₀ at ((say (letters "def") then repeat K (listed_text E) then say (field i) then repeat i (listed_text E) then def_done then contract_text E 32 then say (10 ∷ [])) x) r u) e k

-- the action of a kind
module _ (E : Entries) (f : Writer) (b n : ℕ) where
  pub action_w : (k : ℕ) → k ≡ 0 → k ≡ (branch_entry_at E b).kind → n ≡ (branch_entry_at E b).arg → action_text E f (branch_entry_at E b) ≡ leaf_text (word "w") n
  unfolding action_text
  action_w k e h i = rw (sym h, e, sym i)

  pub action_s : (k : ℕ) → k ≡ 1 → k ≡ (branch_entry_at E b).kind → n ≡ (branch_entry_at E b).arg → action_text E f (branch_entry_at E b) ≡ split_text E f n
  unfolding action_text
  action_s k e h i = rw (sym h, e, sym i)

  pub action_r : (k : ℕ) → k ≡ 2 → k ≡ (branch_entry_at E b).kind → n ≡ (branch_entry_at E b).count → action_text E f (branch_entry_at E b) ≡ reveal_text E f n
  unfolding action_text
  action_r k e h i = rw (sym h, e, sym i)

  pub action_g : (k : ℕ) → 3 ≤ k → k ≡ (branch_entry_at E b).kind → n ≡ (branch_entry_at E b).arg
      → action_text E f (branch_entry_at E b) ≡ leaf_text (word "g") n
  unfolding action_text
  action_g k l h i = rw (sym h, ne_eqb k 0 (λ e. omega arith), ne_eqb k 1 (λ e. omega arith), ne_eqb k 2 (λ e. omega arith), sym i)
