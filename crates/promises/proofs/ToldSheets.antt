-- A sheet that is refused is refused by one of the numbers 2 to 9. Assumes nothing.
use Prim.Native.Nat.{ℕ, zero, suc, ◌+◌}
use mathlib.Core.Path.{refl}
use mathlib.Core.List.{List}
use lib.Dec.{eqb}
use Rattle.fields.specs.Field.{spelled}
use Rattle.tables.specs.declared.Head.{Head}
use Rattle.tables.specs.State.{State}
use Rattle.steps.specs.Steps.{Outcome}
use Rattle.conditions.specs.Condition.{store_at, constant_at, clauses_at, secret_at, operands_at, expression_with, expression_in, expression_at, condition_with, condition_in, condition_at}
use Rattle.contracts.specs.declared.Limits.{Limits}
use Rattle.contracts.specs.Contract.{ContractReader, hold_at, leaf_at, weighed_at, split_at, list_at, open_at, reveal_at, contract_with, action_at, read_branch, inside_at, read_contract}
use Rattle.lines.specs.LineOne.{LineOne}
use Rattle.lines.specs.LineOne as one
use Rattle.lines.specs.LineOne.{counts_at, line_one_at}
use Rattle.lines.specs.Definition.{deposits_at, owner_at, root_at, owned_at, define_at, blank}
use Rattle.lines.specs.Sheet.{SheetRead, accepted, refused, beyond, limited, accept, sizes, sheet_from, read_sheet}
use Rattle.promises.specs.Refusals.{ReadNumber}
use Rattle.promises.proofs.Told.{due, read_told, cond-told, number-told, word-told, first-told, line-end-told, between-told, StepTold, goes, stops, Tells, go_told, either-told, then_told, twice-told, times-told}

-- ---- conditions

module _ (s : List ℕ) (limit from : ℕ) where
  store_told : (p v : ℕ) → Tells (store_at limit p v)
  unfolding store_at
  store_told p v a = either-told _ _ _ (stops (due 7 refl refl)) goes

  constant_told : Tells (constant_at s limit)
  unfolding constant_at
  constant_told a = go_told a _ (number-told s _ _) (store_told a.at)

  secret-told : Tells (secret_at s limit from)
  unfolding secret_at
  secret-told a = go_told a _ (number-told s _ _) λ v b. either-told _ _ _ (store_told a.at v b) (stops (due 6 refl refl))

  operands_told : (f : State → Outcome) → Tells f → (c : ℕ) → Tells (operands_at s limit from f c)
  unfolding operands_at
  operands_told f h c a = either-told _ _ _ (constant_told a) (either-told _ _ _ (secret-told a) (twice-told f h a))

  expression_with_lem : (k : ℕ → ℕ → State → Outcome) → ((p c : ℕ) → Tells (k p c)) → Tells (expression_with s limit from k)
  unfolding expression_with
  expression_with_lem k h a = go_told a _ (word-told s _) λ w b. either-told _ _ _ (stops (due 3 refl refl)) (h _ _ b)

  expression_in_lem : (d p c : ℕ) → Tells (expression_in s limit from d p c)
  unfolding expression_in
  expression_in_lem zero p c a = stops (due 7 refl refl)
  expression_in_lem (suc d) p c a = then_told _ (store_told p c a) (operands_told _ (expression_with_lem _ (expression_in_lem d)) c)

  clauses_told : (f g : State → Outcome) → Tells f → Tells g → (c : ℕ) → Tells (clauses_at f g c)
  unfolding clauses_at
  clauses_told f g h k c a = either-told _ _ _ goes (either-told _ _ _ (twice-told f h a) (either-told _ _ _ (h a) (twice-told g k a)))

  condition_with_lem : (k : ℕ → ℕ → State → Outcome) → ((p c : ℕ) → Tells (k p c)) → Tells (condition_with s limit from k)
  unfolding condition_with
  condition_with_lem k h a = go_told a _ (word-told s _) λ w b. either-told _ _ _ (stops (due 3 refl refl)) (h _ _ b)

  condition_in_lem : (d p c : ℕ) → Tells (condition_in s limit from d p c)
  unfolding condition_in expression_at
  condition_in_lem zero p c a = stops (due 7 refl refl)
  condition_in_lem (suc d) p c a =
      then_told _ (store_told p c a) (clauses_told _ _ (condition_with_lem _ (condition_in_lem d)) (expression_with_lem _ (expression_in_lem d)) c)

  condition-told : (d : ℕ) → Tells (condition_at s limit from d)
  unfolding condition_at
  condition-told d = condition_with_lem _ (condition_in_lem d)

-- ---- contracts

abbrev ContractTold : ContractReader → Type 0
ContractTold contract = (b w : ℕ) → Tells (contract b w)

module _ (s : List ℕ) where
  leaf_told : (h : Head) (kind limit : ℕ) → Tells (leaf_at s h kind limit)
  unfolding leaf_at
  leaf_told h kind limit a = go_told a _ (number-told s _ _) λ p b. either-told _ _ _ goes (stops (due 6 refl refl))

  list-told : (secrets from : ℕ) → Tells (list_at s secrets from)
  unfolding list_at
  list-told secrets from a =
      go_told a _ (number-told s _ _) λ v b.
      either-told _ _ _ (stops (due 5 refl refl)) (either-told _ _ _ (stops (due 6 refl refl)) goes)

  module _ (contract : ContractReader) (told : ContractTold contract) where
    weighed_told : (b sum n : ℕ) → Tells (weighed_at s contract b sum n)
    unfolding weighed_at
    weighed_told b sum zero a = goes
    weighed_told b sum (suc n) a =
        go_told a _ (number-told s _ _) λ w c.
        either-told _ _ _ (stops (due 8 refl refl)) (then_told _ (told b w c) (weighed_told b (sum + w) n))

    split-told : (h : Head) → Tells (split_at s contract h)
    unfolding split_at
    split-told h a = go_told a _ (number-told s _ _) λ n b. either-told _ _ _ (stops (due 4 refl refl)) (weighed_told _ 0 n _)

    open_told : (h : Head) (n from : ℕ) → Tells (open_at s contract h n from)
    unfolding open_at hold_at
    open_told h n from a = then_told _ (condition-told s _ from 64 a) λ b. told _ 0 _

    reveal-told : (secrets : ℕ) (h : Head) → Tells (reveal_at s secrets contract h)
    unfolding reveal_at
    reveal-told secrets h a =
        go_told a _ (number-told s _ _) λ n b.
        either-told _ _ _ (stops (due 4 refl refl)) (then_told _ (times-told n _ (list-told secrets _) b) (open_told h n _))

    module _ (lim : Limits) where
      action-told : (h : Head) (p w : ℕ) (a : State) → StepTold (action_at s lim contract h p a w)
      unfolding action_at
      action-told h p w a =
          either-told _ _ _ (leaf_told h 0 _ a)
          (either-told _ _ _ (split-told h a)
          (either-told _ _ _ (reveal-told _ h a)
          (either-told _ _ _ (leaf_told h 3 _ a)
          (stops (due 3 refl refl)))))

      branch-told : (node : ℕ) → Tells (read_branch s lim contract node)
      unfolding read_branch
      branch-told node a =
          go_told a _ (number-told s _ _) λ g b.
          either-told _ _ _ (stops (due 6 refl refl))
          (either-told _ _ _ (stops (due 7 refl refl))
          (go_told b _ (number-told s _ _) λ t c.
          go_told c _ (word-told s _) λ w d.
          action-told _ c.at w d))

  contract_with_lem : (inside : ℕ → ContractReader) → ((p : ℕ) → ContractTold (inside p)) → ContractTold (contract_with s inside)
  unfolding contract_with
  contract_with_lem inside h b w a = go_told a _ (word-told s _) λ v c. either-told _ _ _ (h a.at b w c) (stops (due 3 refl refl))

  module _ (lim : Limits) where
    inside-told : (d p : ℕ) → ContractTold (inside_at s lim d p)
    unfolding inside_at
    inside-told zero p b w a = stops (due 7 refl refl)
    inside-told (suc d) p b w a =
        either-told _ _ _ (stops (due 7 refl refl))
        (go_told a _ (number-told s _ _) λ n c.
        times-told n _ (branch-told _ (contract_with_lem _ (inside-told d)) lim _) _)

    contract-told : (d : ℕ) → ContractTold (read_contract s lim d)
    unfolding read_contract
    contract-told d = contract_with_lem _ (inside-told d)

-- ---- lines

module _ (s : List ℕ) where
  deposits-told : (sum n : ℕ) → Tells (deposits_at s sum n)
  unfolding deposits_at
  deposits-told sum zero a = goes
  deposits-told sum (suc n) a = go_told a _ (number-told s _ _) λ v b. either-told _ _ _ (stops (due 7 refl refl)) (deposits-told (sum + v) n _)

  owner-told : (people : ℕ) → Tells (owner_at s people)
  unfolding owner_at
  owner-told people a = go_told a _ (number-told s _ _) λ v b. either-told _ _ _ goes (stops (due 6 refl refl))

  root_told : (z : Limits) (first n : ℕ) → Tells (root_at s z first n)
  unfolding root_at
  root_told z first n a = then_told _ (contract-told s _ 32 1024 0 _) λ b. go_told b _ (line-end-told s _) λ v c. goes

  owned_told : (z : Limits) (first : ℕ) → Tells (owned_at s z first)
  unfolding owned_at
  owned_told z first a = go_told a _ (number-told s _ _) λ n b. then_told _ (times-told n _ (owner-told _) b) (root_told z first n)

  define-told : (z : Limits) → Tells (define_at s z)
  unfolding define_at
  define-told z a =
      go_told a _ (first-told s _) λ w b.
      either-told _ _ _ (then_told _ (deposits-told 0 _ b) (owned_told z _)) (stops (due 3 refl refl))

-- the limit on bytes refuses by 7, and else by what was due without it
beyond-told : (q : ℕ) {w : Outcome} → StepTold w → StepTold (beyond q w)
unfolding beyond
beyond-told q goes = either-told _ _ _ goes (stops (due 7 refl refl))
beyond-told q (stops h) = either-told _ _ _ (stops h) (either-told _ _ _ (stops (due 7 refl refl)) (either-told _ _ _ (stops h) (stops (due 7 refl refl))))

limited-told : (s : List ℕ) {w : Outcome} → StepTold w → StepTold (limited s w)
unfolding limited
limited-told s h = either-told _ _ _ h (beyond-told _ h)

-- ---- the sheet

unfoldable LineTold : LineOne → Type 0
LineTold (one.Counts k n p) = Unit {0}
LineTold (one.Bad n p) = ReadNumber n

line-bad : (n p : ℕ) → ReadNumber n → LineTold (one.Bad n p)
unfolding LineTold
line-bad n p h = h

counts-told : (s : List ℕ) (p : ℕ) → LineTold (counts_at s p)
unfolding counts_at LineTold
counts-told s p =
    read_told LineTold one.Bad line-bad (between-told s p 1 16) _ λ k q.
    read_told LineTold one.Bad line-bad (between-told s q 1 32) _ λ n r.
    read_told LineTold one.Bad line-bad (line-end-told s r) _ λ v e. tt

line-told : (s : List ℕ) → LineTold (line_one_at s)
unfolding line_one_at
line-told s =
    read_told LineTold one.Bad line-bad (first-told s 0) _ λ w p.
    cond-told LineTold (eqb w (spelled "bitml")) (counts_at s p) (one.Bad 3 0) (counts-told s p) (line-bad 3 0 (due 3 refl refl))

unfoldable pub SheetTold : SheetRead → Type 0
SheetTold (accepted k at E) = Unit {0}
SheetTold (refused n p) = ReadNumber n

accept-told : (k : ℕ) {w : Outcome} → StepTold w → SheetTold (accept k w)
unfolding accept SheetTold
accept-told k goes = tt
accept-told k (stops h) = h

sheet_from_lem : (s : List ℕ) (l : LineOne) → LineTold l → SheetTold (sheet_from s l)
unfolding sheet_from LineTold
sheet_from_lem s (one.Counts k n p) h = accept-told k (limited-told s (times-told n _ (define-told s (sizes k n)) (blank p)))
sheet_from_lem s (one.Bad n p) h = accept-told 0 (limited-told s (stops h))

pub sheet-told : (s : List ℕ) → SheetTold (read_sheet s)
unfolding read_sheet
sheet-told s = sheet_from_lem s (line_one_at s) (line-told s)
