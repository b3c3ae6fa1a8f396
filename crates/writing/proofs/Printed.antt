-- The text of a sheet is bytes. Assumes nothing.
use Prim.Native.Nat.{ℕ, zero, suc, ◌+◌, ◌/◌, ◌%◌, ◌<◌}
use Prim.Native.Char.{code}
use mathlib.Core.Path.{◌≡◌, refl}
use mathlib.Core.Bool.{Bool, true, false, cond}
use mathlib.Core.List.{List, [], ◌∷◌}
use native.Mathlib.Omega.{arith}
use lib.ListN.{length}
use lib.Dec.{eqb, ltb}
use borrow.Author.Tests.{ltb-true}
use Rattle.bitml.specs.Lists.{◌&◌, every, All, nil, cons}
use Rattle.bitml.proofs.Lists.{and_l, and_r, all-at, all_append}
use Rattle.fields.proofs.Ranges.{cond_cases}
use Rattle.tables.specs.Entries.{BranchEntry, Entries}
use Rattle.tables.specs.SheetOf.{node_entry_at, branch_entry_at, def_entry_at, listed_at, cell_at}
use Rattle.texts.specs.Text.{letters, digits, decimal, field, fields, line}
use Rattle.writing.specs.Back.{Text}
use Rattle.writing.specs.Written.{Place, Writer, say, ◌then◌, repeat, node_done, branch_done, def_done, listed_done, cell_done, word, condition_word, expression_word, number_text, operands_text, expression_text, clauses_text, condition_text, listed_text, part_text, leaf_text, split_text, reveal_text, action_text, branch_text, contract_text, def_text, start, sheet_text}

unfoldable Byte : ℕ → Type 0
Byte b = b < 256

-- ---- numbers, words and lines

digits-printed : (k n : ℕ) → All Byte (digits k n)
unfolding digits Byte
digits-printed zero n = nil
digits-printed (suc k) n = cond_cases (All Byte) (ltb n 10) _ _
    (λ h. let l = ltb-true n 10 h in cons {x = code "0" + n} (omega arith) nil)
    (λ h. all_append (digits-printed k (n / 10)) (cons {x = code "0" + n % 10} (omega arith) nil))

field-printed : (n : ℕ) → All Byte (field n)
unfolding field decimal Byte
field-printed n = cons {x = code ","} (omega arith) (digits-printed 20 n)

-- bytes that are spelled out
spelled-printed : (xs : List ℕ) → every (λ b. ltb b 256) xs ≡ true → All Byte xs
unfolding Byte
spelled-printed [] e = nil
spelled-printed (x ∷ xs) e = cons (ltb-true x 256 (and_l (ltb x 256) _ e)) (spelled-printed xs (and_r (ltb x 256) _ e))

fields-printed : (ns : List ℕ) → All Byte (fields ns)
unfolding fields
fields-printed [] = nil
fields-printed (n ∷ ns) = all_append (field-printed n) (fields-printed ns)

line-printed : (w ns : List ℕ) → All Byte w → All Byte (line w ns)
unfolding line ◌&◌
line-printed w ns h = all_append (all_append h (fields-printed ns)) (spelled-printed (code "\n" ∷ []) refl)

condition-printed : (c : ℕ) → All Byte (condition_word c)
unfolding condition_word ◌&◌
condition-printed c =
    cond_cases (All Byte) (eqb c 0) _ _ (λ h. spelled-printed (word "t") refl) λ h.
    cond_cases (All Byte) (eqb c 1) _ _ (λ h. spelled-printed (word "and") refl) λ h.
    cond_cases (All Byte) (eqb c 2) _ _ (λ h. spelled-printed (word "not") refl) λ h.
    cond_cases (All Byte) (eqb c 3) _ _ (λ h. spelled-printed (word "eq") refl) λ h. spelled-printed (word "lt") refl

expression_printed : (c : ℕ) → All Byte (expression_word c)
unfolding expression_word ◌&◌
expression_printed c =
    cond_cases (All Byte) (eqb c 0) _ _ (λ h. spelled-printed (word "k") refl) λ h.
    cond_cases (All Byte) (eqb c 1) _ _ (λ h. spelled-printed (word "v") refl) λ h.
    cond_cases (All Byte) (eqb c 2) _ _ (λ h. spelled-printed (word "add") refl) λ h. spelled-printed (word "sub") refl

-- ---- writers

record Prints (f : Writer) : Type 0 where
  bytes : (p : Place) → All Byte (f p).0

prints_say : {t : List ℕ} → All Byte t → Prints (say t)
unfolding say
prints_say h = record { bytes = λ p. h }

prints_field : (n : ℕ) → Prints (say (field n))
prints_field n = prints_say (field-printed n)

prints_then : {f g : Writer} → Prints f → Prints g → Prints (f then g)
unfolding ◌then◌
prints_then {f} {g} h k = record { bytes = λ p. all_append (h.bytes p) (k.bytes (f p).1) }

prints_repeat : (n : ℕ) {f : Writer} → Prints f → Prints (repeat n f)
unfolding repeat
prints_repeat zero h = prints_say nil
prints_repeat (suc n) h = prints_then h (prints_repeat n h)

prints_cond : (b : Bool) (f g : Writer) → Prints f → Prints g → Prints (cond b f g)
prints_cond true f g h k = h
prints_cond false f g h k = k

-- what is written may depend on the place
prints_at : (f : Place → Writer) → ((p : Place) → Prints (f p)) → Prints (λ p. f p p)
prints_at f h = record { bytes = λ p. (h p).bytes p }

node_done_lem : Prints node_done
unfolding node_done
node_done_lem = record { bytes = λ p. nil }

branch-done : Prints branch_done
unfolding branch_done
branch-done = record { bytes = λ p. nil }

def-done : Prints def_done
unfolding def_done
def-done = record { bytes = λ p. nil }

listed-done : Prints listed_done
unfolding listed_done
listed-done = record { bytes = λ p. nil }

cell-done : Prints cell_done
unfolding cell_done
cell-done = record { bytes = λ p. nil }

-- ---- the sheet

leaf_prints : {w : List ℕ} (n : ℕ) → All Byte w → Prints (leaf_text w n)
unfolding leaf_text
leaf_prints n h = prints_then (prints_say h) (prints_then (prints_field n) branch-done)

module _ (E : Entries) where
  number_prints : Prints (number_text E)
  unfolding number_text
  number_prints = prints_at (λ p. say (field (cell_at E p.cell)) then cell_done) λ p. prints_then (prints_field _) cell-done

  operands_prints : (f : Writer) (c : ℕ) → Prints f → Prints (operands_text E f c)
  unfolding operands_text
  operands_prints f c h = prints_cond (eqb c 0) _ _ number_prints (prints_cond (eqb c 1) _ _ number_prints (prints_then h h))

  expression_prints : (d : ℕ) → Prints (expression_text E d)
  unfolding expression_text
  expression_prints zero = record { bytes = λ p. nil }
  expression_prints (suc d) =
      prints_at (λ p. say (expression_word (cell_at E p.cell)) then cell_done then operands_text E (expression_text E d) (cell_at E p.cell)) λ p.
      prints_then (prints_say (expression_printed (cell_at E p.cell))) (prints_then cell-done (operands_prints _ (cell_at E p.cell) (expression_prints d)))

  clauses_prints : (f g : Writer) (c : ℕ) → Prints f → Prints g → Prints (clauses_text E f g c)
  unfolding clauses_text
  clauses_prints f g c h k =
      prints_cond (eqb c 0) _ _ (prints_say nil) (prints_cond (eqb c 1) _ _ (prints_then h h) (prints_cond (eqb c 2) _ _ h (prints_then k k)))

  condition_prints : (d : ℕ) → Prints (condition_text E d)
  unfolding condition_text
  condition_prints zero = record { bytes = λ p. nil }
  condition_prints (suc d) =
      prints_at (λ p. say (condition_word (cell_at E p.cell)) then cell_done then clauses_text E (condition_text E d) (expression_text E d) (cell_at E p.cell)) λ p.
      prints_then (prints_say (condition-printed (cell_at E p.cell)))
      (prints_then cell-done (clauses_prints _ _ (cell_at E p.cell) (condition_prints d) (expression_prints d)))

  listed_prints : Prints (listed_text E)
  unfolding listed_text
  listed_prints = prints_at (λ p. say (field (listed_at E p.listed)) then listed_done) λ p. prints_then (prints_field _) listed-done

  module _ (f : Writer) (h : Prints f) where
    part_prints : Prints (part_text E f)
    unfolding part_text
    part_prints = prints_at (λ p. say (field (node_entry_at E p.node).weight) then f) λ p. prints_then (prints_field _) h

    split_prints : (n : ℕ) → Prints (split_text E f n)
    unfolding split_text ◌&◌
    split_prints n = prints_then (leaf_prints n (spelled-printed (word "s") refl)) (prints_repeat n part_prints)

    reveal_prints : (n : ℕ) → Prints (reveal_text E f n)
    unfolding reveal_text ◌&◌
    reveal_prints n =
        prints_then (prints_say (spelled-printed (word "r") refl))
        (prints_then (prints_field n) (prints_then (prints_repeat n listed_prints) (prints_then (condition_prints 64) (prints_then branch-done h))))

    action_prints : (e : BranchEntry) → Prints (action_text E f e)
    unfolding action_text ◌&◌
    action_prints e =
        prints_cond (eqb e.kind 0) _ _ (leaf_prints e.arg (spelled-printed (word "w") refl))
        (prints_cond (eqb e.kind 1) _ _ (split_prints e.arg)
        (prints_cond (eqb e.kind 2) _ _ (reveal_prints e.count)
        (leaf_prints e.arg (spelled-printed (word "g") refl))))

    branch_prints : Prints (branch_text E f)
    unfolding branch_text
    branch_prints =
        prints_at (λ p. say (field (branch_entry_at E p.branch).signers) then say (field (branch_entry_at E p.branch).opens) then action_text E f (branch_entry_at E p.branch)) λ p.
        prints_then (prints_field _) (prints_then (prints_field _) (action_prints (branch_entry_at E p.branch)))

  contract_prints : (d : ℕ) → Prints (contract_text E d)
  unfolding contract_text ◌&◌
  contract_prints zero = record { bytes = λ p. nil }
  contract_prints (suc d) =
      prints_at (λ p. say (word "c") then say (field (node_entry_at E p.node).count) then node_done then repeat (node_entry_at E p.node).count (branch_text E (contract_text E d))) λ p.
      prints_then (prints_say (spelled-printed (word "c") refl))
      (prints_then (prints_field _) (prints_then node_done_lem (prints_repeat (node_entry_at E p.node).count (branch_prints _ (contract_prints d)))))

  def_prints : (K : ℕ) → Prints (def_text E K)
  unfolding def_text ◌&◌
  def_prints K =
      prints_at (λ p. say (letters "def") then repeat K (listed_text E) then say (field (def_entry_at E p.def).secrets) then repeat (def_entry_at E p.def).secrets (listed_text E)
      then def_done then contract_text E 32 then say (code "\n" ∷ [])) λ p.
      prints_then (prints_say (spelled-printed (letters "def") refl)) (prints_then (prints_repeat K listed_prints) (prints_then (prints_field _)
      (prints_then (prints_repeat (def_entry_at E p.def).secrets listed_prints) (prints_then def-done (prints_then (contract_prints 32)
      (prints_say (spelled-printed (code "\n" ∷ []) refl)))))))

sheet-printed : (K : ℕ) (E : Entries) → All Byte (sheet_text K E)
unfolding sheet_text ◌&◌
sheet-printed K E =
    all_append (line-printed (letters "bitml") (K ∷ length E.defs ∷ []) (spelled-printed (letters "bitml") refl))
    ((prints_repeat (length E.defs) (def_prints E K)).bytes start)

pub text-printed : (K : ℕ) (E : Entries) → Text (sheet_text K E)
unfolding Byte
text-printed K E i = all-at Byte i 0 (omega arith) (sheet-printed K E)
