-- What lists numbers or writes a condition leaves the branch and the definition that are due. Assumes nothing.
use Prim.Native.Nat.{ℕ, zero, suc, ◌+◌, ◌≤◌, ◌<◌}
use Rattle.std.specs.Prelude.{Some}
use mathlib.Core.Path.{◌≡◌, refl, ap, ◌∙◌}
use mathlib.Core.List.{List}
use native.Mathlib.Omega.{arith}
use lib.ListN.{length}
use lib.Dec.{eqb}
use Rattle.fields.proofs.Ranges.{cond_cases}
use Rattle.tables.specs.Entries.{Entries}
use Rattle.tables.specs.SheetOf.{cell_at}
use Rattle.writing.specs.Written.{Place, Writer, say, ◌then◌, repeat, branch_done, def_done, listed_done, cell_done, number_text, listed_text, operands_text, expression_text, clauses_text, condition_text}
use Rattle.texts.specs.Text.{field}
use Rattle.writer.specs.Putting.{due, Small, Puts}
use Rattle.writer.proofs.Putting.{went, small, ahead, branch_used, def_used}
use Rattle.writer.specs.declared.Pen.{Pen}

unfoldable pub Keeps : Writer → Type 0
Keeps f = (x : Place) → ((f x).1.branch ≡ x.branch) × ((f x).1.def ≡ x.def)

pub keeps_say : (t : List ℕ) → Keeps (say t)
unfolding Keeps say
keeps_say t x = (refl, refl)

keeps_then : (f g : Writer) → Keeps f → Keeps g → Keeps (f then g)
unfolding Keeps ◌then◌
keeps_then f g h k x = ((k (f x).1).0 ∙ (h x).0, (k (f x).1).1 ∙ (h x).1)

pub keeps_repeat : (n : ℕ) (f : Writer) → Keeps f → Keeps (repeat n f)
unfolding repeat
keeps_repeat zero f h = keeps_say _
keeps_repeat (suc n) f h = keeps_then f (repeat n f) h (keeps_repeat n f h)

keeps_cell : Keeps cell_done
unfolding Keeps cell_done
keeps_cell x = (refl, refl)

module _ (E : Entries) where
  pub keeps_listed : Keeps (listed_text E)
  unfolding Keeps listed_text ◌then◌ say listed_done
  keeps_listed x = (refl, refl)

  keeps_number : Keeps (number_text E)
  unfolding Keeps number_text ◌then◌ say cell_done
  keeps_number x = (refl, refl)

  keeps_operands : (f : Writer) (c : ℕ) → Keeps f → Keeps (operands_text E f c)
  unfolding operands_text
  keeps_operands f c h =
      cond_cases Keeps (eqb c 0) (number_text E) _ (λ e. keeps_number) λ e.
      cond_cases Keeps (eqb c 1) (number_text E) (f then f) (λ i. keeps_number) λ i. keeps_then f f h h

  keeps_expression : (d : ℕ) → Keeps (expression_text E d)
  unfolding Keeps expression_text
  keeps_expression zero x = (refl, refl)
  keeps_expression (suc d) x =
      keeps_then (say _) (cell_done then operands_text E (expression_text E d) (cell_at E x.cell)) (keeps_say _)
      (keeps_then cell_done (operands_text E (expression_text E d) (cell_at E x.cell)) keeps_cell (keeps_operands (expression_text E d) (cell_at E x.cell) (keeps_expression d))) x

  keeps_clauses : (f g : Writer) (c : ℕ) → Keeps f → Keeps g → Keeps (clauses_text E f g c)
  unfolding clauses_text
  keeps_clauses f g c h k =
      cond_cases Keeps (eqb c 0) (say _) _ (λ e. keeps_say _) λ e.
      cond_cases Keeps (eqb c 1) (f then f) _ (λ i. keeps_then f f h h) λ i.
      cond_cases Keeps (eqb c 2) f (g then g) (λ j. h) λ j. keeps_then g g k k

  pub keeps_condition : (d : ℕ) → Keeps (condition_text E d)
  unfolding Keeps condition_text
  keeps_condition zero x = (refl, refl)
  keeps_condition (suc d) x =
      keeps_then (say _) (cell_done then clauses_text E (condition_text E d) (expression_text E d) (cell_at E x.cell)) (keeps_say _)
      (keeps_then cell_done (clauses_text E (condition_text E d) (expression_text E d) (cell_at E x.cell)) keeps_cell
      (keeps_clauses (condition_text E d) (expression_text E d) (cell_at E x.cell) (keeps_condition d) (keeps_expression d))) x

-- so they stay below the position
module _ (f : Writer) (h : Keeps f) {u₀ u : List ℕ} {p q : Pen} (w : Puts u₀ p.at (f (due p)) (Some q) u) where
  pub kept_branch : p.branch < p.at → q.branch < q.at
  unfolding Keeps
  kept_branch l = let a = went w in omega (arith, a.wrote.end, ap (λ x. x.branch) a.place, (h (due p)).0, l)

  pub kept_def : p.def < p.at → q.def < q.at
  unfolding Keeps
  kept_def l = let a = went w in omega (arith, a.wrote.end, ap (λ x. x.def) a.place, (h (due p)).1, l)

module _ (E : Entries) (t : List ℕ) {u₀ u₁ u₂ u₃ u : List ℕ} {p q l e f : Pen} (s : Small p) (some : 1 ≤ length t) (a : Puts u₀ p.at (say t (due p)) (Some q) u₁) where
  -- after a word, a number, listed numbers and a condition the branch is used up
  pub reveal_used : (n d : ℕ) → Puts u₁ q.at (say (field n) (due q)) (Some l) u₂ → Puts u₂ l.at (repeat n (listed_text E) (due l)) (Some e) u₃
      → Puts u₃ e.at (condition_text E d (due e)) (Some f) u → Puts u f.at (branch_done (due f)) (Some (record f { branch = f.branch + 1 })) u
  reveal_used n d b c g =
      branch_used (small g)
      (kept_branch (condition_text E d) (keeps_condition E d) g
      (kept_branch (repeat n (listed_text E)) (keeps_repeat n (listed_text E) (keeps_listed E)) c
      (kept_branch (say (field n)) (keeps_say (field n)) b (ahead t s some a).branches)))

  -- after `def`, deposits, the count of secrets and owners the definition is used up
  pub owned_used : (K n : ℕ) → Puts u₁ q.at (repeat K (listed_text E) (due q)) (Some l) u₂ → Puts u₂ l.at (say (field n) (due l)) (Some e) u₃
      → Puts u₃ e.at (repeat n (listed_text E) (due e)) (Some f) u → Puts u f.at (def_done (due f)) (Some (record f { def = f.def + 1 })) u
  owned_used K n b c g =
      def_used (small g)
      (kept_def (repeat n (listed_text E)) (keeps_repeat n (listed_text E) (keeps_listed E)) g
      (kept_def (say (field n)) (keeps_say (field n)) c
      (kept_def (repeat K (listed_text E)) (keeps_repeat K (listed_text E) (keeps_listed E)) b (ahead t s some a).defs)))
