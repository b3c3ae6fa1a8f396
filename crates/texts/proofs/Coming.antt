-- Lines of which the first are written and the others still to come. Assumes nothing.
use Prim.Native.Nat.{ℕ}
use mathlib.Core.List.{List, [], ◌∷◌}
use Rattle.bitml.specs.Answers.{Line}
use Rattle.texts.specs.Text.{line_text, lines_text}
use Rattle.texts.specs.Wrote.{Wrote}
use Rattle.texts.proofs.Writing.{wrote_none, wrote_then}

-- A buffer that was u₀ has become u: what follows at b, once it is written, makes up the whole from `a` on
pub record Coming (u₀ : List ℕ) (a : ℕ) (whole u : List ℕ) (b : ℕ) (rest : List ℕ) : Type 0 where
  done : (v : List ℕ) (c : ℕ) → Wrote u b rest v c → Wrote u₀ a whole v c

pub coming_all : (u : List ℕ) (a : ℕ) (whole : List ℕ) → Coming u a whole u a whole
coming_all u a whole = record { done = λ v c w. w }

pub coming_line : {u₀ whole u v : List ℕ} {a b c : ℕ} (l : Line) (ls : List Line) → Coming u₀ a whole u b (lines_text (l ∷ ls)) → Wrote u b (line_text l) v c → Coming u₀ a whole v c (lines_text ls)
unfolding lines_text
coming_line l ls m x = record { done = λ z d w. m.done z d (wrote_then x w) }

pub coming_none : {u₀ whole u : List ℕ} {a b : ℕ} → Coming u₀ a whole u b (lines_text []) → Wrote u₀ a whole u b
unfolding lines_text
coming_none {u = u} {b = b} m = m.done u b (wrote_none u b)
