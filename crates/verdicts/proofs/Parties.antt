-- The verdicts of all participants, one behind the other. Assumes nothing.
use mathlib.Core.Path.{◌≡◌, refl, sym, ap, ap₂, ◌∙◌, subst}
use Prim.Native.Nat.{ℕ, ◌+◌, ◌-◌, ◌*◌, ◌≤◌}
use native.Mathlib.Omega.{arith}
use mathlib.Core.List.{List, ◌++◌, append_assoc}
use lib.ListN.{length, take, drop, replicate, length-append, length-replicate}
use lib.Seq.{take-append_seam, drop-append_seam, drop-drop}
use Rattle.bitml.specs.Lists.{gather, below}
use Rattle.bitml.specs.Sheet.{Sheet}
use Rattle.bitml.specs.Rows.{Row}
use Rattle.bitml.specs.Rule.{make}
use Rattle.bitml.specs.Answers.{Line, printed, no_row, padded, made_lines, made_rows, making_all, made_for_all, answer, places_of_one}
use Rattle.bitml.proofs.Lists.{gather-length, length_up, all-mem}
use Rattle.bitml.proofs.Counting.{gather-up}
use Rattle.tables.specs.Entries.{flat}
use Rattle.buffer.specs.Buffer.{row_wide, past_rows, row_numbers, filled, numbers_of_one}
use Rattle.buffer.proofs.Buffer.{numbers-length, numbers-append, numbers_zeros, past_filled}
use Rattle.exits.specs.Made.{buffer_of}
use Rattle.texts.specs.Text.{lines_text}
use Rattle.texts.specs.Wrote.{Wrote}
use Rattle.texts.proofs.Texts.{lines-append}
use Rattle.texts.proofs.Writing.{wrote_none, wrote_then}
use Rattle.replies.specs.Answer.{Gives}
use Rattle.replies.proofs.Giving.{gives_printed}
use Rattle.verdicts.specs.Parties.{lines_up_to, numbers_up_to}
use Rattle.verdicts.proofs.Verdicts.{buffer_is}

-- ---- the places of one

pub padded-length : (R : List Row) → length R ≤ places_of_one → length (padded R) ≡ places_of_one
unfolding padded
padded-length R h = omega (arith, length-append R (replicate (places_of_one - length R) no_row), length-replicate (places_of_one - length R) no_row)

padded-flat : (R : List Row) → length R ≤ places_of_one → row_numbers (padded R) ≡ filled numbers_of_one R
unfolding padded filled
padded-flat R h =
    numbers-append R (replicate (places_of_one - length R) no_row)
    ∙ ap (λ xs. row_numbers R ++ xs) (numbers_zeros (places_of_one - length R) ∙ ap (λ k. replicate k 0) (let z : row_wide * (places_of_one - length R) ≡ numbers_of_one - row_wide * length R = omega arith in z))

module _ (s : Sheet) (few : (i : ℕ) → length (made_rows (make s i)) ≤ places_of_one) where
  abbrev places : ℕ → List Row
  places p = gather (λ i. padded (made_rows (make s i))) (below p)

  pub places-length : (p : ℕ) → length (places p) ≡ places_of_one * p
  places-length p = gather-length (λ i. padded (made_rows (make s i))) places_of_one (below p) (all-mem _ (below p) λ i h. padded-length _ (few i)) ∙ ap (λ k. places_of_one * k) (length_up 0 p)

  places-flat : (p : ℕ) → length (row_numbers (places p)) ≡ numbers_of_one * p
  places-flat p = omega (arith, numbers-length (places p), places-length p)

  -- ---- the row buffer, participant by participant

  pub numbers-none : (u : List ℕ) → u ≡ numbers_up_to s 0 u
  unfolding numbers_up_to flat
  numbers-none u = refl

  pub numbers-next : (p w n : ℕ) (u v g : List ℕ) → w ≡ numbers_of_one → n ≡ numbers_of_one → v ≡ numbers_up_to s p u → g ≡ buffer_of n (make s p)
      → take (numbers_of_one * p) v ++ (g ++ drop w (drop (numbers_of_one * p) v)) ≡ numbers_up_to s (p + 1) u
  unfolding numbers_up_to
  numbers-next p w n u v g ew en e f =
      let F = row_numbers (places p) in
      let l : numbers_of_one * p ≡ length F = sym (places-flat p) in
      let a : take (numbers_of_one * p) v ≡ F = ap₂ take l e ∙ take-append_seam F (drop (numbers_of_one * p) u) in
      let b : drop (numbers_of_one * p) v ≡ drop (numbers_of_one * p) u = ap₂ drop l e ∙ drop-append_seam F (drop (numbers_of_one * p) u) in
      let c : drop w (drop (numbers_of_one * p) v) ≡ drop (numbers_of_one * (p + 1)) u = ap₂ drop ew b ∙ drop-drop numbers_of_one (numbers_of_one * p) u ∙ ap (λ k. drop k u) (let z : numbers_of_one * p + numbers_of_one ≡ numbers_of_one * (p + 1) = omega arith in z) in
      let d : g ≡ row_numbers (padded (made_rows (make s p))) = f ∙ ap (λ k. buffer_of k (make s p)) en ∙ buffer_is numbers_of_one (make s p) ∙ sym (padded-flat _ (few p)) in
      let h : row_numbers (places (p + 1)) ≡ F ++ row_numbers (padded (made_rows (make s p))) = ap row_numbers (gather-up (λ i. padded (made_rows (make s i))) p) ∙ numbers-append (places p) (padded (made_rows (make s p))) in
      ap₂ (λ x y. x ++ (g ++ y)) a c ∙ ap (λ x. F ++ (x ++ drop (numbers_of_one * (p + 1)) u)) d
      ∙ sym (append_assoc F (row_numbers (padded (made_rows (make s p)))) (drop (numbers_of_one * (p + 1)) u)) ∙ ap (λ x. x ++ drop (numbers_of_one * (p + 1)) u) (sym h)

  -- ---- the text

  pub lines_none : (u : List ℕ) → Wrote u 0 (lines_up_to s 0) u 0
  unfolding lines_up_to lines_text
  lines_none u = wrote_none u 0

  pub lines_next : (p : ℕ) {u v w : List ℕ} {a b : ℕ} → Wrote u 0 (lines_up_to s p) v a → Wrote v a (lines_text (made_lines s p (make s p))) w b → Wrote u 0 (lines_up_to s (p + 1)) w b
  unfolding lines_up_to
  lines_next p {u} {w = w} {b = b} x y =
      let f : ℕ → List Line = λ i. made_lines s i (make s i) in
      subst (λ zs. Wrote u 0 zs w b) (sym (ap lines_text (gather-up f p) ∙ lines-append (gather f (below p)) (f p))) (wrote_then x y)

  -- ---- all of them

  -- the buffer u was cleared behind the places of all
  pub all_gives : (K n m k : ℕ) (Q : List Row) (u v z b : List ℕ) → s.participants ≡ K → length Q ≡ places_of_one * K → u ≡ filled n Q → v ≡ numbers_up_to s K u → z ≡ replicate m 0
      → Wrote z 0 (lines_up_to s K) b k → Gives (answer (making_all s)) n m (record { number = 0; line = 0; field = 0; length = k }) v b
  unfolding answer made_for_all lines_up_to numbers_up_to filled past_rows
  all_gives K n m k Q u v z b e l f g c w =
      let a : answer (making_all s) ≡ printed (gather (λ i. made_lines s i (make s i)) (below K)) (places K) =
      ap (λ j. printed (gather (λ i. made_lines s i (make s i)) (below j)) (places j)) e in
      subst (λ x. Gives x n m (record { number = 0; line = 0; field = 0; length = k }) v b) (sym a) (gives_printed _ (places K) n m k v z b c w
      (g ∙ ap (λ xs. row_numbers (places K) ++ xs) (ap₂ drop (let y : numbers_of_one * K ≡ row_wide * length Q = omega arith in y) f ∙ past_filled n Q
      ∙ ap (λ j. replicate j 0) (let y : n - row_wide * length Q ≡ n - row_wide * length (places K) = omega (arith, places-length K) in y))))
