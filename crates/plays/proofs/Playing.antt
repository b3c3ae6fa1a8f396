-- The text of a play, one event more. Assumes nothing.
use mathlib.Core.Path.{◌≡◌, ap₂, subst}
use mathlib.Core.Option.{Option}
use mathlib.Core.Bool.{Bool, true, false}
use mathlib.Core.List.{List, [], ◌∷◌}
use Prim.Native.Nat.{ℕ, zero, suc, ◌+◌, ◌≤◌}
use native.Mathlib.Omega.{arith}
use lib.ListN.{length, replicate}
use Rattle.bitml.specs.Lists.{ask}
use Rattle.bitml.specs.Sheet.{Sheet}
use Rattle.bitml.specs.Ledger.{Ledger, Event, wait, sign, tell, fire, renew, refusal, stipulated}
use Rattle.bitml.specs.Limits.{within, or_limit, limited_refusal, limited_step, answers, limited_play}
use Rattle.bitml.specs.Answers.{playing, event_line, event_lines, end_of, play_lines, answer}
use Rattle.buffer.specs.Buffer.{filled}
use Rattle.texts.specs.Text.{line_text, lines_text}
use Rattle.texts.specs.Wrote.{Wrote}
use Rattle.texts.proofs.Coming.{Coming, coming_line, coming_none}
use Rattle.texts.proofs.Lengths.{answer-short}
use Rattle.replies.specs.Answer.{Gives}
use Rattle.replies.proofs.Giving.{gives_printed}

-- ---- an answer is a number of document 01's list

ask-most : (t : Bool) (k rest : ℕ) → k ≤ 19 → rest ≤ 19 → ask t k rest ≤ 19
unfolding ask
ask-most true k rest h l = l
ask-most false k rest h l = h

refusal-most : (s : Sheet) (l : Ledger) (e : Event) → refusal s l e ≤ 19
unfolding refusal
refusal-most s l (wait d) = ask-most _ 4 0 (omega arith) (omega arith)
refusal-most s l (sign p c b) = ask-most _ 14 _ (omega arith) (ask-most _ 16 0 (omega arith) (omega arith))
refusal-most s l (tell i j) = ask-most _ 17 0 (omega arith) (omega arith)
refusal-most s l (fire c b) =
    ask-most _ 14 _ (omega arith) (ask-most _ 15 _ (omega arith) (ask-most _ 16 _ (omega arith) (ask-most _ 17 0 (omega arith) (omega arith))))
refusal-most s l (renew c b vs) =
    ask-most _ 14 _ (omega arith) (ask-most _ 15 _ (omega arith) (ask-most _ 16 _ (omega arith) (ask-most _ 18 0 (omega arith) (omega arith))))

limit_most : (k : ℕ) (fits : Bool) → k ≤ 19 → or_limit k fits ≤ 19
limit_most zero fits h = ask-most fits 19 0 (omega arith) h
limit_most (suc k) fits h = h

-- so its line, where there are fewer than 100,000 lines, has 19 bytes at the most
pub answer-most : (s : Sheet) (l : Ledger) (e : Event) (k : ℕ) → k ≤ 99_999 → length (line_text (event_line k (limited_refusal s l e))) ≤ 19
unfolding limited_refusal
answer-most s l e k h =
    let m = limit_most (refusal s l e) (within s l e) (refusal-most s l e) in
    answer-short k (or_limit (refusal s l e) (within s l e)) (omega arith) h

-- ---- the text, as it grows

abbrev pub play_text : Sheet → Ledger → ℕ → List Event → List ℕ
play_text s l k es = lines_text (play_lines s l k es)

module _ {u₀ whole u v : List ℕ} {a b c : ℕ} (s : Sheet) (l : Ledger) (k : ℕ) where
  pub coming_more : (e : Event) (es : List Event) → Coming u₀ a whole u b (play_text s l k (e ∷ es)) → Wrote u b (line_text (event_line k (limited_refusal s l e))) v c
      → Coming u₀ a whole v c (play_text s (limited_step s l e) (suc k) es)
  unfolding play_lines event_lines answers limited_play
  coming_more e es = coming_line _ _

  pub coming_end : Coming u₀ a whole u b (play_text s l k []) → Wrote u b (line_text (end_of l)) v c → Wrote u₀ a whole v c
  unfolding play_lines event_lines answers limited_play
  coming_end t x = coming_none (coming_line (end_of l) [] t x)

-- the whole text is the answer
pub play_gives : (s : Sheet) (vs : List (Option ℕ)) (es : List Event) (l : Ledger) (first n m k : ℕ) (u z b : List ℕ) → l ≡ stipulated s vs → first ≡ length s.defs + 3
    → z ≡ replicate m 0 → u ≡ filled n [] → Wrote z 0 (play_text s l first es) b k → Gives (answer (playing s vs es)) n m (record { number = 0; line = 0; field = 0; length = k }) u b
unfolding answer
play_gives s vs es l first n m k u z b hl hf c e w =
    gives_printed (play_lines s (stipulated s vs) (length s.defs + 3) es) [] n m k u z b c (subst (λ xs. Wrote z 0 xs b k) (ap₂ (λ p i. play_text s p i es) hl hf) w) e
