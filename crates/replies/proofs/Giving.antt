-- What is written is what is answered. Assumes nothing.
use mathlib.Core.Path.{◌≡◌, refl, sym, ap, subst}
use Prim.Native.Nat.{ℕ}
use native.Mathlib.Omega.{arith}
use mathlib.Core.List.{List, []}
use lib.ListN.{length, replicate}
use Rattle.bitml.specs.Rows.{Row}
use Rattle.bitml.specs.Answers.{Line, Answer, refused, printed}
use Rattle.buffer.specs.Buffer.{filled}
use Rattle.texts.specs.Text.{lines_text}
use Rattle.texts.specs.Wrote.{Wrote}
use Rattle.texts.proofs.Writing.{wrote-all}
use Rattle.replies.specs.declared.Reply.{Reply}
use Rattle.replies.specs.Answer.{reply_of, numbers_of, bytes_of, Gives}

-- lines into a text buffer of zeros, and rows into the row buffer
pub gives_printed : (ls : List Line) (R : List Row) (n m k : ℕ) (u z b : List ℕ) → z ≡ replicate m 0 → Wrote z 0 (lines_text ls) b k → u ≡ filled n R
    → Gives (printed ls R) n m (record { number = 0; line = 0; field = 0; length = k }) u b
unfolding reply_of numbers_of bytes_of
gives_printed ls R n m k u z b c w e =
    let long : k ≡ length (lines_text ls) = omega (arith, w.end) in
    record {
      reply = ap (λ (j : ℕ). record { number = 0; line = 0; field = 0; length = j }) long;
      rows = e;
      text = wrote-all m (subst (λ xs. Wrote xs 0 (lines_text ls) b k) c w);
    }

-- zeros in both buffers
pub gives_refused : (n m number line field : ℕ) (u z : List ℕ) → z ≡ replicate m 0 → u ≡ filled n [] → Gives (refused number line field) n m (record { number = number; line = line; field = field; length = 0 }) u z
unfolding reply_of numbers_of bytes_of
gives_refused n m number line field u z c e = record { reply = refl; rows = e; text = c }

pub gives_as : {a : Answer} {n m : ℕ} {r q : Reply} {u b : List ℕ} → r ≡ q → Gives a n m q u b → Gives a n m r u b
gives_as {a} {n} {m} {r} {q} {u} {b} e g = subst (λ x. Gives a n m x u b) (sym e) g

pub gives_long : {a : Answer} {n n' m m' : ℕ} {r : Reply} {u b : List ℕ} → Gives a n m r u b → n ≡ n' → m ≡ m' → Gives a n' m' r u b
gives_long {a} {n} {n'} {m} {m'} {r} {u} {b} g e f = subst (λ k. Gives a k m' r u b) e (subst (λ k. Gives a n k r u b) f g)
