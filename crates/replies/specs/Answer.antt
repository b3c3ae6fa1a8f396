-- What is handed back for an answer, and what the lent buffers then hold. Assumes nothing.
use Rattle.std.specs.Prelude.{◌≡◌, ℕ, ◌-◌, List, [], ◌++◌, length, replicate}
use Rattle.bitml.specs.Answers.{Answer, refused, printed}
use Rattle.buffer.specs.Buffer.{filled}
use Rattle.texts.specs.Text.{lines_text}
use Rattle.replies.specs.declared.Reply.{Reply}

-- every reply fits a text buffer of so many bytes
abbrev pub least_text : ℕ
least_text = 180224

-- the value that is handed back: number 0 where the request is answered, and then how many bytes of text there are
unfoldable pub reply_of : Answer → Reply
reply_of (refused n l f) = record { number = n; line = l; field = f; length = 0 }
reply_of (printed ls R) = record { number = 0; line = 0; field = 0; length = length (lines_text ls) }

-- "The row buffer holds the rows .. and is zero past them; it is wholly zero after .. a refused request": a buffer of n numbers
unfoldable pub numbers_of : ℕ → Answer → List ℕ
numbers_of n (refused m l f) = filled n []
numbers_of n (printed ls R) = filled n R

-- the text buffer, of n bytes: what is printed, and zeros past it; zeros alone after a refused request
unfoldable pub bytes_of : ℕ → Answer → List ℕ
bytes_of n (refused m l f) = replicate n 0
bytes_of n (printed ls R) = lines_text ls ++ replicate (n - length (lines_text ls)) 0

-- a function with lent buffers of n numbers and m bytes gives answer a: the value, and all that the buffers hold then
pub record Gives (a : Answer) (n m : ℕ) (r : Reply) (numbers bytes : List ℕ) : Type 0 where
  pub reply : r ≡ reply_of a
  pub rows : numbers ≡ numbers_of n a
  pub text : bytes ≡ bytes_of m a
