-- A table written as text into a buffer that a caller lends: the reply, and every byte afterwards. Assumes nothing.
use Rattle.std.specs.Prelude.{ℕ, cond, List, ◌++◌, length, drop, leb}
use Rattle.std.proofs.Math.Option.{Option, some, none}
use Rattle.tables.specs.Entries.{held, people, table_long}
use Rattle.replies.specs.declared.Reply.{Reply}
use Rattle.writing.specs.Writable.{written}

-- The text, or a refusal's number, "at line 0, field 0"
pub data Saved : Type 0 where
  saved : List ℕ → Saved
  refused : ℕ → Saved

-- "20 .. when the buffer is too short", for a buffer of n bytes; "refused first, as 3"
unfoldable pub fitted : ℕ → Option (List ℕ) → Saved
fitted n (some xs) = cond (leb (length xs) n) (saved xs) (refused 20)
fitted n none = refused 3

-- The sheet that the cells t hold; fewer than a table has hold none
unfoldable pub saving : List ℕ → ℕ → Saved
saving t n = cond (leb table_long (length t)) (fitted n (written (people t) (held t))) (refused 3)

-- ---- what is handed back, and what the buffer then holds

-- "the count of bytes written is returned"
unfoldable pub reply_of : Saved → Reply
reply_of (saved xs) = record { number = 0; line = 0; field = 0; length = length xs }
reply_of (refused n) = record { number = n; line = 0; field = 0; length = 0 }

-- a buffer that was u: "Bytes after the written ones keep what they held", and after a refusal "every byte of the buffer"
unfoldable pub bytes_of : List ℕ → Saved → List ℕ
bytes_of u (saved xs) = xs ++ drop (length xs) u
bytes_of u (refused n) = u
