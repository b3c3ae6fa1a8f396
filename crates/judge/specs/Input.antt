-- What is known of an input once it is read. Of standard input nothing is known beforehand: its bytes are the caller's.
use Rattle.std.specs.Prelude.{Option, ℕ, ◌≤◌, ◌<◌, List, length, take}
use Rattle.std.specs.Io.KnownBytes.{Consumes, IsAtEnd}

-- A whole input of n bytes, from what is known to be left of it to what is left then: it lies within the buffer that it was read into,
-- its bytes stand there in their order, and where the buffer is not full nothing is left
pub record IsWholeInput (old new : Option (List ℕ)) (n : ℕ) (buffer : List ℕ) : Type 0 where
  pub within : n ≤ length buffer
  pub bytes : Consumes old new (take n buffer)
  pub end : n < length buffer → IsAtEnd new
