-- What refuses a request before it is read, by its length and those of the lent buffers. Assumes nothing.
use Rattle.std.specs.Prelude.{ℕ, leb}
use Rattle.bitml.specs.Lists.{◌&◌, ask}
use Rattle.bitml.specs.Answers.{places_of_one}
use Rattle.replies.specs.Answer.{least_text}

-- "over 65,536 bytes; line 0, field 0"; "a lent row buffer under 512 (line 0, field 0)", and so a text buffer in which not every reply fits:
-- "1, then short buffers, come first"
unfoldable pub early : ℕ → ℕ → ℕ → ℕ
early bytes rows text = ask (leb bytes 65536) 1 (ask (leb places_of_one rows & leb least_text text) 7 0)
