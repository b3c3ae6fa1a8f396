-- A text of line 1 and `def` lines, read into a table that a caller lends: the reply, and every cell afterwards. Assumes nothing.
use Rattle.std.specs.Prelude.{ℕ, cond, List, length, replicate, leb, eqb}
use Rattle.places.specs.Places.{place_of}
use Rattle.tables.specs.Entries.{Entries, table_long}
use Rattle.lines.specs.Sheet.{SheetRead, accepted, read_sheet}
use Rattle.lines.specs.Sheet.{refused as unread}
use Rattle.replies.specs.declared.Reply.{Reply}
use Rattle.loading.specs.Table.{table_of}

-- K and the entries; or a refusal's number, line and field
pub data Loaded : Type 0 where
  loaded : ℕ → Entries → Loaded
  refused : ℕ → ℕ → ℕ → Loaded

-- a refusal before whose field a position stands
unfoldable pub refused_at : List ℕ → ℕ → ℕ → Loaded
refused_at s n p = refused n (place_of s p).line (place_of s p).field

-- "nothing behind": a line more gets 9 at its field 1
unfoldable pub alone : List ℕ → SheetRead → Loaded
alone s (accepted K at E) = cond (eqb at (length s)) (loaded K E) (refused_at s 9 at)
alone s (unread n p) = refused_at s n p

-- 1, then a short table, come first, as with a request
unfoldable pub loading : List ℕ → ℕ → Loaded
loading s cells = cond (leb (length s) 65536) (cond (leb table_long cells) (alone s (read_sheet s)) (refused 7 0 0)) (refused 1 0 0)

-- ---- what is handed back, and what the table then holds

-- number 0 where the sheet was read, and then how many bytes were
unfoldable pub reply_to : List ℕ → Loaded → Reply
reply_to s (loaded K E) = record { number = 0; line = 0; field = 0; length = length s }
reply_to s (refused n l f) = record { number = n; line = l; field = f; length = 0 }

-- a table of n cells; wholly zero after a refusal
unfoldable pub cells_of : ℕ → Loaded → List ℕ
cells_of n (loaded K E) = table_of n K E
cells_of n (refused m l f) = replicate n 0
