-- The rows that a caller lends, as structs. Assumes nothing.
use Rattle.std.specs.Prelude.{ℕ, List, map}
use Rattle.bitml.specs.Lists.{below}
use Rattle.bitml.specs.Rows as bitml
use Rattle.buffer.specs.Buffer.{row_in}
use Rattle.lent.specs.declared.Row.{Row}

-- "zero past them"
abbrev pub no_row : Row
no_row = record { node = 0; branch = 0; rank = 0 }

-- "`row`,node,branch,rank": a row as a struct
unfoldable pub struct_of : bitml.Row → Row
struct_of r = record { node = r.node; branch = r.branch; rank = r.rank }

-- The row in place i of a buffer of numbers; 0 where they end
unfoldable pub struct_at : List ℕ → ℕ → Row
struct_at xs i = struct_of (row_in xs i)

-- "The row buffer holds the rows .. and is zero past them": all of n places
unfoldable pub structs : ℕ → List ℕ → List Row
structs n xs = map (struct_at xs) (below n)
