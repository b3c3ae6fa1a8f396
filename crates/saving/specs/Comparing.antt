-- Two tables compared cell by cell. Assumes nothing.
use Rattle.std.specs.Prelude.{ℕ, zero, suc, Bool, true, List, get_or, eqb}
use Rattle.bitml.specs.Lists.{◌&◌}
use Rattle.tables.specs.Entries.{held, people}
use Rattle.writing.specs.Writable.{same_entries}

-- n cells from a place on
unfoldable pub same_cells : ℕ → ℕ → List ℕ → List ℕ → Bool
same_cells from zero u t = true
same_cells from (suc n) u t = eqb (get_or u from 0) (get_or t from 0) & same_cells (suc from) n u t

-- The sheets that they hold: K, and the entries number by number
unfoldable pub same_sheet : List ℕ → List ℕ → Bool
same_sheet u t = eqb (people u) (people t) & same_entries (held u) (held t)
