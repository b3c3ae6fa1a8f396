-- The row buffer as numbers: where those of each place stand, and what the buffer holds. Assumes nothing.
use Rattle.std.specs.Prelude.{ℕ, ◌+◌, ◌-◌, ◌*◌, List, [], ◌∷◌, ◌++◌, length, get_or, drop, replicate}
use Rattle.std.proofs.lemmas.List.Edits.{sets}
use Rattle.bitml.specs.Rows.{Row}
use Rattle.bitml.specs.Answers.{places_of_one}
use Rattle.tables.specs.Entries.{flat, first_of}
use Rattle.buffer.specs.declared.Row.{Row as Code}

-- ---- a place

-- how many numbers it has
abbrev pub row_wide : ℕ
row_wide = 3

-- "`row`,node,branch,rank"
abbrev pub row : ℕ → ℕ → ℕ → Row
row n b k = record { node = n; branch = b; rank = k }

-- the row that the code's struct is
abbrev pub as_row : Code → Row
as_row r = row r.node r.branch r.rank

-- the numbers of a row, in the order in which they stand
unfoldable pub row_cells : Row → List ℕ
row_cells r = r.node ∷ r.branch ∷ r.rank ∷ []

-- the row in place i
abbrev pub row_in : List ℕ → ℕ → Row
row_in u i = row (get_or u (row_wide * i) 0) (get_or u (row_wide * i + 1) 0) (get_or u (row_wide * i + 2) 0)

-- the buffer u with the row r in place i
unfoldable pub stored : List ℕ → ℕ → Row → List ℕ
stored u i r = sets u (row_wide * i) (row_cells r)

-- ---- all places

-- the rows in the first n places
unfoldable pub rows_of : ℕ → List ℕ → List Row
rows_of n u = first_of (row_in u) n

-- what stands past n places
unfoldable pub past_rows : ℕ → List ℕ → List ℕ
past_rows n u = drop (row_wide * n) u

-- the numbers of rows, one row after the other
abbrev pub row_numbers : List Row → List ℕ
row_numbers R = flat row_cells R

-- "The row buffer holds the rows .. and is zero past them": a buffer of n numbers
unfoldable pub filled : ℕ → List Row → List ℕ
filled n R = row_numbers R ++ replicate (n - row_wide * length R) 0

-- ---- how many

-- `makeall`: "Its call lends 8,192 places for rows", 512 for each of up to 16 participants
abbrev pub places_of_all : ℕ
places_of_all = 16 * places_of_one

-- the numbers of one participant's places, and of all
abbrev pub numbers_of_one : ℕ
numbers_of_one = row_wide * places_of_one

abbrev pub numbers_of_all : ℕ
numbers_of_all = row_wide * places_of_all
