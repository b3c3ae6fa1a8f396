-- A place by counting, as the code tells it: that it is `place_of` is proved (proofs/Laws). Assumes nothing.
use Rattle.std.specs.Prelude.{ℕ, zero, suc, ◌+◌, List, cond, get_or, eqb}
use Rattle.fields.specs.Field.{comma, lf}

-- 1 for a byte that is b, 0 for any other
unfoldable pub same_of : ℕ → ℕ → ℕ
same_of x b = cond (eqb x b) 1 0

-- how many of the n bytes from a position on are b
unfoldable pub count_of : ℕ → List ℕ → ℕ → ℕ → ℕ
count_of b s from zero = 0
count_of b s from (suc n) = count_of b s from n + same_of (get_or s (from + n) 0) b

-- where the line of a position starts
unfoldable pub start_of : List ℕ → ℕ → ℕ
start_of s zero = 0
start_of s (suc n) = cond (eqb (get_or s n 0) lf) (suc n) (start_of s n)

-- the field that is due n bytes behind the start of their line
unfoldable pub field_in : List ℕ → ℕ → ℕ → ℕ
field_in s start zero = 1
field_in s start (suc n) = 2 + count_of comma s start (suc n)
