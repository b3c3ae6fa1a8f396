-- A number as the code goes over its bytes, once: digits as far as they go, and whether the field ends there. Assumes nothing.
use Rattle.std.specs.Prelude.{ℕ, zero, suc, ◌-◌, ◌+◌, ◌*◌, Bool, true, cond, List, [], ◌∷◌, length, get_or, drop, ltb}
use Rattle.fields.specs.Field.{zero_digit, is_digit, is_sep}
use Rattle.fields.specs.declared.Run.{Run}

-- up to n digits more, read on from v at position p
unfoldable pub run_on : ℕ → ℕ → ℕ → List ℕ → Run
run_on zero v p t = record { value = v; end = p }
run_on (suc n) v p [] = record { value = v; end = p }
run_on (suc n) v p (b ∷ r) = cond (is_digit b) (run_on n (v * 10 + (b - zero_digit)) (p + 1) r) (record { value = v; end = p })

-- "A number is decimal, 1 to 19 digits": up to 19 from position p on
unfoldable pub run_at : List ℕ → ℕ → Run
run_at s p = run_on 19 0 p (drop p s)

-- "parted by commas", "Lines end with LF": whether a field ends at p
unfoldable pub ends_at : List ℕ → ℕ → Bool
ends_at s p = cond (ltb p (length s)) (is_sep (get_or s p 0)) true
