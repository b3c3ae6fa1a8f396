-- Where a refusal stands, and where the limit on bytes is passed.
use Rattle.std.specs.Prelude.{ℕ, suc, ◌+◌, List, [], ◌∷◌, cond, take, ltb, eqb}
use Rattle.fields.specs.Field.{comma, lf}
use Rattle.places.specs.declared.Place.{Place}

-- "`refused`,number,line,field (from 1)": a field's refusal is told at its comma, or at a line's first byte. So an LF leads to
-- the next line's field 1, a first byte to field 2, "the field number due next", and a comma to one field more
unfoldable pub step_of : ℕ → Place → Place
step_of b p =
    cond (eqb b lf) (record { line = p.line + 1; field = 1 })
    (cond (eqb b comma)
    (cond (ltb p.field 2) (record { line = p.line; field = 3 }) (record { line = p.line; field = p.field + 1 }))
    (cond (ltb p.field 2) (record { line = p.line; field = 2 }) p))

unfoldable pub walk : List ℕ → Place → Place
walk [] p = p
walk (b ∷ r) p = walk r (step_of b p)

-- the line of a position, and the number of the field that is due there
unfoldable pub place_of : List ℕ → ℕ → Place
place_of s at = walk (take at s) (record { line = 1; field = 1 })

-- ---- the limit on bytes

-- a byte b at i: a comma stands before a field, and so does the byte after an LF; q stood before the last field until then
unfoldable pub mark_of : ℕ → ℕ → ℕ → ℕ
mark_of b i q = cond (eqb b comma) i (cond (eqb b lf) (i + 1) q)

unfoldable pub last_from : ℕ → ℕ → List ℕ → ℕ
last_from i q [] = q
last_from i q (b ∷ r) = last_from (suc i) (mark_of b i q) r

-- "passed at the first field that ends beyond, its comma or LF counted": the position before the last field that starts within
-- the first n bytes. Every field before it ends there, and where more bytes follow it is the first that ends beyond them
unfoldable pub passing_of : List ℕ → ℕ → ℕ
passing_of s n = last_from 0 0 (take n s)
