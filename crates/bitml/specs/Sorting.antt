-- "What the rule once gave in another order is accepted after sorting": rows brought into node order. Assumes nothing.
use Rattle.std.specs.Prelude.{cond, List, [], ◌∷◌, leb}
use Rattle.bitml.specs.Rows.{Row}

-- a row goes in front of the first whose node is not below its own
unfoldable pub insert : Row → List Row → List Row
insert r [] = r ∷ []
insert r (q ∷ R) = cond (leb r.node q.node) (r ∷ q ∷ R) (q ∷ insert r R)

unfoldable pub sorted : List Row → List Row
sorted [] = []
sorted (r ∷ R) = insert r (sorted R)
