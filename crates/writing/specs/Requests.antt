-- Requests that are made of the text of a sheet: "Then one last part". Assumes nothing.
use Rattle.std.specs.Prelude.{ℕ, List, [], ◌∷◌, ◌++◌}
use Rattle.texts.specs.Text.{letters, line}

-- "`make`,P", behind the text t
unfoldable pub make_request : List ℕ → ℕ → List ℕ
make_request t p = t ++ line (letters "make") (p ∷ [])

-- "or `check`,P and up to 512 lines `row`": the lines as a file has them
unfoldable pub check_request : List ℕ → ℕ → List ℕ → List ℕ
check_request t p file = t ++ (line (letters "check") (p ∷ []) ++ file)
