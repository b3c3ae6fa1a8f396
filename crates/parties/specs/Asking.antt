-- The separate requests that a `makeall` stands for. Assumes nothing.
use Rattle.std.specs.Prelude.{ℕ, ◌-◌, List, length, take}
use Rattle.writing.specs.Requests.{make_request}

-- the request s, whose last line is `makeall`, with `make`,p in its place
unfoldable pub asking : List ℕ → ℕ → List ℕ
asking s p = make_request (take (length s - 8) s) p
