-- The values of secrets in a request, as a list and as the code reads one. Assumes nothing.
use Rattle.std.specs.Prelude.{◌≡◌, ℕ, zero, suc, List, [], ◌∷◌}
use Rattle.std.proofs.Math.Option.{Option, none, some as the}
use Rattle.requests.specs.Part.{value_at}
use Rattle.duties.specs.Duties.{meant}
use Rattle.std.specs.Prelude as code
use Rattle.requests.specs.Commitment.{Commitment}
use Rattle.requests.specs.Commitment as commitment

-- "(0 to 1,000,000,000, or `x`, an ill-formed commitment)"
unfoldable pub value_of : Commitment → Option ℕ
value_of (commitment.Number v e) = the v
value_of (commitment.Ill e) = none
value_of (commitment.Bad n p) = none

-- the position after its field
unfoldable pub behind : Commitment → ℕ
behind (commitment.Number v e) = e
behind (commitment.Ill e) = e
behind (commitment.Bad n p) = p

-- "a value for each secret": n of them, from a position on. None is refused, for the whole request was read before
unfoldable pub values_of : List ℕ → ℕ → ℕ → List (Option ℕ)
values_of s at zero = []
values_of s at (suc n) = value_of (value_at s at) ∷ values_of s (behind (value_at s at)) n

-- One value, as it was read
pub record Read (s : List ℕ) (at : ℕ) (r : code.Option ℕ × ℕ) : Type 0 where
  pub is : meant r.0 ≡ value_of (value_at s at)
  pub next : r.1 ≡ behind (value_at s at)
