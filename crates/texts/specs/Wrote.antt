-- Bytes written into a buffer. Assumes nothing.
use Rattle.std.specs.Prelude.{◌≡◌, ℕ, ◌+◌, List, ◌++◌, length, take, drop}

-- A buffer that was u₀ has become u: it has the bytes xs from `at` to r, and else what it had
pub record Wrote (u₀ : List ℕ) (at : ℕ) (xs : List ℕ) (u : List ℕ) (r : ℕ) : Type 0 where
  pub end : r ≡ at + length xs
  pub long : length u ≡ length u₀
  pub front : take r u ≡ take at u₀ ++ xs
  pub rest : drop r u ≡ drop r u₀
