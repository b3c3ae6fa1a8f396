-- What the contracts of a ledger hold together. Assumes nothing.
use Rattle.std.specs.Prelude.{ℕ, cond, List, map}
use Rattle.bitml.specs.Lists.{sum}
use Rattle.bitml.specs.Ledger.{Contract}

-- "contracts numbered as made (.. balance, .. alive or not)": the balances of those that live
abbrev pub locked : List Contract → ℕ
locked ks = sum (map (λ k. cond k.alive k.balance 0) ks)
