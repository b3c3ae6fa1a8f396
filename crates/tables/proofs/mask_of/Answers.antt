use Prim.Native.Nat.{ℕ, ◌^◌, ◌<◌}
use mathlib.Core.Path.{◌≡◌}
use mathlib.Core.List.{map}
use native.Mathlib.Omega.{arith}
use lib.ListN.{get_or}
use borrow.Author.Rules.{rules}
use Rattle.bitml.specs.Lists.{below}
use Rattle.bitml.proofs.Lists.{get_d_up}
use Rattle.tables.proofs.mask_of.Goals as goal

-- One test of the whole table: where this is used, the prover computes 2 ^ p for each p below 16 and holds the code's table to that list
rule : (p : ℕ) → p < 16 → get_or (map (λ p. 2 ^ p) (below 16)) p 0 ≡ 2 ^ p
rule p h = get_d_up (λ p. 2 ^ p) 0 0 16 p p (omega arith) h

pub returns : goal.returns
returns c = rule c.args.p (search rules)
