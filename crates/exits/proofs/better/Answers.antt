use native.Mathlib.Omega.{arith}
use mathlib.Core.Path.{sym, refl}
use Rattle.exits.proofs.Costing.{better-first, better-less, better-more}
use Rattle.exits.proofs.better.Goals as goal

pub returns-in-Some : goal.returns-in-Some
returns-in-Some c = let h = rw c.in-Some.is at c.requires.behind_some in
    rw c.in-Some.is (sym (better-more c.args.rank c.args.b _ (λ z. omega arith) (omega arith)))

pub returns-in_default : goal.returns-in_default
returns-in_default c = let h = rw c.in-Some.is at c.requires.behind_some in
    rw c.in-Some.is (sym (better-less c.args.rank c.args.b _ (λ z. omega arith) (λ z. omega arith) (omega arith)))

pub returns-in_default-2 : goal.returns-in_default-2
returns-in_default-2 c = rw c.in_default.is (sym (better-first c.args.rank c.args.b _ (λ z. omega arith) refl))
