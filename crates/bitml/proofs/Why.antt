-- Every line that `why` prints for a frozen sheet may be relied on. Assumes nothing.
use mathlib.Core.Path.{◌≡◌, sym, subst}
use mathlib.Core.Logic.{⊎_elim}
use Prim.Native.Nat.{ℕ}
use native.Mathlib.Omega.{arith}
use lib.ListN.{length-map}
use Rattle.bitml.specs.Sheet.{Sheet, no_branch, branches_at, branch_at}
use Rattle.bitml.specs.Rule.{frozen, make}
use Rattle.bitml.specs.Promises.{WellFormed}
use Rattle.bitml.specs.Demands.{Frozen}
use Rattle.bitml.specs.Why.{LowestCause, cause, causes, Why}
use Rattle.bitml.proofs.Lists.{at_map}
use Rattle.bitml.proofs.Reach.{reached_complete}
use Rattle.bitml.proofs.Published.{make-is}
use Rattle.bitml.proofs.Shortest.{steps_first}
use Rattle.bitml.proofs.Causes.{lowest-cause, some-cause}

pub frozen-is : (s : Sheet) (p : ℕ) → WellFormed s → (n : ℕ) → make s p ≡ frozen n → Frozen s p n
frozen-is s p wf n e = ⊎_elim
    (λ w. absurd (let q = w.0 in let z : ◌≡◌ {A = ℕ} 0 1 = cc in omega arith))
    (λ w. let q = w.1 in let z : w.0 ≡ n = cc in subst (Frozen s p) z w.2)
    (make-is s p wf)

pub why : Why
unfolding Why causes
why s wf p n e =
    let f = frozen-is s p wf n e in
    record {
      steps = steps_first s n (reached_complete s wf n f.reach);
      each = length-map (branches_at s n) (cause s p n);
      branch = λ b hb. subst (LowestCause s p n (branch_at s n b)) (sym (at_map (cause s p n) (branches_at s n) b no_branch 0 hb)) (lowest-cause s wf p n (branch_at s n b) (some-cause s wf p n b hb f.no_exit));
    }
