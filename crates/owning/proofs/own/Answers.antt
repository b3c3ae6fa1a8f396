use Rattle.std.proofs.Common.{◌≡◌, ◌∙◌, sym, ap, refl, Option, None, Some, Bool, true, false, not}
use Rattle.std.specs.Option.{is_some}
use Rattle.std.proofs.lemmas.Bool.{false≢true, true≢false}
use lib.Dec.{eqb}
use Rattle.bitml.proofs.Causes.{bar-own}
use Rattle.owning.specs.declared.Cause.{Cause}
use Rattle.owning.specs.declared.Cause.TheVariants.{Signer, Secret, Condition, Renewal, Contract}
use Rattle.owning.specs.Causes.{told}
use Rattle.owning.proofs.own.Goals as goal

-- no cause has the number 0
none_told : (k : Option Cause) (b : Bool) → is_some k ≡ not b → b ≡ eqb (told k) 0
none_told None true e = refl
none_told None false e = absurd (false≢true e)
none_told (Some k) true e = absurd (true≢false e)
none_told (Some k) false e = go k
  where
    go : (k : Cause) → false ≡ eqb (told (Some k)) 0
    go Signer = refl
    go Secret = refl
    go Condition = refl
    go Renewal = refl
    go Contract = refl

pub returns : goal.returns
returns c = none_told c.bar.result _ c.is_none.ensures ∙ ap (λ k. eqb k 0) c.bar.ensures ∙ sym (bar-own _ _ _ _)
