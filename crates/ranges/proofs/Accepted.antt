-- What each `def` line keeps holds of an accepted sheet. Assumes nothing.
use Prim.Native.Nat.{ℕ, suc, ◌≤◌, ◌<◌}
use mathlib.Core.Path.{◌≡◌, refl, subst}
use mathlib.Core.List.{List}
use native.Mathlib.Omega.{arith}
use lib.ListN.{length}
use borrow.Author.Tests.{leb-true}
use Rattle.tables.specs.Entries.{Entries}
use Rattle.tables.specs.State.{State, entries}
use Rattle.steps.specs.Steps.{Outcome}
use Rattle.lines.specs.LineOne.{LineOne}
use Rattle.lines.specs.LineOne as one
use Rattle.lines.specs.LineOne.{line_one_at}
use Rattle.lines.specs.Definition.{define_at, blank}
use Rattle.lines.specs.Sheet.{accepted, accept, beyond, limited, sizes, sheet_from, read_sheet}
use Rattle.lines.proofs.Answer.{Counted, counted}
use Rattle.steps.proofs.Ends.{Ends, good, refused, ends_test, ends-map, ends-times}

-- ---- the limit on bytes only refuses

-- P holds, and a sheet that ends within the request ends within the limit
pub record Short (s : List ℕ) (P : State → Type 0) (a : State) : Type 0 where
  pub holds : P a
  pub short : a.at ≤ length s → a.at ≤ 32768

module _ {s : List ℕ} {P : State → Type 0} where
  beyond-short : (q : ℕ) {w : Outcome} → Ends P w → Ends (Short s P) (beyond q w)
  unfolding beyond
  beyond-short q (good h) = ends_test _ _ _ (λ z. good (record { holds = h; short = λ i. leb-true _ _ z })) (λ z. refused)
  beyond-short q refused = ends_test _ _ _ (λ z. refused) λ z. ends_test _ _ _ (λ z. refused) λ z. ends_test _ _ _ (λ z. refused) (λ z. refused)

  pub limited-short : {w : Outcome} → Ends P w → Ends (Short s P) (limited s w)
  unfolding limited
  limited-short h = ends_test _ _ _ (λ z. ends-map h λ a p. record { holds = p; short = λ i. omega (arith, i, leb-true (length s) 32768 z) }) (λ z. beyond-short _ h)

-- ---- the sheet

-- what holds of the state at the end holds of what is accepted
accept-ends : {P : State → Type 0} {K at : ℕ} {E : Entries} (Q : ℕ → ℕ → Entries → Type 0) (k : ℕ) {w : Outcome} → ((a : State) → P a → Q k a.at (entries a)) → Ends P w
    → accept k w ≡ accepted K at E → Q K at E
unfolding accept
accept-ends {K = K} {at = at} {E = E} Q k f (good {a} h) e =
    let i : k ≡ K = cc in
    let l : a.at ≡ at = cc in
    let j : entries a ≡ E = cc in
    subst (λ x. Q x at E) i (subst (λ x. Q k x E) l (subst (Q k a.at) j (f a h)))
accept-ends Q k f refused e = let z : ◌≡◌ {A = ℕ} 0 1 = cc in absurd (omega arith)

-- P K F i holds after i of F definitions with K participants: so what follows from it after all F holds of the sheet
pub AcceptedEnds : (s : List ℕ) (P : ℕ → ℕ → ℕ → State → Type 0) (Q : ℕ → ℕ → Entries → Type 0)
    → ((k n p : ℕ) → Counted s k n p → P k n 0 (blank p))
    → ((k n p i : ℕ) → Counted s k n p → i < n → (a : State) → P k n i a → Ends (P k n (suc i)) (define_at s (sizes k n) a))
    → ((k n p : ℕ) → Counted s k n p → (a : State) → P k n n a → (a.at ≤ length s → a.at ≤ 32768) → Q k a.at (entries a))
    → (K at : ℕ) (E : Entries) → read_sheet s ≡ accepted K at E → Q K at E
unfolding read_sheet sheet_from
AcceptedEnds s P Q start step end K at E = go (line_one_at s) refl
  where
    go : (l : LineOne) → line_one_at s ≡ l → sheet_from s l ≡ accepted K at E → Q K at E
    go (one.Counts k n p) h =
        let c = counted s k n p h in
        accept-ends Q k (λ a r. end k n p c a r.holds r.short) (limited-short (ends-times (P k n) n _ (blank p) (start k n p c) λ i. step k n p i c))
    go (one.Bad n p) h = accept-ends Q 0 (λ a r. absurd r.holds) (limited-short {P = λ a. ⊥} refused)
