-- What a verdict that was handed back says, and the last line that is due for it. Assumes nothing.
use mathlib.Core.Path.{◌≡◌, refl, sym, ap, ap₂, ◌∙◌}
use Prim.Native.Nat.{ℕ}
use native.Mathlib.Omega.{arith}
use mathlib.Core.List.{List}
use lib.ListN.{length}
use Rattle.bitml.specs.Sheet.{Sheet, def_at}
use Rattle.bitml.specs.Rows.{Row, rank_of}
use Rattle.bitml.specs.Rule.{Verdict, liquid, frozen}
use Rattle.bitml.specs.Answers.{liquid_line, liquid_by}
use Rattle.tables.specs.Entries.{held, people}
use Rattle.tables.specs.SheetOf.{sheet_in}
use Rattle.tables.proofs.SheetOf.{root_is}
use Rattle.sheets.specs.Ready.{Ready}
use Rattle.exits.specs.Made.{answer_of}
use Rattle.exits.specs.declared.Verdict.TheVariants.{Liquid, Frozen}

-- node 0 is the root of definition 0
pub root-first : (t : List ℕ) → Ready t → (def_at (sheet_in t) 0).root ≡ 0
root-first t ok = root_is (people t) (held t) 0 ok.promises.limits.defs.0 ∙ ok.promises.nesting.start

pub line-is : (s : Sheet) (p : ℕ) → (def_at s 0).root ≡ 0 → (R : List Row) → liquid_line p (length R) (rank_of R 0) ≡ liquid_by s p R
unfolding liquid_by
line-is s p first R = ap (λ m. liquid_line p (length R) (rank_of R m)) (sym first)

pub told-liquid : (s : Sheet) (p : ℕ) → (def_at s 0).root ≡ 0 → (v : Verdict) (count rank : ℕ) → Liquid count rank ≡ answer_of v
    → (R : List Row) × (v ≡ liquid R) × (count ≡ length R) × (liquid_line p count rank ≡ liquid_by s p R)
unfolding answer_of
told-liquid s p first (liquid R) count rank e =
    let c : count ≡ length R = cc in
    let r : rank ≡ rank_of R 0 = cc in
    (R, refl, c, ap₂ (liquid_line p) c r ∙ line-is s p first R)
told-liquid s p first (frozen n) count rank e = let q : ◌≡◌ {A = ℕ} 0 1 = cc in absurd (omega arith)

pub told-frozen : (v : Verdict) (n : ℕ) → Frozen n ≡ answer_of v → v ≡ frozen n
unfolding answer_of
told-frozen (liquid R) n e = let q : ◌≡◌ {A = ℕ} 0 1 = cc in absurd (omega arith)
told-frozen (frozen m) n e = ap frozen (let q : m ≡ n = cc in q)
