use native.Mathlib.Omega.{arith}
use mathlib.Core.Path.{refl, ap, ◌∙◌}
use lib.ListN.{length, length-replicate}
use lib.Seq.{length-take-le}
use Prim.Native.Nat.{ℕ}
use Rattle.bitml.specs.Ledger.{stipulated}
use Rattle.tables.specs.SheetOf.{sheet_in}
use Rattle.pages.specs.Pages.{cells_long}
use Rattle.counts.specs.Cells.{laid_out}
use Rattle.counts.proofs.Cells.{cells_are}
use Rattle.ledger.specs.Values.{values_of}
use Rattle.ledger.proofs.Reading.{first-values, values-are, values-most, values-long}
use Rattle.ledger.proofs.Ledger.new.Goals as goal

pub new-counts-requires : goal.new-counts-requires
new-counts-requires c = let a = c.args in let P = a.table.ready.promises in
    let few = (P.def 0 P.limits.defs.0).secrets in
    let e = first-values a.s.now a.at c.definition-n.result.secrets _ _ c.values.ensures (length-take-le c.definition-n.result.secrets _ (omega (arith, few, c.definition-n.ensures.secrets))) in
    record { vs_len = values-long _ _ _ _ e ∙ c.definition-n.ensures.secrets; by_index = values-most _ _ _ _ e; cells_value = c.requires }

pub returns : goal.returns
returns c = let a = c.args in let P = a.table.ready.promises in let r = c.new-counts.ensures in let n = c.definition-n.ensures.secrets in
    let few = (P.def 0 P.limits.defs.0).secrets in
    let e = first-values a.s.now a.at c.definition-n.result.secrets _ _ c.values.ensures (length-take-le c.definition-n.result.secrets _ (omega (arith, few, n))) in
    let plain = r.plain ∙ ap (stipulated (sheet_in a.table.cells.now)) (values-are _ _ _ _ e ∙ ap (values_of a.s.now a.at) n) in (
      record { answer = r.answer; plain = plain; told = cells_are a.table.cells.now c.new-counts.result _ r.fit ∙ ap laid_out plain; fit = r.fit },
      c.new-counts.auto.cells ∙ ap (λ C. length C) c.requires ∙ length-replicate {A = ℕ} cells_long 0,
      refl,
    )
