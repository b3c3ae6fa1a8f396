use borrow.Rule.Slice.PartMut.{mid_of, mid_len}
use Prim.Native.Nat.{◌+◌, ◌-◌, ◌*◌}
use native.Mathlib.Omega.{arith}
use mathlib.Core.Path.{◌≡◌, ap, ◌∙◌, subst}
use lib.ListN.{length}
use Rattle.tables.specs.Entries.{people}
use Rattle.tables.specs.SheetOf.{sheet_in}
use Rattle.buffer.specs.Buffer.{numbers_of_one}
use Rattle.texts.specs.Wrote.{Wrote}
use Rattle.verdicts.specs.Parties.{lines_up_to, numbers_up_to}
use Rattle.verdicts.proofs.Verdicts.{made-few}
use Rattle.verdicts.proofs.Parties.{numbers-none, numbers-next, lines_none, lines_next}
use Rattle.verdicts.proofs.verdicts_for.Goals as goal

pub loop-p-init : goal.loop-p-init
loop-p-init c = let few = made-few _ _ c.args.index.table.ready.promises in (omega arith, numbers-none _ few _, lines_none _ few _)

pub loop-p-preserved : goal.loop-p-preserved
loop-p-preserved c =
    let l = c.loop-p in
    let v = c.verdict_for-end.ensures in
    let ok = c.args.index.table.ready.promises in
    let few = made-few _ _ ok in
    let f = numbers_of_one * l.p in
    let w : f + numbers_of_one - f ≡ numbers_of_one = omega arith in
    let n : length (mid_of f (f + numbers_of_one - f) l.rows) ≡ numbers_of_one =
    mid_len f (f + numbers_of_one) l.rows (omega (arith, l.auto.rows, c.requires.numbers_of_all_in_bounds, c.people-p-end.ensures, ok.limits.people)) ∙ w in
    (omega (arith, v.upper_bound, l.invariant.0), numbers-next _ few l.p _ _ _ _ _ w n l.invariant.1 v.rows_after, lines_next _ few l.p l.invariant.2 v.wrote)

pub returns : goal.returns
returns c =
    let l = c.loop-p in
    let s = sheet_in c.args.index.table.cells.now in
    let e : l.p ≡ people c.args.index.table.cells.now = omega (arith, c.people-p-end.ensures) in record {
      rows_after = l.invariant.1 ∙ ap (λ p. numbers_up_to s p c.args.rows.now) e;
      wrote = subst (λ p. Wrote c.args.text.now 0 (lines_up_to s p) l.text l.end) e l.invariant.2;
    }
