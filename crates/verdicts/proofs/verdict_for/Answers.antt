use native.Mathlib.Omega.{arith}
use mathlib.Core.Path.{sym, ◌∙◌}
use Rattle.texts.proofs.Lengths.{liquid-room, frozen-room}
use Rattle.exits.proofs.Told.{root-first}
use Rattle.verdicts.proofs.Verdicts.{made-liquid, made-frozen, made-count, rows-room}
use Rattle.verdicts.proofs.verdict_for.Goals as goal

pub put_rows-end-requires : goal.put_rows-end-requires
put_rows-end-requires c =
    let a = c.args in
    let t = a.index.table in
    let m = c.make.ensures in
    let q = sym c.in-Liquid.is ∙ m.value in
    let k = rows-room t.cells.now t.ready a.p _ _ _ _ c.requires.p_bound.1 q m.rows_after in
    (omega (arith, k, c.requires.p_bound), omega (arith, made-count t.cells.now t.ready a.p _ _ q))

pub put_liquid-requires : goal.put_liquid-requires
put_liquid-requires c =
    let t = c.args.index.table in
    let m = c.make.ensures in
    let k = rows-room t.cells.now t.ready c.args.p _ _ _ _ c.requires.p_bound.1 (sym c.in-Liquid.is ∙ m.value) m.rows_after in
    omega (arith, k, c.put_rows-end.ensures.end, c.requires.p_bound)

pub returns-in-Liquid : goal.returns-in-Liquid
returns-in-Liquid c =
    let a = c.args in
    let t = a.index.table in
    let m = c.make.ensures in
    let r = c.put_rows-end.ensures in
    let q = sym c.in-Liquid.is ∙ m.value in
    let l = made-count t.cells.now t.ready a.p _ _ q in
    let k = rows-room t.cells.now t.ready a.p _ _ _ _ c.requires.p_bound.1 q m.rows_after in record {
      rows_after = m.rows_after;
      wrote = made-liquid _ a.p (root-first t.cells.now t.ready) _ _ _ _ _ _ _ _ _ _ _ (omega (arith, l, c.requires.p_bound.1)) q m.rows_after r c.put_liquid.ensures;
      upper_bound = omega (arith, k, r.end, liquid-room _ _ _ c.put_liquid.ensures);
    }

pub returns-in-Frozen : goal.returns-in-Frozen
returns-in-Frozen c =
    let t = c.args.index.table in
    let m = c.make.ensures in record {
      rows_after = m.rows_after;
      wrote = made-frozen _ c.args.p (root-first t.cells.now t.ready) _ _ _ _ _ _ (sym c.in-Frozen.is ∙ m.value) c.put_frozen.ensures;
      upper_bound = omega (arith, frozen-room _ _ c.put_frozen.ensures);
    }
