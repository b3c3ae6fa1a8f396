use native.Mathlib.Omega.{arith}
use Rattle.texts.proofs.Lengths.{frozen-room}
use Rattle.reasons.proofs.Reasons.{frozen-at, wrote_reason}
use Rattle.reasons.proofs.put_reason.Goals as goal

pub put_way-end-requires : goal.put_way-end-requires
put_way-end-requires c =
    let t = c.args.index.table in
    let w = frozen-at t.cells.now t.ready c.args.p c.args.n c.requires.p_value in
    let f = c.put_frozen-end.ensures in
    record { target_in_bounds = (w.0, omega (arith, frozen-room _ _ f, f.long, c.requires.p_bound.1)); target_value = w.1 }

pub put_causes-requires : goal.put_causes-requires
put_causes-requires c =
    let t = c.args.index.table in
    let w = frozen-at t.cells.now t.ready c.args.p c.args.n c.requires.p_value in
    let f = c.put_frozen-end.ensures in
    let y = c.put_way-end.ensures in
    record { p_bound = (c.requires.p_bound.0, w.0, omega (arith, frozen-room _ _ f, y.upper_bound, f.long, y.wrote.long, c.requires.p_bound.1)); fact = w.2 }

pub returns : goal.returns
returns c = wrote_reason _ _ _ c.put_frozen-end.ensures c.put_way-end.ensures.wrote c.put_causes.ensures
