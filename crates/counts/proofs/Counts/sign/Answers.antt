use native.Mathlib.Omega.{arith}
use Prim.Native.Nat.{◌+◌, ◌*◌}
use mathlib.Core.Path.{sym, ap, ◌∙◌}
use lib.Dec.{eqb}
use Rattle.sheets.proofs.Bits.{bit}
use Rattle.duties.proofs.Signing.{mask_room}
use Rattle.counts.proofs.Looking.{absent, place-in, entry-small}
use Rattle.counts.proofs.Signing.{sign_absent, sign_stranger_by, sign-twice_by, sign-taken_by}
use Rattle.counts.proofs.Counts.sign.Goals as goal
use Rattle.counts.proofs.Counts.sign.Goals.{then-not-signs-via-then-not-signs, then-not-signs-via-else-not-signs+then-signs}

pub returns-in_default : goal.returns-in_default
returns-in_default c = let p = c.requires in rw c.refused.ensures (sign_absent _ _ _ _ _ c.args.index.table.ready p.fit (absent _ _ _ _ p.fit c.in_default.ensures))

pub branch-index-requires : goal.branch-index-requires
branch-index-requires c = let k = c.in-Some.ensures in record { b_in_bounds = entry-small c.args.index.table.cells.now _ c.args.b k.3 k.2 }

pub signed_for-signed-requires : goal.signed_for-signed-requires
signed_for-signed-requires c = let p = c.requires in let k = c.in-Some.ensures in place-in _ c.args.cells.now _ _ _ c.args.index.table.ready p.fit k.0 k.2 p.cells_len

pub returns-then-not-signs : goal.returns-then-not-signs
returns-then-not-signs c = let a = c.args in let p = c.requires in let k = c.in-Some.ensures in rw c.refused-then-not-signs.ensures (elim c.then-not-signs.branch [
  | then-not-signs-via-then-not-signs w ↦ sign_stranger_by _ _ _ _ _ a.index.table.ready p.fit k.0 k.1 k.2 k.3 c.branch-index.ensures.signers c.signs.ensures w.if-not-signs.true
  | then-not-signs-via-else-not-signs+then-signs w ↦ sign-twice_by _ _ _ _ _ a.index.table.ready p.fit k.0 k.1 k.2 (w.signs-else-not-signs.ensures ∙ ap (λ m. eqb (bit m a.p) 1) c.signed_for-signed.ensures) w.if-signs.true
])

pub overflow_add-signed : goal.overflow_add-signed
overflow_add-signed c = let a = c.args in let p = c.requires in
    omega (arith, mask_room a.p c.signed_for-signed.result (omega (arith, p.p_bound, a.index.table.ready.promises.limits.people)) (omega (arith, c.signed_for-signed.ensures, p.fit.masks (a.c * 16 + a.b))) c.mask_of.ensures (sym c.signs-else-not-signs.ensures ∙ c.if-signs.false))

pub put_signed-requires : goal.put_signed-requires
put_signed-requires c = let p = c.requires in let k = c.in-Some.ensures in place-in _ c.args.cells.now _ _ _ c.args.index.table.ready p.fit k.0 k.2 p.cells_len

pub returns : goal.returns
returns c = let a = c.args in let p = c.requires in let k = c.in-Some.ensures in
    rw (c.put_signed.ensures, c.signed_for-signed.ensures)
    (sign-taken_by _ _ _ _ _ a.index.table.ready p.fit k.0 k.1 k.2 (omega (arith, p.p_bound, a.index.table.ready.promises.limits.people)) k.3 c.branch-index.ensures.signers c.signs.ensures c.if-not-signs.false (c.signs-else-not-signs.ensures ∙ ap (λ m. eqb (bit m a.p) 1) c.signed_for-signed.ensures) c.if-signs.false c.mask_of.ensures)
