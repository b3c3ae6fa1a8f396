use Prim.Native.Nat.{◌≤◌}
use native.Mathlib.Omega.{arith}
use Rattle.writer.proofs.Keeping.{owned_used}
use Rattle.writer.proofs.Putting.{on_then, full_then, small, room-on}
use Rattle.writer.proofs.Rules.{def_by}
use Rattle.writer.proofs.put_def.Goals as goal

pub returns-in_err-q : goal.returns-in_err-q
returns-in_err-q c = def_by _ _ _ _ c.secrets_of-secrets.ensures (full_then _ _ _ c.in_err-q.ensures c.from_residual.ensures)

pub returns-in_err-l : goal.returns-in_err-l
returns-in_err-l c = def_by _ _ _ _ c.secrets_of-secrets.ensures (on_then _ _ _ c.in_ok-q.ensures (full_then _ _ _ c.in_err-l.ensures c.from_residual-in_err-l.ensures))

pub returns-in_err-e : goal.returns-in_err-e
returns-in_err-e c = def_by _ _ _ _ c.secrets_of-secrets.ensures (on_then _ _ _ c.in_ok-q.ensures (on_then _ _ _ c.in_ok-l.ensures (full_then _ _ _ c.in_err-e.ensures c.from_residual-in_err-e.ensures)))

pub returns-in_err-f : goal.returns-in_err-f
returns-in_err-f c = def_by _ _ _ _ c.secrets_of-secrets.ensures (on_then _ _ _ c.in_ok-q.ensures (on_then _ _ _ c.in_ok-l.ensures (on_then _ _ _ c.in_ok-e.ensures (full_then _ _ _ c.in_err-f.ensures c.from_residual-in_err-f.ensures))))

pub returns-in_err-z : goal.returns-in_err-z
returns-in_err-z c = def_by _ _ _ _ c.secrets_of-secrets.ensures (on_then _ _ _ c.in_ok-q.ensures (on_then _ _ _ c.in_ok-l.ensures (on_then _ _ _ c.in_ok-e.ensures (on_then _ _ _ c.in_ok-f.ensures (on_then _ _ _ (owned_used _ _ c.requires.room.small (let e : 1 ≤ 3 = omega arith in e) c.in_ok-q.ensures _ _ c.in_ok-l.ensures c.in_ok-e.ensures c.in_ok-f.ensures) (full_then _ _ _ c.in_err-z.ensures c.from_residual-in_err-z.ensures))))))

pub returns : goal.returns
returns c = def_by _ _ _ _ c.secrets_of-secrets.ensures (on_then _ _ _ c.in_ok-q.ensures (on_then _ _ _ c.in_ok-l.ensures (on_then _ _ _ c.in_ok-e.ensures (on_then _ _ _ c.in_ok-f.ensures (on_then _ _ _ (owned_used _ _ c.requires.room.small (let e : 1 ≤ 3 = omega arith in e) c.in_ok-q.ensures _ _ c.in_ok-l.ensures c.in_ok-e.ensures c.in_ok-f.ensures) (on_then _ _ _ c.in_ok-z.ensures c.put_letters-2.ensures))))))

pub put_all_listed-requires : goal.put_all_listed-requires
put_all_listed-requires c = record { room = room-on (omega arith) c.in_ok-q.ensures }

pub put_field-requires : goal.put_field-requires
put_field-requires c = room-on (omega arith) c.in_ok-l.ensures

pub put_all_listed-requires-2 : goal.put_all_listed-requires-2
put_all_listed-requires-2 c = record { room = room-on (omega arith) c.in_ok-e.ensures }

pub overflow_add-f : goal.overflow_add-f
overflow_add-f c = let s = small c.in_ok-f.ensures in omega (arith, s.short, s.defs)

pub put_contract-requires : goal.put_contract-requires
put_contract-requires c = record { room = room-on (omega arith) (owned_used _ _ c.requires.room.small (let e : 1 ≤ 3 = omega arith in e) c.in_ok-q.ensures _ _ c.in_ok-l.ensures c.in_ok-e.ensures c.in_ok-f.ensures) }

pub put_letters-requires-2-clause-room : goal.put_letters-requires-2-clause-room
put_letters-requires-2-clause-room c = room-on (omega arith) c.in_ok-z.ensures
