use Prim.Native.Nat.{◌+◌}
use mathlib.Core.Path.{refl, sym, ap, ◌∙◌}
use native.Mathlib.Omega.{arith}
use lib.ListN.{length}
use Rattle.tables.specs.Entries.{held, people}
use Rattle.tables.specs.SheetOf.{sheet_in, def_entry_at}
use Rattle.tables.proofs.SheetOf.{defs-are}
use Rattle.buffer.proofs.Buffer.{cleared_long}
use Rattle.replies.proofs.Giving.{gives_as}
use Rattle.ledger.specs.Values.{values_of}
use Rattle.plays.specs.Events.{events_of}
use Rattle.plays.proofs.Playing.{play_gives}
use Rattle.plays.proofs.play_for.Goals as goal

pub overflow_add-first : goal.overflow_add-first
overflow_add-first c = omega (arith, c.def_total-first.ensures, c.args.table.ready.promises.limits.defs)

pub play-e-requires : goal.play-e-requires
play-e-requires c = let p = c.requires in
    (refl, p.s_len_bound.0, p.play_promise.inside, omega (arith, c.def_total-first.ensures, c.args.table.ready.promises.limits.defs), omega (arith, p.s_len_bound), rw c.index-index.ensures.table p.play_promise.events)

pub shape_of-rows : goal.shape_of-rows
shape_of-rows c = cleared_long _ _ c.clear.ensures

pub returns : goal.returns
returns c = let a = c.args in let t = a.table.cells.now in let K = people t in let E = held t in let s = a.s.now in
    gives_as c.answered.ensures
    (play_gives (sheet_in t) (values_of s a.from (def_entry_at E 0).secrets) (events_of s K a.to) _ _ (length a.rows.now) (length a.text.now) _ _ _ _ refl
    (ap (λ n. n + 3) (c.def_total-first.ensures ∙ sym (defs-are K E))) c.clear-2.ensures c.clear.ensures (rw c.index-index.ensures.table at c.play-e.ensures))
