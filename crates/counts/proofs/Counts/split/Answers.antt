use native.Mathlib.Omega.{arith}
use mathlib.Core.Path.{ap}
use Rattle.counts.specs.Book.{book}
use Rattle.counts.specs.declared.Counts.{Counts}
use Rattle.counts.proofs.Making.{dying_fits}
use Rattle.counts.proofs.Splitting.{s_numbers, s_full, s_taken_by, parts-length}
use Rattle.counts.proofs.Counts.split.Goals as goal

pub parts_of-requires : goal.parts_of-requires
parts_of-requires c = let p = c.requires in record { b_in_bounds = (s_numbers _ _ _ _ _ c.args.index.table.ready p.fit p.enabled p.q_value).0 }

pub overflow_add-self : goal.overflow_add-self
overflow_add-self c = let p = c.requires in omega (arith, p.fit.made, parts-length _ _ c.parts_of.ensures, (s_numbers _ _ _ _ _ c.args.index.table.ready p.fit p.enabled p.q_value).1)

pub returns-then-self-parts_of-gt-CONTRACTS : goal.returns-then-self-parts_of-gt-CONTRACTS
returns-then-self-parts_of-gt-CONTRACTS c = let p = c.requires in rw c.refused.ensures (s_full _ _ _ _ _ c.args.index.table.ready p.fit p.enabled p.q_value (omega (arith, parts-length _ _ c.parts_of.ensures)))

pub make_parts-requires : goal.make_parts-requires
make_parts-requires c = let a = c.args in let p = c.requires in let k = s_numbers _ _ _ _ _ a.index.table.ready p.fit p.enabled p.q_value in
    record { contracts = rw c.bury.ensures (dying_fits a.c p.fit); q_in_bounds = (k.0, p.q_value, omega (arith, k.2, c.balance_of-v.ensures), omega (arith, k.3, c.set_of-set.ensures), omega (arith, parts-length _ _ c.parts_of.ensures)); cells_long_in_bounds = omega (arith, c.bury.auto.cells, p.cells_long_in_bounds) }

pub returns : goal.returns
returns c = let a = c.args in let p = c.requires in
    let r : Counts = record { answer = 0; time = a.self.time; made = a.self.made; sets = a.self.sets; taken = a.self.taken } in
    s_taken_by _ _ _ _ _ a.index.table.ready p.fit p.enabled p.q_value (omega (arith, parts-length _ _ c.parts_of.ensures)) (ap (book r) c.bury.ensures) c.balance_of-v.ensures c.set_of-set.ensures _ c.make_parts.ensures
