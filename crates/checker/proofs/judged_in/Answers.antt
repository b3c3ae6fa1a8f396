use mathlib.Core.Path.{refl}
use native.Mathlib.Omega.{arith}
use Rattle.reading.specs.Request.{asked}
use Rattle.promises.specs.Parts.{PartPromise}
use Rattle.replies.proofs.Giving.{gives_long}
use Rattle.checker.specs.Entry.{answer_for, judged}
use Rattle.checker.proofs.Entry.{ready_by, ready-check, ready-all, judged_by}
use Rattle.checker.proofs.judged_in.Goals as goal

pub returns-in-Err : goal.returns-in-Err
unfolding judged
returns-in-Err c = rw (← c.in-Err.ensures, ← c.number.ensures) (gives_long c.refuse.ensures (omega arith) (omega arith))

pub invariant_of-table : goal.invariant_of-table
unfolding asked
invariant_of-table c = let k = ready_by _ _ _ _ c.in-Ok.ensures _ _ c.in-Make.is refl (omega (arith, c.requires.spacious, c.read.auto.buffer)) in record { ready = k.0 }

pub make_for-requires : goal.make_for-requires
unfolding asked PartPromise
make_for-requires c = let k = ready_by _ _ _ _ c.in-Ok.ensures _ _ c.in-Make.is refl (omega (arith, c.requires.spacious, c.read.auto.buffer)) in record { p_bound = (k.1, omega arith, omega arith) }

pub invariant_of-table-in-MakeAll : goal.invariant_of-table-in-MakeAll
unfolding asked
invariant_of-table-in-MakeAll c = let k = ready_by _ _ _ _ c.in-Ok.ensures _ _ c.in-MakeAll.is refl (omega (arith, c.requires.spacious, c.read.auto.buffer)) in record { ready = k.0 }

pub all_for-requires : goal.all_for-requires
all_for-requires c = let k = ready-all _ _ _ _ c.in-Ok.ensures c.in-MakeAll.is (omega (arith, c.requires.spacious, c.read.auto.buffer)) in record { numbers_of_all_in_bounds = (λ h. let w = k.1 _ _ c.requires.wide h in omega (arith, w)); least_text_in_bounds = omega arith }

pub invariant_of-table-in-Why : goal.invariant_of-table-in-Why
unfolding asked
invariant_of-table-in-Why c = let k = ready_by _ _ _ _ c.in-Ok.ensures _ _ c.in-Why.is refl (omega (arith, c.requires.spacious, c.read.auto.buffer)) in record { ready = k.0 }

pub why_for-requires : goal.why_for-requires
unfolding asked PartPromise
why_for-requires c = let k = ready_by _ _ _ _ c.in-Ok.ensures _ _ c.in-Why.is refl (omega (arith, c.requires.spacious, c.read.auto.buffer)) in record { p_bound = (k.1, omega arith, omega arith) }

pub invariant_of-table-in-Check : goal.invariant_of-table-in-Check
invariant_of-table-in-Check c = let k = ready-check _ _ _ _ c.in-Ok.ensures _ _ c.in-Check.is (omega (arith, c.requires.spacious, c.read.auto.buffer)) (omega arith) in record { ready = k.0 }

pub check_for-requires : goal.check_for-requires
check_for-requires c = let k = ready-check _ _ _ _ c.in-Ok.ensures _ _ c.in-Check.is (omega (arith, c.requires.spacious, c.read.auto.buffer)) (omega arith) in record { p_bound = (k.1, omega arith); rows_fit = k.2 }

pub invariant_of-table-in-Play : goal.invariant_of-table-in-Play
unfolding asked
invariant_of-table-in-Play c = let k = ready_by _ _ _ _ c.in-Ok.ensures _ _ c.in-Play.is refl (omega (arith, c.requires.spacious, c.read.auto.buffer)) in record { ready = k.0 }

pub play_for-requires : goal.play_for-requires
unfolding asked PartPromise
play_for-requires c = let k = ready_by _ _ _ _ c.in-Ok.ensures _ _ c.in-Play.is refl (omega (arith, c.requires.spacious, c.read.auto.buffer)) in record { s_len_bound = (omega arith, omega arith); play_promise = k.1 }

pub returns-in-Make : goal.returns-in-Make
unfolding asked judged answer_for
returns-in-Make c = judged_by _ _ _ _ c.in-Ok.ensures _ _ c.in-Make.is (gives_long c.make_for.ensures (omega arith) (omega arith))

pub returns-in-MakeAll : goal.returns-in-MakeAll
unfolding asked judged answer_for
returns-in-MakeAll c = judged_by _ _ _ _ c.in-Ok.ensures _ _ c.in-MakeAll.is (gives_long c.all_for.ensures (omega arith) (omega arith))

pub returns-in-Why : goal.returns-in-Why
unfolding asked judged answer_for
returns-in-Why c = judged_by _ _ _ _ c.in-Ok.ensures _ _ c.in-Why.is (gives_long c.why_for.ensures (omega arith) (omega arith))

pub returns-in-Check : goal.returns-in-Check
unfolding asked judged answer_for
returns-in-Check c = judged_by _ _ _ _ c.in-Ok.ensures _ _ c.in-Check.is (gives_long c.check_for.ensures (omega arith) (omega arith))

pub returns-in-Play : goal.returns-in-Play
unfolding asked judged answer_for
returns-in-Play c = judged_by _ _ _ _ c.in-Ok.ensures _ _ c.in-Play.is (gives_long c.play_for.ensures (omega arith) (omega arith))
