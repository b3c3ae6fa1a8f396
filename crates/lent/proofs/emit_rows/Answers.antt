use Rattle.std.proofs.Common.{◌∙◌, ◌≡◌, ap, arith, rules, length, replicate, ◌-◌}
use Rattle.lent.specs.Structs.{no_row}
use Rattle.lent.proofs.Structs.{written, written_next, written_all}
use Rattle.lent.proofs.emit_rows.Goals as goal

pub loop-i-preserved : goal.loop-i-preserved
loop-i-preserved c = let l = c.loop-i in let a = c.args in
    rw (l.invariant, c.row_in.ensures) (written_next a.numbers.now a.rows.now l.i (omega arith))

pub returns : goal.returns
returns c =
    let n = c.min-held.result in
    let a = c.args in
    let r = c.loop-i.rows in
    let d : c.default.result ≡ no_row = search rules in
    let f : c.fill.new.self ≡ replicate (length r - n) no_row = search rules in
    let z : c.loop-i.i ≡ n = omega arith in
    rw f (written_all a.numbers.now a.rows.now r n (omega arith) (λ h. omega arith) (c.loop-i.invariant ∙ ap (written a.numbers.now a.rows.now) z))
