use mathlib.Core.Path.{ap, ap₂, ◌∙◌}
use lib.ListN.{length}
use Rattle.std.specs.List.{find}
use Rattle.bitml.specs.Lists.{below}
use Rattle.tables.specs.Entries.{held, people}
use Rattle.buffer.specs.Buffer.{filled}
use Rattle.buffer.proofs.Buffer.{cleared_long}
use Rattle.exits.specs.Made.{rows_by, stuck_by}
use Rattle.exits.proofs.Buffer.{made-frozen, made-liquid, first-rank, answer-frozen, buffer_frozen, answer-liquid, buffer_liquid}
use Rattle.exits.proofs.make.Goals as goal

pub returns-in-Some : goal.returns-in-Some
returns-in-Some c = let a = c.args in let t = a.index.table in let K = people t.cells.now in let E = held t.cells.now in
    let M = a.marks.now in let R = c.rank_all.new.ranks in let B = c.rank_all.new.branches in
    let f = made-frozen K E a.p t.ready.promises M R B c.requires.marks_reached c.rank_all.ensures c.in-Some.node (c.in-Some.ensures ∙ ap (λ n. find (stuck_by M R) (below n)) c.node_total-n.ensures) in
    record { value = answer-frozen _ _ f; rows_after = buffer_frozen _ _ _ _ f c.clear.ensures }

pub returns : goal.returns
returns c = let a = c.args in let t = a.index.table in let K = people t.cells.now in let E = held t.cells.now in let n = c.node_total-n.ensures in
    let M = a.marks.now in let R = c.rank_all.new.ranks in let B = c.rank_all.new.branches in
    let ok = t.ready.promises in let mr = c.requires.marks_reached in let rk = c.rank_all.ensures in
    let f = made-liquid K E a.p ok M R B mr rk (c.in_default.ensures ∙ ap (λ n. find (stuck_by M R) (below n)) n) in
    let l = cleared_long (length a.rows.now) _ c.clear.ensures in let v = c.put_rows-count.ensures in record {
      value = answer-liquid _ (rows_by M R B (length E.nodes)) _ _ f (v.value ∙ ap (λ n. length (rows_by M R B n)) n) (first-rank K E a.p ok M R B mr rk);
      rows_after = buffer_liquid _ (rows_by M R B (length E.nodes)) _ _ f (v.rows_after ∙ ap₂ (λ L n. filled L (rows_by M R B n)) l n);
    }
