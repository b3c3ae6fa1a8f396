use native.Mathlib.Omega.{arith}
use Rattle.sheets.proofs.Indexing.{part_bounds, part_slice}
use Rattle.sheets.proofs.Index.parts_of.Goals as goal

pub overflow_add-result : goal.overflow_add-result
overflow_add-result c = let s = c.args.self in let l = s.table.ready.promises.limits in omega (arith, part_bounds _ _ s.indexed c.args.b l.nodes (omega (arith, l.branches)), s.indexed.long)

pub overflow_add-result-3 : goal.overflow_add-result-3
overflow_add-result-3 c = let s = c.args.self in let l = s.table.ready.promises.limits in omega (arith, part_bounds _ _ s.indexed c.args.b l.nodes (omega (arith, l.branches)), s.indexed.long)

pub offset_bounds-self-self : goal.offset_bounds-self-self
offset_bounds-self-self c = let s = c.args.self in let l = s.table.ready.promises.limits in omega (arith, part_bounds _ _ s.indexed c.args.b l.nodes (omega (arith, l.branches)), s.indexed.long)

pub slice_bounds-result-count : goal.slice_bounds-result-count
slice_bounds-result-count c = let s = c.args.self in let l = s.table.ready.promises.limits in omega (arith, part_bounds _ _ s.indexed c.args.b l.nodes (omega (arith, l.branches)), s.indexed.long)

pub slice_bounds-result-start : goal.slice_bounds-result-start
slice_bounds-result-start c = let s = c.args.self in let l = s.table.ready.promises.limits in omega (arith, part_bounds _ _ s.indexed c.args.b l.nodes (omega (arith, l.branches)), s.indexed.long)

pub slice_bounds-result-end : goal.slice_bounds-result-end
slice_bounds-result-end c = let s = c.args.self in let l = s.table.ready.promises.limits in omega (arith, part_bounds _ _ s.indexed c.args.b l.nodes (omega (arith, l.branches)), s.indexed.long)

pub returns : goal.returns
returns c = let s = c.args.self in let l = s.table.ready.promises.limits in part_slice _ _ s.indexed c.args.b l.nodes (omega (arith, l.branches))
