use native.Mathlib.Omega.{arith}
use Rattle.sheets.proofs.Indexing.{branch-rise, branch_slice}
use Rattle.sheets.proofs.Index.branches_of.Goals as goal

pub slice_bounds-result-count : goal.slice_bounds-result-count
slice_bounds-result-count c = let s = c.args.self in omega (arith, branch-rise _ _ s.indexed c.args.n (omega (arith, s.table.ready.promises.limits.nodes)))

pub slice_bounds-result-start : goal.slice_bounds-result-start
slice_bounds-result-start c = let s = c.args.self in omega (arith, branch-rise _ _ s.indexed c.args.n (omega (arith, s.table.ready.promises.limits.nodes)))

pub returns : goal.returns
returns c = let s = c.args.self in branch_slice _ _ s.indexed _ s.table.ready.promises.limits.branches (omega (arith, s.table.ready.promises.limits.nodes))
