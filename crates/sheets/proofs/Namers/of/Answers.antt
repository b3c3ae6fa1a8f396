use native.Mathlib.Omega.{arith}
use Rattle.sheets.proofs.Indexing.{namers-rise, namer_slice}
use Rattle.sheets.proofs.Namers.of.Goals as goal

pub slice_bounds-result-count : goal.slice_bounds-result-count
slice_bounds-result-count c = let s = c.args.self in omega (arith, namers-rise _ _ s.named _ c.requires.a_lt_most_nodes)

pub slice_bounds-result-start : goal.slice_bounds-result-start
slice_bounds-result-start c = let s = c.args.self in omega (arith, namers-rise _ _ s.named _ c.requires.a_lt_most_nodes)

pub returns : goal.returns
returns c = let s = c.args.self in namer_slice _ _ s.named _ s.table.ready.promises.limits.branches c.requires.a_lt_most_nodes
