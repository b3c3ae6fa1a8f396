use native.Mathlib.Omega.{arith}
use Rattle.sheets.proofs.Indexing.{keys_arguments, named}
use Rattle.sheets.proofs.Table.namers.Goals as goal

pub bucket-requires : goal.bucket-requires
bucket-requires c = let p = c.args.self.ready in let e = c.branch_total.ensures in
    record { keys = keys_arguments _ p _ e; n_in_bounds = omega (arith, p.promises.limits.branches, c.requires.namers_long_in_bounds, e) }

pub invariant_of-result : goal.invariant_of-result
invariant_of-result c = record { named = named _ c.args.self.ready _ _ c.branch_total.ensures (omega (arith, c.requires.namers_long_in_bounds)) c.bucket.ensures }
