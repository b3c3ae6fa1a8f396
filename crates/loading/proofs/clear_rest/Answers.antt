use Rattle.std.proofs.Common.{rules}
use Rattle.loading.proofs.Table.{cleared_is}
use Rattle.loading.proofs.clear_rest.Goals as goal

pub returns : goal.returns
returns c = cleared_is c.args.t.now c.requires.table_long_in_bounds c.requires.sizes _ _ _ _ _ _ (search rules) (search rules) (search rules) (search rules) (search rules) (search rules)
