use Rattle.std.proofs.Common.{rules}
use Rattle.places.proofs.Laws.{field-first, field-on}
use Rattle.places.proofs.field_in.Goals as goal

pub returns-then-is_empty : goal.returns-then-is_empty
returns-then-is_empty c = field-first _ (search rules)

pub returns : goal.returns
returns c = field-on _ (search rules) c.count.ensures.value
