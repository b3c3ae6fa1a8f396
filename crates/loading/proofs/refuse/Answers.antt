use mathlib.Core.Path.{sym, ◌∙◌}
use lib.ListN.{length}
use Rattle.buffer.proofs.Buffer.{filled_none}
use Rattle.loading.proofs.refuse.Goals as goal

pub returns : goal.returns
returns c = record { value = c.declined.ensures ∙ rw c.number.ensures; t_after = c.clear.ensures ∙ sym (filled_none (length c.args.t.now)) }
