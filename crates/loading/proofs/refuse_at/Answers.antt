use mathlib.Core.Path.{◌∙◌}
use Rattle.loading.specs.Loading.{refused_at, reply_to, cells_of}
use Rattle.loading.proofs.refuse_at.Goals as goal

pub returns : goal.returns
unfolding reply_to cells_of refused_at
returns c = let e = c.place_of-p.ensures in record { value = c.refuse.ensures.value ∙ rw e; t_after = c.refuse.ensures.t_after }
