use native.Mathlib.Omega.{arith}
use Rattle.std.proofs.lemmas.Grind.{common_steps}
use Rattle.counts.proofs.Renewing.{room-none, room-sets, room-deposits}
use Rattle.counts.proofs.Counts.has_room.Goals as goal

pub returns-then-self-lt-SETS : goal.returns-then-self-lt-SETS
returns-then-self-lt-SETS c = grind (arith, common_steps, room-deposits)

pub returns-else-self-lt-SETS : goal.returns-else-self-lt-SETS
returns-else-self-lt-SETS c = grind (arith, common_steps, room-none, room-sets)
