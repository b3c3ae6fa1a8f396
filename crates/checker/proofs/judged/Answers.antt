use native.Mathlib.Omega.{arith}
use Rattle.checker.proofs.judged.Goals as goal

pub judged_in-requires : goal.judged_in-requires
judged_in-requires c = record { s_len_bound = c.requires.s_len_bound; wide = c.requires.wide; spacious = omega arith }

pub judged_in-requires-then-s-le-MIDDLE : goal.judged_in-requires-then-s-le-MIDDLE
judged_in-requires-then-s-le-MIDDLE c = record { s_len_bound = c.requires.s_len_bound; wide = c.requires.wide; spacious = omega arith }

pub judged_in-requires-2 : goal.judged_in-requires-2
judged_in-requires-2 c = record { s_len_bound = c.requires.s_len_bound; wide = c.requires.wide; spacious = omega (arith, c.requires.s_len_bound.0) }
