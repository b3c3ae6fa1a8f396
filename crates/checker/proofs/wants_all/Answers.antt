use native.Mathlib.Omega.{arith}
use mathlib.Core.Path.{sym, ◌∙◌}
use mathlib.Core.Bool.{false≢true}
use Rattle.checker.proofs.Lending.{wants_few, few-wide, wants_ending, ending_wide}
use Rattle.checker.proofs.wants_all.Goals as goal

pub returns-then-room-lt-ALL_PLACES : goal.returns-then-room-lt-ALL_PLACES
returns-then-room-lt-ALL_PLACES c = let h = c.if-room-lt-ALL_PLACES.true in record { value = wants_few _ _ h; places_of_all_le_room = λ e. absurd (false≢true e); wide = λ e. few-wide _ _ h }

pub returns : goal.returns
returns c = let h = c.if-room-lt-ALL_PLACES.false in let b = c.ends_in_all.ensures in record { value = b ∙ wants_ending _ _ h; places_of_all_le_room = λ e. h; wide = λ e. ending_wide _ _ (λ i. omega (arith, c.shared_slice_known-1.given i)) (sym b ∙ e) }
