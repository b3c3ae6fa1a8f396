use Rattle.checker.proofs.Entry.{few_gives, all_gives}
use Rattle.checker.proofs.all_for.Goals as goal

pub returns-then-room-lt-ALL_PLACES : goal.returns-then-room-lt-ALL_PLACES
returns-then-room-lt-ALL_PLACES c = few_gives _ _ c.if-room-lt-ALL_PLACES.true (rw c.number.ensures at c.refuse.ensures)

pub make_all_for-requires : goal.make_all_for-requires
make_all_for-requires c = record { numbers_of_all_in_bounds = (c.requires.numbers_of_all_in_bounds c.if-room-lt-ALL_PLACES.false, c.requires.least_text_in_bounds) }

pub returns : goal.returns
returns c = all_gives _ _ c.if-room-lt-ALL_PLACES.false c.make_all_for.ensures
