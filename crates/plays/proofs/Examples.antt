-- The events of ★10, and values, by computing. Assumes nothing.
use mathlib.Core.Path.{◌≡◌, refl}
use mathlib.Core.Option.{none, some as the}
use mathlib.Core.List.{[], ◌∷◌}
use Rattle.bitml.specs.Ledger.{wait, sign, tell, fire, renew}
use Rattle.fields.specs.Field.{field_len, text_at, end_at, all_digits, digits_on, digits_of, number_of, number_at, packed, packed_of, word_from, word_at, first_at, line_end_at, when_read, below_at, between_at}
use Rattle.requests.specs.Part.{value_at, past_of, past_value_at}
use Rattle.events.specs.Events.{pair_at, after_pair, last_pair_at, wait_at, sign_at, tell_at, fire_at, values_from, values_at, renew_at, event_at, next_of}
use Rattle.texts.specs.Text.{letters}
use Rattle.ledger.specs.Values.{value_of, behind, values_of}
use Rattle.plays.specs.Events.{event_of, events_up_to, events_of}

pub events : events_of (letters "play,x\nwait,499\nfire,0,1\nwait,1\nfire,0,1\n") 2 7 ≡ wait 499 ∷ fire 0 1 ∷ wait 1 ∷ fire 0 1 ∷ []
unfolding events_of events_up_to event_of event_at next_of wait_at fire_at last_pair_at pair_at after_pair when_read between_at number_at first_at word_from line_end_at text_at end_at field_len number_of digits_of all_digits digits_on packed_of packed
events = refl

pub renewal : events_of (letters "sign,1,0,2\ntell,3,4\nrenew,5,6,7,x,0\n") 2 0 ≡ sign 1 0 2 ∷ tell 3 4 ∷ renew 5 6 (the 7 ∷ none ∷ the 0 ∷ []) ∷ []
unfolding events_of events_up_to event_of event_at next_of sign_at tell_at renew_at values_at values_from past_value_at past_of values_of value_of value_at behind last_pair_at pair_at after_pair when_read below_at number_at first_at word_from word_at line_end_at text_at end_at field_len number_of digits_of all_digits digits_on packed_of packed
renewal = refl
