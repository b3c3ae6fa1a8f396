-- What refuses a request before it is read, case by case. Assumes nothing.
use mathlib.Core.Path.{◌≡◌}
use Prim.Native.Nat.{ℕ, ◌≤◌, ◌<◌}
use borrow.Author.Tests.{le-leb, lt-leb}
use Rattle.bitml.specs.Lists.{◌&◌, ask}
use Rattle.bitml.specs.Answers.{places_of_one}
use Rattle.replies.specs.Answer.{least_text}
use Rattle.replies.specs.Before.{early}

module _ (bytes rows text : ℕ) where
  pub early-long : 65536 < bytes → 1 ≡ early bytes rows text
  unfolding early ask
  early-long h = rw (lt-leb bytes 65536 h)

  pub early-rows : bytes ≤ 65536 → rows < places_of_one → 7 ≡ early bytes rows text
  unfolding early ask ◌&◌
  early-rows h k = rw (le-leb bytes 65536 h, lt-leb places_of_one rows k)

  pub early-text : bytes ≤ 65536 → places_of_one ≤ rows → text < least_text → 7 ≡ early bytes rows text
  unfolding early ask ◌&◌
  early-text h k l = rw (le-leb bytes 65536 h, le-leb places_of_one rows k, lt-leb least_text text l)

  pub early-none : bytes ≤ 65536 → places_of_one ≤ rows → least_text ≤ text → 0 ≡ early bytes rows text
  unfolding early ask ◌&◌
  early-none h k l = rw (le-leb bytes 65536 h, le-leb places_of_one rows k, le-leb least_text text l)
