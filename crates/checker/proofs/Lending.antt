-- A request that is read as `makeall` ends in that line. Assumes nothing.
use mathlib.Core.Path.{◌≡◌, sym, ◌∙◌}
use Prim.Native.Nat.{ℕ, ◌≤◌, ◌<◌}
use native.Mathlib.Omega.{arith}
use mathlib.Core.Bool.{true, false, false≢true}
use mathlib.Core.List.{List}
use lib.ListN.{length}
use borrow.Author.Tests.{le-ltb, le-leb, lt-leb}
use Rattle.bitml.proofs.Lists.{and_true, and_false}
use Rattle.fields.proofs.Words.{Bytes}
use Rattle.tables.specs.Entries.{Entries}
use Rattle.buffer.specs.Buffer.{places_of_all, numbers_of_one}
use Rattle.reading.specs.Request.{request, make_all, read_request}
use Rattle.promises.proofs.LastLine.{all-last}
use Rattle.checker.specs.Lending.{Wide, names_all, ends_in_all, wants_all}

ends_in_all_lem : (s : List ℕ) → Bytes s → (K : ℕ) (E : Entries) → read_request s ≡ request K E make_all → ends_in_all s ≡ true
unfolding ends_in_all names_all
ends_in_all_lem s h K E e = let w = all-last s h K E e in rw (le-ltb (length s) 8 w.room, w.word)

module _ (s : List ℕ) (rows : ℕ) where
  -- too few places for the rows of all
  pub wants_few : rows < places_of_all → false ≡ wants_all s rows
  unfolding wants_all
  wants_few h = sym (and_false _ _ (lt-leb places_of_all rows h))

  pub few-wide : rows < places_of_all → Wide s rows numbers_of_one
  unfolding Wide
  few-wide h K E e k = absurd (omega arith)

  -- enough, if the request ends so
  pub wants_ending : places_of_all ≤ rows → ends_in_all s ≡ wants_all s rows
  unfolding wants_all
  wants_ending h = sym (and_true _ _ (le-leb places_of_all rows h))

  pub ending_wide : Bytes s → ends_in_all s ≡ false → Wide s rows numbers_of_one
  unfolding Wide
  ending_wide b f K E e k = absurd (false≢true (sym f ∙ ends_in_all_lem s b K E e))
