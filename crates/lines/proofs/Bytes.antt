-- Laws of the limit on the sheet's bytes. Assumes nothing.
use Prim.Native.Nat.{ℕ, ◌≤◌, ◌<◌}
use mathlib.Core.Path.{◌≡◌, refl}
use mathlib.Core.List.{List}
use mathlib.Core.Bool.{Bool, true, false}
use native.Mathlib.Omega.{arith}
use lib.ListN.{length}
use lib.Dec.{leb}
use borrow.Author.Tests.{le-leb, lt-leb, lt-ltb, le-ltb}
use Rattle.tables.specs.State.{State}
use Rattle.places.specs.Places.{passing_of}
use Rattle.steps.specs.Steps.{Outcome, next, bad, either}
use Rattle.lines.specs.Sheet.{limited, beyond}

either-same : (b : Bool) (x : Outcome) → either b x x ≡ x
unfolding either
either-same true x = refl
either-same false x = refl

either-yes : (b : Bool) (x y : Outcome) → b ≡ true → either b x y ≡ x
unfolding either
either-yes b x y h = rw h

module _ (s : List ℕ) where
  pub limited-short : (w : Outcome) → length s ≤ 32768 → limited s w ≡ w
  unfolding limited either
  limited-short w h = rw (le-leb _ _ h)

  pub limited-within : (a : State) → a.at ≤ 32768 → limited s (next a) ≡ next a
  unfolding limited beyond
  limited-within a h =
      let e : either (leb a.at 32768) (next a) (bad 7 (passing_of s 32768)) ≡ next a = either-yes _ _ _ (le-leb _ _ h) in
      rw (e, either-same (leb (length s) 32768) (next a))

  -- more bytes than the limit
  module _ (q : ℕ) (long : 32768 < length s) (hq : q ≡ passing_of s 32768) where
    pub limited-beyond : (a : State) → 32768 < a.at → limited s (next a) ≡ bad 7 q
    unfolding limited beyond either
    limited-beyond a h = rw (lt-leb _ _ long, lt-leb _ _ h, hq)

    pub limited-before : (n p : ℕ) → p < q → limited s (bad n p) ≡ bad n p
    unfolding limited beyond either
    limited-before n p h = rw (lt-leb _ _ long, ← hq, lt-ltb _ _ h)

    pub limited-lower : (n p : ℕ) → p ≡ q → n < 7 → limited s (bad n p) ≡ bad n p
    unfolding limited beyond either
    limited-lower n p h k =
        let i : q ≤ p = omega arith in
        let j : p ≤ q = omega arith in
        rw (lt-leb _ _ long, ← hq, le-ltb _ _ i, le-ltb _ _ j, lt-ltb _ _ k)

    pub limited-after : (n p : ℕ) → q < p → limited s (bad n p) ≡ bad 7 q
    unfolding limited beyond either
    limited-after n p h =
        let i : q ≤ p = omega arith in
        rw (lt-leb _ _ long, ← hq, le-ltb _ _ i, lt-ltb _ _ h)

    pub limited-there : (n p : ℕ) → p ≡ q → 7 ≤ n → limited s (bad n p) ≡ bad 7 q
    unfolding limited beyond either
    limited-there n p h k =
        let i : q ≤ p = omega arith in
        let j : p ≤ q = omega arith in
        rw (lt-leb _ _ long, ← hq, le-ltb _ _ i, le-ltb _ _ j, le-ltb _ _ k, h)
