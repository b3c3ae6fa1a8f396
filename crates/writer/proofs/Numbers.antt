-- A number of entry i of what a table holds, or 0 where there is none. Assumes nothing.
use Rattle.std.proofs.Common.{ℕ, ◌≡◌, ◌<◌, get_or, nat_lt, if◌then◌else◌, arith}
use mathlib.Core.Logic.{by_cases}
use native.Mathlib.Decide.{dec_le}
use borrow.Author.Tests.{lt-ltb, le-ltb}
use Rattle.tables.specs.Entries.{first_of}
use Rattle.tables.proofs.Runs.{first_of_get_d, first_of_past}

pub entry_number : {A : Type 0} (g : A → ℕ) (f : ℕ → A) (n i : ℕ) (d : A) → g d ≡ 0 → (if nat_lt i n then g (f i) else 0) ≡ g (get_or (first_of f n) i d)
entry_number g f n i d e =
    by_cases (dec_le n i) (λ h. rw (le-ltb i n h, first_of_past f n i d h, e))
    (λ h. let l : i < n = omega arith in rw (lt-ltb i n l, first_of_get_d f n i d l))
