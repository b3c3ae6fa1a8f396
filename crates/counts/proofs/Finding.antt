-- Looking for a branch of a contract. Assumes nothing.
use Prim.Native.Nat.{ℕ, ◌<◌}
use mathlib.Core.Bool.{true}
use mathlib.Core.Path.{◌≡◌, sym, ap, ◌∙◌}
use mathlib.Core.List.{List}
use denote.Bor.{Bor}
use native.Mathlib.Omega.{arith}
use lib.ListN.{length, get_or}
use lib.Dec.{ltb}
use borrow.Author.Tests.{ltb-true, ltb-false}
use Rattle.std.specs.Prelude.{Option, Some, None, is_some, unwrap_or, option_map, option_copied}
use Rattle.tables.specs.Entries.{held}
use Rattle.tables.specs.SheetOf.{branch_numbers, branch_count, branch_number}
use Rattle.counts.specs.View.{alive_at}
use Rattle.counts.specs.Steps.{Finds}

-- element b of the branches of a live contract's node, as it is got
pub finds_in : (t : List ℕ) (made : ℕ) (node alive : List ℕ) (c b : ℕ) (xs : List ℕ) (o : Option (Bor ℕ)) → is_some o ≡ ltb b (length xs)
    → ((d : ℕ) → unwrap_or (option_map (λ x. x.now) o) d ≡ get_or xs b d) → c < made → alive_at alive c ≡ true → xs ≡ branch_numbers (held t) (get_or node c 0)
    → Finds t made node alive c b (option_copied o)
unfolding branch_count branch_number
finds_in t made node alive c b xs None s f h a e = λ _ _. let k = ltb-false b (length xs) (sym s) in let n = ap (λ xs. length xs) e in omega arith
finds_in t made node alive c b xs (Some x) s f h a e =
    let k = ltb-true b (length xs) (sym s) in
    let n = ap (λ xs. length xs) e in
    (h, a, omega arith, f 0 ∙ ap (λ xs. get_or xs b 0) e)
