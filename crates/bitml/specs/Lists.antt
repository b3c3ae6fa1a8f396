-- Tests and lists: the few words that the other modules are written in. Assumes nothing.
use Rattle.std.specs.Prelude.{ℕ, zero, suc, ◌+◌, Bool, true, false, cond, List, [], ◌∷◌, ◌++◌}

infixr 35 ◌&◌
infixr 30 ◌or◌
infixr 25 ◌⇒◌
-- Tests put together. They are shut, unlike the library's `◌&&◌` and `◌||◌`, so that a lemma's `_` is found
unfoldable pub ◌&◌ : Bool → Bool → Bool
true & b = b
false & b = false

unfoldable pub ◌or◌ : Bool → Bool → Bool
true or b = true
false or b = b

unfoldable pub ◌⇒◌ : Bool → Bool → Bool
true ⇒ b = b
false ⇒ b = true

-- What is refused: the number where the test fails, else what the rest says; 0 is no refusal
unfoldable pub ask : Bool → ℕ → ℕ → ℕ
ask true k rest = rest
ask false k rest = k

abbrev pub sum : List ℕ → ℕ
sum [] = 0
sum (x ∷ xs) = x + sum xs

module _ {A : Type 0} where
  -- The test passes at every element; at some element
  abbrev pub every : (A → Bool) → List A → Bool
  every t [] = true
  every t (x ∷ xs) = t x & every t xs

  abbrev pub any : (A → Bool) → List A → Bool
  any t [] = false
  any t (x ∷ xs) = t x or any t xs

  -- The elements at which the test passes, in their order
  abbrev pub keep : (A → Bool) → List A → List A
  keep t [] = []
  keep t (x ∷ xs) = cond (t x) (x ∷ keep t xs) (keep t xs)

  -- The lists that a function gives for the elements, one behind the other
  abbrev pub gather : {B : Type 0} → (A → List B) → List A → List B
  gather f [] = []
  gather f (x ∷ xs) = f x ++ gather f xs

  -- A fact about every element
  pub data All (Q : A → Type 0) : List A → Type 0 where
    nil : All Q []
    cons : {x : A} {xs : List A} → Q x → All Q xs → All Q (x ∷ xs)

-- k, k + 1, .., k + n - 1; and the numbers below n
abbrev pub up_from : ℕ → ℕ → List ℕ
up_from k zero = []
up_from k (suc n) = k ∷ up_from (suc k) n

abbrev pub below : ℕ → List ℕ
below n = up_from 0 n
