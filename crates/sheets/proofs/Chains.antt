-- What a chain of iterators gives, in the words of this project: a test of all, a sum, counting up. Assumes nothing.
use Rattle.std.proofs.Common.{◌≡◌, ℕ, zero, suc, ◌+◌, Bool, true, false, List, [], ◌∷◌, map, refl, sym, ap, ap₂, ◌∙◌, ◌≤◌, ◌<◌, arith, ◌&&◌, add-one}
use Rattle.std.specs.List.{list_all, range_with_len, sum as total}
use Rattle.std.proofs.lemmas.List.Recursion.{is_sum_by}
use Rattle.bitml.specs.Lists.{◌&◌, every, sum, up_from}

pub range-up : (a n : ℕ) → range_with_len a n ≡ up_from a n
range-up a zero = refl
range-up a (suc n) = rw add-one (ap (λ xs. a ∷ xs) (range-up (suc a) n))

same-and : (b c d : Bool) → c ≡ d → (b && c) ≡ (b & d)
unfolding ◌&◌
same-and true c d e = e
same-and false c d e = refl

module _ {A : Type 0} where
  pub all-every : (T : A → Bool) (xs : List A) → list_all T xs ≡ every T xs
  all-every T [] = refl
  all-every T (x ∷ xs) = same-and (T x) (list_all T xs) (every T xs) (all-every T xs)

  pub every-of_map : {B : Type 0} (T : B → Bool) (f : A → B) (xs : List A) → every T (map f xs) ≡ every (λ x. T (f x)) xs
  every-of_map T f [] = refl
  every-of_map T f (x ∷ xs) = ap (λ b. T (f x) & b) (every-of_map T f xs)

every-same : (T U : ℕ → Bool) (a n : ℕ) → ((i : ℕ) → a ≤ i → i < a + n → T i ≡ U i) → every T (up_from a n) ≡ every U (up_from a n)
every-same T U a zero f = refl
every-same T U a (suc n) f = ap₂ (λ b c. b & c) (f a (omega arith) (omega arith)) (every-same T U (suc a) n (λ i h l. f i (omega arith) (omega arith)))

-- a test of n numbers from a on
pub all-in : (T U : ℕ → Bool) (a n : ℕ) → ((i : ℕ) → a ≤ i → i < a + n → T i ≡ U i) → list_all T (range_with_len a n) ≡ every U (up_from a n)
all-in T U a n f = all-every T (range_with_len a n) ∙ ap (every T) (range-up a n) ∙ every-same T U a n f

-- a test of what stands at n numbers from a on
pub all-at : {B : Type 0} (T : B → Bool) (f : ℕ → B) (a n : ℕ) → list_all (λ i. T (f i)) (range_with_len a n) ≡ every T (map f (up_from a n))
all-at T f a n = all-every (λ i. T (f i)) (range_with_len a n) ∙ ap (every (λ i. T (f i))) (range-up a n) ∙ sym (every-of_map T f (up_from a n))

pub total-sum : (xs : List ℕ) → total xs ≡ sum xs
total-sum xs = sym (is_sum_by sum (λ x. x) refl (λ x xs. refl) xs)
