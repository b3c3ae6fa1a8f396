-- Laws of tests and lists. Assumes nothing.
use mathlib.Core.Path.{◌≡◌, refl, sym, ap, ap₂, ◌∙◌, subst}
use mathlib.Core.Logic.{◌⊎◌, inl, inr, by_cases}
use Prim.Native.Nat.{ℕ, zero, suc, ◌+◌, ◌-◌, ◌*◌, ◌≤◌, ◌<◌}
use native.Mathlib.Omega.{arith}
use native.Mathlib.Decide.{dec_le}
use native.Mathlib.Nat.{suc-ne-zero}
use mathlib.Core.Bool.{Bool, true, false, not, false≢true, true≢false, cond}
use mathlib.Core.List.{List, [], ◌∷◌, ◌++◌, map, Memᴰ, nil≢cons, head-eq_of_cons-eq, append_assoc}
use lib.ListN.{length, get_or, set, drop, length-append, replicate}
use Rattle.bitml.specs.Lists.{◌&◌, ◌or◌, ◌⇒◌, ask, sum, every, any, keep, gather, All, nil, cons, up_from}

-- a test that can't pass
pub is_false : (b : Bool) → (b ≡ true → ⊥) → b ≡ false
is_false true f = absurd (f refl)
is_false false f = refl

pub and_l : (a b : Bool) → (a & b) ≡ true → a ≡ true
unfolding ◌&◌
and_l true b e = refl
and_l false b e = e

pub and_r : (a b : Bool) → (a & b) ≡ true → b ≡ true
unfolding ◌&◌
and_r true b e = e
and_r false b e = absurd (false≢true e)

pub and_i : (a b : Bool) → a ≡ true → b ≡ true → (a & b) ≡ true
unfolding ◌&◌
and_i a b e f = rw (e, f)

pub and_false : (a b : Bool) → a ≡ false → (a & b) ≡ false
unfolding ◌&◌
and_false a b e = rw e

pub and_true : (a b : Bool) → a ≡ true → (a & b) ≡ b
unfolding ◌&◌
and_true a b e = rw e

pub and_no : (a b : Bool) → b ≡ false → (a & b) ≡ false
unfolding ◌&◌
and_no true b e = e
and_no false b e = refl

pub and_cases : (a b : Bool) → (a & b) ≡ false → (a ≡ false) ⊎ (b ≡ false)
unfolding ◌&◌
and_cases true b e = inr e
and_cases false b e = inl refl

pub and-end : (a : Bool) → (a & true) ≡ a
unfolding ◌&◌
and-end true = refl
and-end false = refl

pub and_assoc : (a b c : Bool) → ((a & b) & c) ≡ (a & (b & c))
unfolding ◌&◌
and_assoc true b c = refl
and_assoc false b c = refl

pub or_l : (a b : Bool) → a ≡ true → (a or b) ≡ true
unfolding ◌or◌
or_l true b e = refl
or_l false b e = absurd (false≢true e)

pub or_r : (a b : Bool) → b ≡ true → (a or b) ≡ true
unfolding ◌or◌
or_r true b e = refl
or_r false b e = e

pub or_cases : (a b : Bool) → (a or b) ≡ true → (a ≡ true) ⊎ (b ≡ true)
unfolding ◌or◌
or_cases true b e = inl refl
or_cases false b e = inr e

pub or_no_l : (a b : Bool) → (a or b) ≡ false → a ≡ false
unfolding ◌or◌
or_no_l true b e = e
or_no_l false b e = refl

pub or_no_r : (a b : Bool) → (a or b) ≡ false → b ≡ false
unfolding ◌or◌
or_no_r true b e = absurd (true≢false e)
or_no_r false b e = e

pub or_no : (a b : Bool) → a ≡ false → b ≡ false → (a or b) ≡ false
unfolding ◌or◌
or_no a b e f = rw (e, f)

-- what the one conclusion covers the other covers
pub cover : (a b c : Bool) → (a ⇒ b) ≡ true → (b ≡ true → (a ⇒ c) ≡ true) → (a ⇒ c) ≡ true
unfolding ◌⇒◌
cover true b c h f = f h
cover false b c h f = refl

pub imp_i : (a b : Bool) → b ≡ true → (a ⇒ b) ≡ true
unfolding ◌⇒◌
imp_i true b e = e
imp_i false b e = refl

pub imp_e : (a b : Bool) → (a ⇒ b) ≡ true → a ≡ true → b ≡ true
unfolding ◌⇒◌
imp_e true b h e = h
imp_e false b h e = absurd (false≢true e)

pub imp_no_l : (a b : Bool) → (a ⇒ b) ≡ false → a ≡ true
unfolding ◌⇒◌
imp_no_l true b e = refl
imp_no_l false b e = sym e

pub imp_no_r : (a b : Bool) → (a ⇒ b) ≡ false → not b ≡ true
unfolding ◌⇒◌
imp_no_r true b e = rw e
imp_no_r false b e = absurd (false≢true (sym e))

pub ask_i : (t : Bool) (k rest : ℕ) → t ≡ true → rest ≡ 0 → ask t k rest ≡ 0
unfolding ask
ask_i t k rest e f = rw (e, f)

pub ask_test : (t : Bool) (k rest : ℕ) → ask t (suc k) rest ≡ 0 → t ≡ true
unfolding ask
ask_test true k rest e = refl
ask_test false k rest e = absurd (suc-ne-zero k e)

pub ask_no : (t : Bool) (k rest : ℕ) → t ≡ false → ask t k rest ≡ k
unfolding ask
ask_no t k rest e = rw e

pub ask_yes : (t : Bool) (k rest : ℕ) → t ≡ true → ask t k rest ≡ rest
unfolding ask
ask_yes t k rest e = rw e

module _ {A : Type 0} where
  pub all_head : {Q : A → Type 0} {x : A} {xs : List A} → All Q (x ∷ xs) → Q x
  all_head (cons h a) = h

  pub all_tail : {Q : A → Type 0} {x : A} {xs : List A} → All Q (x ∷ xs) → All Q xs
  all_tail (cons h a) = a

  pub all-at : (Q : A → Type 0) {xs : List A} (i : ℕ) (d : A) → Q d → All Q xs → Q (get_or xs i d)
  all-at Q i d q nil = q
  all-at Q zero d q (cons h a) = h
  all-at Q (suc i) d q (cons h a) = all-at Q i d q a

  pub all_set : {Q : A → Type 0} {xs : List A} (i : ℕ) (y : A) → Q y → All Q xs → All Q (set xs i y)
  all_set i y q nil = nil
  all_set zero y q (cons h a) = cons q a
  all_set (suc i) y q (cons h a) = cons h (all_set i y q a)

  pub all_append : {Q : A → Type 0} {xs ys : List A} → All Q xs → All Q ys → All Q (xs ++ ys)
  all_append nil b = b
  all_append (cons h a) b = cons h (all_append a b)

  pub all_imp : {Q Q' : A → Type 0} {xs : List A} → ((x : A) → Q x → Q' x) → All Q xs → All Q' xs
  all_imp f nil = nil
  all_imp f (cons {x = x} h a) = cons (f x h) (all_imp f a)

  pub all_both : {Q Q' Q'' : A → Type 0} {xs : List A} → ((x : A) → Q x → Q' x → Q'' x) → All Q xs → All Q' xs → All Q'' xs
  all_both f nil a = nil
  all_both f (cons {x = x} h a) b = cons (f x h (all_head b)) (all_both f a (all_tail b))

  pub all_by_at : (Q : A → Type 0) (xs : List A) (d : A) → ((i : ℕ) → i < length xs → Q (get_or xs i d)) → All Q xs
  all_by_at Q [] d f = nil
  all_by_at Q (x ∷ xs) d f = cons (f 0 (omega arith)) (all_by_at Q xs d (λ i h. f (suc i) (omega arith)))

  pub all_map : {B : Type 0} {Q : B → Type 0} (f : A → B) {xs : List A} → All (λ x. Q (f x)) xs → All Q (map f xs)
  all_map f nil = nil
  all_map f (cons h a) = cons h (all_map f a)

  pub all-mem : (Q : A → Type 0) (xs : List A) → ((x : A) → Memᴰ x xs → Q x) → All Q xs
  all-mem Q [] f = nil
  all-mem Q (x ∷ xs) f = cons (f x (Memᴰ.head refl)) (all-mem Q xs (λ y m. f y (Memᴰ.tail m)))

  pub every_imp : (t u : A → Bool) → ((x : A) → t x ≡ true → u x ≡ true) → (xs : List A) → every t xs ≡ true → every u xs ≡ true
  every_imp t u f [] e = refl
  every_imp t u f (x ∷ xs) e =
      and_i (u x) (every u xs) (f x (and_l (t x) (every t xs) e)) (every_imp t u f xs (and_r (t x) (every t xs) e))

  -- what holds of every element holds at an index in range
  pub every-at : (t : A → Bool) (xs : List A) (i : ℕ) (d : A) → every t xs ≡ true → i < length xs → t (get_or xs i d) ≡ true
  every-at t [] i d e h = absurd (omega arith)
  every-at t (x ∷ xs) zero d e h = and_l (t x) (every t xs) e
  every-at t (x ∷ xs) (suc i) d e h = every-at t xs i d (and_r (t x) (every t xs) e) (omega arith)

  -- a stored element, and the others
  pub at_set : (Q : A → Type 0) (xs : List A) (i j : ℕ) (y d : A) → Q (get_or xs j d) → (j ≡ i → Q y) → Q (get_or (set xs i y) j d)
  at_set Q [] i j y d q f = q
  at_set Q (x ∷ xs) zero zero y d q f = f refl
  at_set Q (x ∷ xs) zero (suc j) y d q f = q
  at_set Q (x ∷ xs) (suc i) zero y d q f = q
  at_set Q (x ∷ xs) (suc i) (suc j) y d q f = at_set Q xs i j y d q (λ e. f (ap suc e))

  -- an index that finds what the default is not is in range
  pub in_range : (t : A → Bool) (xs : List A) (i : ℕ) (d : A) → t d ≡ false → t (get_or xs i d) ≡ true → i < length xs
  in_range t [] i d n e = absurd (false≢true (sym n ∙ e))
  in_range t (x ∷ xs) zero d n e = omega arith
  in_range t (x ∷ xs) (suc i) d n e = let h : i < length xs = in_range t xs i d n e in omega arith

  -- either the test fails everywhere, or any index passes it
  pub find : (t : A → Bool) (d : A) (xs : List A) → (every (λ x. not (t x)) xs ≡ true) ⊎ ((i : ℕ) × (i < length xs) × (t (get_or xs i d) ≡ true))
  unfolding ◌&◌
  find t d [] = inl refl
  find t d (x ∷ xs) = here (t x) refl (find t d xs)
    where
      here : (a : Bool) → t x ≡ a → (every (λ x. not (t x)) xs ≡ true) ⊎ ((i : ℕ) × (i < length xs) × (t (get_or xs i d) ≡ true))
          → (every (λ x. not (t x)) (x ∷ xs) ≡ true) ⊎ ((i : ℕ) × (i < suc (length xs)) × (t (get_or (x ∷ xs) i d) ≡ true))
      here true e r = inr (0, omega arith, e)
      here false e (inl n) = inl (rw e n)
      here false e (inr w) = inr (suc w.0, (let h : w.0 < length xs = w.1 in omega arith), w.2)

  -- sums over a list of which one element changes
  pub sum-append : (f : A → ℕ) (xs ys : List A) → sum (map f (xs ++ ys)) ≡ sum (map f xs) + sum (map f ys)
  sum-append f [] ys = omega arith
  sum-append f (x ∷ xs) ys = rw (sum-append f xs ys) (omega arith)

  pub sum-set : (f : A → ℕ) (xs : List A) (i : ℕ) (y d : A) → i < length xs
      → sum (map f (set xs i y)) + f (get_or xs i d) ≡ sum (map f xs) + f y
  sum-set f [] i y d h = absurd (omega arith)
  sum-set f (x ∷ xs) zero y d h = omega arith
  sum-set f (x ∷ xs) (suc i) y d h =
      let ih : sum (map f (set xs i y)) + f (get_or xs i d) ≡ sum (map f xs) + f y = sum-set f xs i y d (omega arith) in omega arith

  pub every-mem : (t : A → Bool) {y : A} (xs : List A) → every t xs ≡ true → Memᴰ y xs → t y ≡ true
  every-mem t xs e (Memᴰ.head {x = x} {xs = ys} p) = rw p (and_l (t x) (every t ys) e)
  every-mem t xs e (Memᴰ.tail {x = x} {xs = ys} m) = every-mem t ys (and_r (t x) (every t ys) e) m

  pub all_left : {Q : A → Type 0} (xs ys : List A) → All Q (xs ++ ys) → All Q xs
  all_left [] ys a = nil
  all_left (x ∷ xs) ys a = cons (all_head a) (all_left xs ys (all_tail a))

  pub all_right : {Q : A → Type 0} (xs ys : List A) → All Q (xs ++ ys) → All Q ys
  all_right [] ys a = a
  all_right (x ∷ xs) ys a = all_right xs ys (all_tail a)

  pub all_of : {Q : A → Type 0} {y : A} {xs : List A} → All Q xs → Memᴰ y xs → Q y
  all_of {Q} a (Memᴰ.head p) = subst Q (sym p) (all_head a)
  all_of a (Memᴰ.tail m) = all_of (all_tail a) m

  pub map_cong : {B : Type 0} (f g : A → B) (xs : List A) → ((x : A) → Memᴰ x xs → f x ≡ g x) → map f xs ≡ map g xs
  map_cong f g [] h = refl
  map_cong f g (x ∷ xs) h = ap₂ ◌∷◌ (h x (Memᴰ.head refl)) (map_cong f g xs (λ y m. h y (Memᴰ.tail m)))

  pub at_map : {B : Type 0} (f : A → B) (xs : List A) (i : ℕ) (d : A) (e : B) → i < length xs → get_or (map f xs) i e ≡ f (get_or xs i d)
  at_map f [] i d e h = absurd (omega arith)
  at_map f (x ∷ xs) zero d e h = refl
  at_map f (x ∷ xs) (suc i) d e h = at_map f xs i d e (omega arith)

  pub at-replicate : (n i : ℕ) (a : A) → get_or (replicate n a) i a ≡ a
  at-replicate zero i a = refl
  at-replicate (suc n) zero a = refl
  at-replicate (suc n) (suc i) a = at-replicate n i a

  pub drop-replicate : (k n : ℕ) (a : A) → drop k (replicate n a) ≡ replicate (n - k) a
  drop-replicate zero n a = ap (λ m. replicate m a) (let e : n ≡ n - 0 = omega arith in e)
  drop-replicate (suc k) zero a = ap (λ m. replicate m a) (let e : 0 ≡ 0 - suc k = omega arith in e)
  drop-replicate (suc k) (suc n) a = drop-replicate k n a ∙ ap (λ m. replicate m a) (let e : n - k ≡ suc n - suc k = omega arith in e)

  pub every_map : {B : Type 0} (t : B → Bool) (f : A → B) (xs : List A) → every t (map f xs) ≡ true → All (λ x. t (f x) ≡ true) xs
  every_map t f [] e = nil
  every_map t f (x ∷ xs) e = cons (and_l _ _ e) (every_map t f xs (and_r _ _ e))

  pub map-every : {B : Type 0} (t : B → Bool) (f : A → B) (xs : List A) → All (λ x. t (f x) ≡ true) xs → every t (map f xs) ≡ true
  map-every t f [] a = refl
  map-every t f (x ∷ xs) a = and_i _ _ (all_head a) (map-every t f xs (all_tail a))

  pub mem-le-sum : (f : A → ℕ) {y : A} (xs : List A) → Memᴰ y xs → f y ≤ sum (map f xs)
  mem-le-sum f xs (Memᴰ.head {x = x} {xs = ys} p) = rw p (omega arith)
  mem-le-sum f xs (Memᴰ.tail {x = x} {xs = ys} m) = let h = mem-le-sum f ys m in omega arith

  pub any-mem : (t : A → Bool) (xs : List A) → any t xs ≡ true → (y : A) × Memᴰ y xs × (t y ≡ true)
  any-mem t [] e = absurd (false≢true e)
  any-mem t (x ∷ xs) e = go (or_cases _ _ e) (any-mem t xs)
    where
      go : (t x ≡ true) ⊎ (any t xs ≡ true) → (any t xs ≡ true → (y : A) × Memᴰ y xs × (t y ≡ true)) → (y : A) × Memᴰ y (x ∷ xs) × (t y ≡ true)
      go (inl h) f = (x, Memᴰ.head refl, h)
      go (inr h) f = let w = f h in (w.0, Memᴰ.tail w.1, w.2)

  pub mem-any : (t : A → Bool) {y : A} (xs : List A) → Memᴰ y xs → t y ≡ true → any t xs ≡ true
  mem-any t xs (Memᴰ.head {x = x} {xs = ys} p) e = or_l _ _ (rw p at e)
  mem-any t xs (Memᴰ.tail {x = x} {xs = ys} m) e = or_r _ _ (mem-any t ys m e)

  pub any_at_lem : (t : A → Bool) (xs : List A) (d : A) → any t xs ≡ true → (i : ℕ) × (i < length xs) × (t (get_or xs i d) ≡ true)
  any_at_lem t [] d e = absurd (false≢true e)
  any_at_lem t (x ∷ xs) d e = go (or_cases _ _ e) (any_at_lem t xs d)
    where
      go : (t x ≡ true) ⊎ (any t xs ≡ true) → (any t xs ≡ true → (i : ℕ) × (i < length xs) × (t (get_or xs i d) ≡ true))
          → (i : ℕ) × (i < suc (length xs)) × (t (get_or (x ∷ xs) i d) ≡ true)
      go (inl h) f = (0, omega arith, h)
      go (inr h) f = let w = f h in (suc w.0, (omega (arith, w.1)), w.2)

  pub at-any : (t : A → Bool) (xs : List A) (i : ℕ) (d : A) → i < length xs → t (get_or xs i d) ≡ true → any t xs ≡ true
  at-any t [] i d h e = absurd (omega arith)
  at-any t (x ∷ xs) zero d h e = or_l _ _ e
  at-any t (x ∷ xs) (suc i) d h e = or_r _ _ (at-any t xs i d (omega arith) e)

  pub mem-split : {y : A} {xs : List A} → Memᴰ y xs → (ps : List A) × (qs : List A) × (xs ≡ ps ++ y ∷ qs)
  mem-split (Memᴰ.head {x = x} {xs = ys} p) = ([], ys, ap (λ a. a ∷ ys) (sym p))
  mem-split (Memᴰ.tail {x = x} {xs = ys} m) = let w = mem-split m in (x ∷ w.0, w.1, ap (λ l. x ∷ l) w.2)

  pub every_by_at : (t : A → Bool) (xs : List A) (d : A) → ((i : ℕ) → i < length xs → t (get_or xs i d) ≡ true) → every t xs ≡ true
  every_by_at t [] d f = refl
  every_by_at t (x ∷ xs) d f = and_i _ _ (f 0 (omega arith)) (every_by_at t xs d (λ i h. f (suc i) (omega arith)))

  pub every_by_mem : (t : A → Bool) (xs : List A) → ((x : A) → Memᴰ x xs → t x ≡ true) → every t xs ≡ true
  every_by_mem t [] f = refl
  every_by_mem t (x ∷ xs) f = and_i _ _ (f x (Memᴰ.head refl)) (every_by_mem t xs (λ y m. f y (Memᴰ.tail m)))

  -- where a test fails
  pub every-not-at : (t : A → Bool) (xs : List A) (d : A) → every t xs ≡ false → (i : ℕ) × (i < length xs) × (t (get_or xs i d) ≡ false)
  every-not-at t [] d e = absurd (true≢false e)
  every-not-at t (x ∷ xs) d e = go (t x) refl (every-not-at t xs d)
    where
      go : (b : Bool) → t x ≡ b → (every t xs ≡ false → (i : ℕ) × (i < length xs) × (t (get_or xs i d) ≡ false))
          → (i : ℕ) × (i < suc (length xs)) × (t (get_or (x ∷ xs) i d) ≡ false)
      go false q f = (0, omega arith, q)
      go true q f = let w = f (sym (and_true _ _ q) ∙ e) in (suc w.0, omega (arith, w.1), w.2)

  pub every-not-mem : (t : A → Bool) (xs : List A) → every t xs ≡ false → (y : A) × Memᴰ y xs × (t y ≡ false)
  every-not-mem t [] e = absurd (true≢false e)
  every-not-mem t (x ∷ xs) e = go (t x) refl (every-not-mem t xs)
    where
      go : (b : Bool) → t x ≡ b → (every t xs ≡ false → (y : A) × Memᴰ y xs × (t y ≡ false)) → (y : A) × Memᴰ y (x ∷ xs) × (t y ≡ false)
      go false q f = (x, Memᴰ.head refl, q)
      go true q f = let w = f (sym (and_true _ _ q) ∙ e) in (w.0, Memᴰ.tail w.1, w.2)

  pub keep_all : (t : A → Bool) (xs : List A) → All (λ x. t x ≡ true) (keep t xs)
  keep_all t [] = nil
  keep_all t (x ∷ xs) = go (t x) refl (keep_all t xs)
    where
      go : (b : Bool) → t x ≡ b → All (λ x. t x ≡ true) (keep t xs) → All (λ x. t x ≡ true) (cond b (x ∷ keep t xs) (keep t xs))
      go true e a = cons e a
      go false e a = a

  pub keep_imp : (t : A → Bool) {Q : A → Type 0} (xs : List A) → All Q xs → All Q (keep t xs)
  keep_imp t [] q = nil
  keep_imp t {Q} (x ∷ xs) q = go (t x) (keep_imp t xs (all_tail q))
    where
      go : (b : Bool) → All Q (keep t xs) → All Q (cond b (x ∷ keep t xs) (keep t xs))
      go true a = cons (all_head q) a
      go false a = a

  pub gather_append : {B : Type 0} (f : A → List B) (xs ys : List A) → gather f (xs ++ ys) ≡ gather f xs ++ gather f ys
  gather_append f [] ys = refl
  gather_append f (x ∷ xs) ys = ap (λ zs. f x ++ zs) (gather_append f xs ys) ∙ sym (append_assoc (f x) (gather f xs) (gather f ys))

  pub gather_cong : {B : Type 0} (f g : A → List B) (xs : List A) → ((x : A) → Memᴰ x xs → f x ≡ g x) → gather f xs ≡ gather g xs
  gather_cong f g [] h = refl
  gather_cong f g (x ∷ xs) h = ap₂ (λ ys zs. ys ++ zs) (h x (Memᴰ.head refl)) (gather_cong f g xs λ y m. h y (Memᴰ.tail m))

  pub gather-map : {B C : Type 0} (f : B → List C) (g : A → B) (xs : List A) → gather f (map g xs) ≡ gather (λ x. f (g x)) xs
  gather-map f g [] = refl
  gather-map f g (x ∷ xs) = ap (λ zs. f (g x) ++ zs) (gather-map f g xs)

  -- one length for each element
  pub gather-length : {B : Type 0} (f : A → List B) (k : ℕ) (xs : List A) → All (λ x. length (f x) ≡ k) xs → length (gather f xs) ≡ k * length xs
  gather-length f k [] h = omega arith
  gather-length f k (x ∷ xs) h = omega (arith, length-append (f x) (gather f xs), all_head h, gather-length f k xs (all_tail h))

  pub mem-keep : (t : A → Bool) {y : A} (xs : List A) → Memᴰ y xs → t y ≡ true → Memᴰ y (keep t xs)
  mem-keep t {y} xs (Memᴰ.head {x = x} {xs = ys} p) e = let e' : t x ≡ true = rw p at e in rw e' (Memᴰ.head p)
  mem-keep t {y} xs (Memᴰ.tail {x = x} {xs = ys} m) e = go (t x) (mem-keep t ys m e)
    where
      go : (b : Bool) → Memᴰ y (keep t ys) → Memᴰ y (cond b (x ∷ keep t ys) (keep t ys))
      go true a = Memᴰ.tail a
      go false a = a

pub all-gather : {A B : Type 0} {Q : B → Type 0} (f : A → List B) {xs : List A} → All (λ x. All Q (f x)) xs → All Q (gather f xs)
all-gather f nil = nil
all-gather f (cons h a) = all_append h (all-gather f a)

-- ---- counting up

pub length_up : (k n : ℕ) → length (up_from k n) ≡ n
length_up k zero = refl
length_up k (suc n) = ap suc (length_up (suc k) n)

pub mem_up : (k n m : ℕ) → k ≤ m → m < k + n → Memᴰ m (up_from k n)
mem_up k zero m h h' = absurd (omega arith)
mem_up k (suc n) m h h' = go (dec_le m k) (mem_up (suc k) n m)
  where
    go : Dec (m ≤ k) → (suc k ≤ m → m < suc k + n → Memᴰ m (up_from (suc k) n)) → Memᴰ m (up_from k (suc n))
    go (yes a) f = Memᴰ.head {x = k} (omega arith)
    go (no a) f = Memᴰ.tail (f (omega arith) (omega arith))

pub up_mem : (k n : ℕ) → All (λ m. (k ≤ m) × (m < k + n)) (up_from k n)
up_mem k zero = nil
up_mem k (suc n) = cons {x = k} (omega arith) (all_imp (λ m h. omega (arith, h)) (up_mem (suc k) n))

pub get_d_up : {B : Type 0} (f : ℕ → B) (d : B) (k n i m : ℕ) → m ≡ k + i → i < n → get_or (map f (up_from k n)) i d ≡ f m
get_d_up f d k zero i m e h = absurd (omega arith)
get_d_up f d k (suc n) zero m e h = ap f (let z : k ≡ m = omega arith in z)
get_d_up f d k (suc n) (suc i) m e h = get_d_up f d (suc k) n i m (omega arith) (omega arith)

-- the first that is kept of numbers that count up
pub keep-first : (t : ℕ → Bool) (k n m : ℕ) (ms : List ℕ) → keep t (up_from k n) ≡ m ∷ ms
    → (t m ≡ true) × ((i : ℕ) → k ≤ i → i < m → t i ≡ false)
keep-first t k zero m ms e = absurd (nil≢cons e)
keep-first t k (suc n) m ms e = go (t k) refl (keep-first t (suc k) n m ms)
  where
    go : (b : Bool) → t k ≡ b → (keep t (up_from (suc k) n) ≡ m ∷ ms → (t m ≡ true) × ((i : ℕ) → suc k ≤ i → i < m → t i ≡ false))
        → (t m ≡ true) × ((i : ℕ) → k ≤ i → i < m → t i ≡ false)
    go true q f =
        let h : k ≡ m = head-eq_of_cons-eq (rw q at e) in
        (rw (← h) q, λ i a b. absurd (omega arith))
    go false q f =
        let w = f (rw q at e) in
        (w.0, λ i a b. by_cases (dec_le i k) (λ c. let h : i ≡ k = omega arith in rw h q) (λ c. w.1 i (omega arith) b))
