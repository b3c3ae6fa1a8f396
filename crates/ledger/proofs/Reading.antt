-- Values read one after the other. Assumes nothing.
use mathlib.Core.Path.{◌≡◌, refl, sym, ap, ap₂, ◌∙◌}
use Prim.Native.Nat.{ℕ, zero, suc, ◌+◌, ◌-◌, ◌≤◌, ◌<◌}
use native.Mathlib.Omega.{arith}
use native.Mathlib.Numerals.{add-one}
use mathlib.Core.Option.{Option, none}
use mathlib.Core.Option.{some as the}
use mathlib.Core.List.{List, [], ◌∷◌, ◌++◌, map, append-nil, append_assoc}
use lib.ListN.{length, get_or, take, set, length-map}
use lib.Seq.{take-suc-set, take_all, take_at}
use lib.Dec.{eqb}
use Rattle.std.proofs.lemmas.List.{map-append}
use Rattle.fields.proofs.Laws.{number-max}
use Rattle.fields.proofs.Ranges.{when_read-cases, cond_cases}
use Rattle.fields.specs.Field.{spelled, number_at, word_at}
use Rattle.requests.specs.Part.{most_value, value_at}
use Rattle.requests.specs.Commitment.{Commitment}
use Rattle.requests.specs.Commitment as commitment
use Rattle.requests.specs.Commitment.{committed as read}
use Rattle.duties.specs.Duties.{committed, meant, handed}
use Rattle.std.specs.Prelude as code
use Rattle.ledger.specs.Values.{value_of, behind, values_of, Read}

-- ---- one value

module _ (s : List ℕ) (at : ℕ) where
  value-most : (v e : ℕ) → value_at s at ≡ commitment.Number v e → v ≤ most_value
  unfolding value_at
  value-most v e =
      when_read-cases (λ c. c ≡ commitment.Number v e → v ≤ most_value) commitment.Bad (word_at s at) _ (λ m p h. let z : ◌≡◌ {A = ℕ} 0 1 = cc in absurd (omega arith)) λ w f g.
      cond_cases (λ c. c ≡ commitment.Number v e → v ≤ most_value) (eqb w (spelled "x")) (commitment.Ill f) _ (λ b h. let z : ◌≡◌ {A = ℕ} 0 1 = cc in absurd (omega arith)) λ b.
      when_read-cases (λ c. c ≡ commitment.Number v e → v ≤ most_value) commitment.Bad (number_at s at most_value) commitment.Number (λ m p h. let z : ◌≡◌ {A = ℕ} 0 1 = cc in absurd (omega arith)) λ u q i h.
      let j : u ≡ v = cc in omega (arith, number-max s at most_value u q i)

  -- what `filled_more` asks of a value, none for `x`, and of a refusal; the code's own proof finds both alone, so they stand for callers
  pub read-value : (v : code.Option ℕ) (e : ℕ) → read v e ≡ value_at s at → Read s at (v, e)
  unfolding value_of behind
  read-value code.None e h = record { is = ap value_of h; next = ap behind h }
  read-value (code.Some v) e h = record { is = ap value_of h; next = ap behind h }

  pub read-bad : (n p : ℕ) → commitment.Bad n p ≡ value_at s at → Read s at (code.None, p)
  unfolding value_of behind
  read-bad n p h = record { is = ap value_of h; next = ap behind h }

-- ---- all

-- one of n values more is in the buffer, and the others start behind it
pub filled_more : (s : List ℕ) (n : ℕ) (u : List (code.Option ℕ)) (at i : ℕ) (v : code.Option ℕ) (next : ℕ) → i < n → i < length u → Read s at (v, next)
    → map meant (take (i + 1) (set u i v)) ++ values_of s next (n - (i + 1)) ≡ map meant (take i u) ++ values_of s at (n - i)
unfolding values_of
filled_more s n u at i v next h l d =
    let k : n - i ≡ suc (n - (i + 1)) = omega arith in
    let vs = values_of s next (n - (i + 1)) in
    ap (λ zs. map meant zs ++ vs) (ap (λ m. take m (set u i v)) (add-one i) ∙ take-suc-set u i v l)
    ∙ ap (λ zs. zs ++ vs) (map-append meant (take i u) (v ∷ [])) ∙ append_assoc (map meant (take i u)) (meant v ∷ []) vs
    ∙ ap₂ (λ m q. map meant (take i u) ++ (m ∷ values_of s q (n - (i + 1)))) d.is d.next
    ∙ ap (λ m. map meant (take i u) ++ values_of s at m) (sym k)

-- all are
pub filled_all : (s : List ℕ) (n : ℕ) (u : List (code.Option ℕ)) (at i : ℕ) → i ≡ n → length u ≡ n → map meant u ≡ map meant (take i u) ++ values_of s at (n - i)
unfolding values_of
filled_all s n u at i e l =
    let none_left : n - i ≡ 0 = omega arith in
    ap (map meant) (sym (take_all i u (omega arith))) ∙ sym (append-nil (map meant (take i u))) ∙ ap (λ m. map meant (take i u) ++ values_of s at m) (sym none_left)

-- ---- for a caller

values-count : (s : List ℕ) (at n : ℕ) → length (values_of s at n) ≡ n
unfolding values_of
values-count s at zero = refl
values-count s at (suc n) = ap suc (values-count s (behind (value_at s at)) n)

pub values-long : (s : List ℕ) (at n : ℕ) (u : List (code.Option ℕ)) → map meant u ≡ values_of s at n → length u ≡ n
values-long s at n u e = sym (length-map u meant) ∙ ap (λ xs. length xs) e ∙ values-count s at n

-- they are the first of a longer buffer
pub first-values : (s : List ℕ) (at n : ℕ) {m : ℕ} (u : List (code.Option ℕ)) (more : List (code.Option ℕ)) → map meant u ≡ values_of s at m → m ≡ n → map meant (take n (u ++ more)) ≡ values_of s at n
first-values s at n {m} u more e q = ap (map meant) (take_at u more n (values-long s at m u e ∙ q)) ∙ e ∙ ap (values_of s at) q

handed-means : (xs : List (code.Option ℕ)) → committed (map handed xs) ≡ map meant xs
handed-means [] = refl
handed-means (code.None ∷ xs) = ap (λ ys. none ∷ ys) (handed-means xs)
handed-means (code.Some v ∷ xs) = ap (λ ys. the v ∷ ys) (handed-means xs)

-- The numbers mean the values that were read
pub values-are : (s : List ℕ) (at n : ℕ) (u : List (code.Option ℕ)) → map meant u ≡ values_of s at n → committed (map handed u) ≡ values_of s at n
values-are s at n u e = handed-means u ∙ e

-- ---- and are small

coded : Option ℕ → ℕ
coded none = 0
coded (the v) = suc v

coded-meant : (xs : List (code.Option ℕ)) → map handed xs ≡ map coded (map meant xs)
unfolding coded
coded-meant [] = refl
coded-meant (code.None ∷ xs) = ap (λ ys. 0 ∷ ys) (coded-meant xs)
coded-meant (code.Some v ∷ xs) = ap (λ ys. suc v ∷ ys) (coded-meant xs)

coded-small : (s : List ℕ) (at : ℕ) (c : Commitment) → value_at s at ≡ c → coded (value_of c) ≤ suc most_value
unfolding coded value_of
coded-small s at (commitment.Number v e) h = omega (arith, value-most s at v e h)
coded-small s at (commitment.Ill e) h = omega arith
coded-small s at (commitment.Bad n p) h = omega arith

coded-most : (s : List ℕ) (at n j : ℕ) → get_or (map coded (values_of s at n)) j 0 ≤ suc most_value
unfolding values_of
coded-most s at zero j = omega arith
coded-most s at (suc n) zero = coded-small s at (value_at s at) refl
coded-most s at (suc n) (suc j) = coded-most s (behind (value_at s at)) n j

pub values-most : (s : List ℕ) (at n : ℕ) (u : List (code.Option ℕ)) → map meant u ≡ values_of s at n → (j : ℕ) → get_or (map handed u) j 0 ≤ suc most_value
values-most s at n u e j = rw (coded-meant u, e) (coded-most s at n j)
