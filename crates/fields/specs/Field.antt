-- Fields of a request, as document 01 has them. A position is an index of the request's bytes.
use Rattle.std.specs.Prelude.{ℕ, suc, ◌+◌, ◌-◌, ◌*◌, List, [], ◌∷◌, Bool, true, cond, ◌&&◌, ◌||◌, length, get_or, take, drop, ltb, leb, eqb}
use Prim.Native.Char.{code}
use Prim.Native.String.{String, [] as ended, ◌∷◌ as ◌then◌}

-- a value and the position after its field; or a refusal's number and the position before its field
pub data Got : Type 0 where
  Value : ℕ → ℕ → Got
  Bad : ℕ → ℕ → Got

abbrev pub comma : ℕ
comma = code ","

abbrev pub lf : ℕ
lf = code "\n"

abbrev pub zero_digit : ℕ
zero_digit = code "0"

abbrev pub nine_digit : ℕ
nine_digit = code "9"

-- ---- a field

-- "Lines end with LF. Fields stand in a fixed order, parted by commas, no quoting."
abbrev pub is_sep : ℕ → Bool
is_sep b = eqb b comma || eqb b lf

-- how many bytes stand before the first comma or LF
unfoldable pub field_len : List ℕ → ℕ
field_len [] = 0
field_len (b ∷ r) = cond (is_sep b) 0 (suc (field_len r))

-- the text of the field that starts at p
unfoldable pub text_at : List ℕ → ℕ → List ℕ
text_at s p = take (field_len (drop p s)) (drop p s)

-- the position after the field that starts at p
unfoldable pub end_at : List ℕ → ℕ → ℕ
end_at s p = p + field_len (drop p s)

-- "A missing field, or a missing final LF": 2 where no comma stands, before the field that is due
abbrev pub after_comma : List ℕ → ℕ → Got → Got
after_comma s at g = cond (ltb at (length s) && eqb (get_or s at 0) comma) g (Bad 2 at)

-- ---- a number

abbrev pub is_digit : ℕ → Bool
is_digit b = leb zero_digit b && leb b nine_digit

unfoldable pub all_digits : List ℕ → Bool
all_digits [] = true
all_digits (b ∷ r) = is_digit b && all_digits r

-- the digits read on from v
unfoldable pub digits_on : ℕ → List ℕ → ℕ
digits_on v [] = v
digits_on v (b ∷ r) = digits_on (v * 10 + (b - zero_digit)) r

-- a number, or text that is none
pub data Num : Type 0 where
  Is : ℕ → Num
  Not : Num

unfoldable pub digits_of : List ℕ → Num
digits_of t = cond (all_digits t) (Is (digits_on 0 t)) Not

-- "A number is decimal, 1 to 19 digits, no sign, no leading zero (0 itself is `0`)."
unfoldable pub number_of : List ℕ → Num
number_of t =
    cond (eqb (length t) 0) Not
    (cond (ltb 19 (length t)) Not
    (cond (eqb (get_or t 0 0) zero_digit) (cond (eqb (length t) 1) (Is 0) Not)
    (digits_of t)))

-- 3, "not the word or number due", before 4, "beyond its range"
abbrev pub up_to : ℕ → ℕ → ℕ → Num → Got
up_to max p e (Is v) = cond (leb v max) (Value v e) (Bad 4 p)
up_to max p e Not = Bad 3 p

-- 3 alone
abbrev pub any_size : ℕ → ℕ → Num → Got
any_size p e (Is v) = Value v e
any_size p e Not = Bad 3 p

-- the field after a comma at `at`, as a number of any size
unfoldable pub any_at : List ℕ → ℕ → Got
any_at s at = after_comma s at (any_size at (end_at s (at + 1)) (number_of (text_at s (at + 1))))

-- the field after a comma at `at`, as a number up to max
unfoldable pub number_at : List ℕ → ℕ → ℕ → Got
number_at s at max = after_comma s at (up_to max at (end_at s (at + 1)) (number_of (text_at s (at + 1))))

-- ---- a word

-- a text as a number in base 256, read on from v
unfoldable pub packed : ℕ → List ℕ → ℕ
packed v [] = v
packed v (b ∷ r) = packed (v * 256 + b) r

-- a word's number; a text of more than 7 letters is no word of document 01, nor is one that starts with a zero byte, and these get 0
unfoldable pub packed_of : List ℕ → ℕ
packed_of t =
    cond (eqb (length t) 0) 0
    (cond (ltb 7 (length t)) 0
    (cond (eqb (get_or t 0 0) 0) 0
    (packed 0 t)))

abbrev pub spelled_on : ℕ → String → ℕ
spelled_on v ended = v
spelled_on v (c then t) = spelled_on (v * 256 + code c) t

-- the number of a word that document 01 names
abbrev pub spelled : String → ℕ
spelled t = spelled_on 0 t

-- the word that starts at p
unfoldable pub word_from : List ℕ → ℕ → Got
word_from s p = Value (packed_of (text_at s p)) (end_at s p)

-- the field after a comma at `at`, as a word
unfoldable pub word_at : List ℕ → ℕ → Got
word_at s at = after_comma s at (word_from s (at + 1))

-- ---- a line

-- a line's first field, with no comma before it; "a missing line [is] at field 1"
unfoldable pub first_at : List ℕ → ℕ → Got
first_at s at = cond (ltb at (length s)) (word_from s at) (Bad 2 at)

-- "Lines end with LF": the position after it. 2 where the final LF is missing, 9 where a field follows
unfoldable pub line_end_at : List ℕ → ℕ → Got
line_end_at s at = cond (ltb at (length s)) (cond (eqb (get_or s at 0) lf) (Value 0 (at + 1)) (Bad 9 at)) (Bad 2 at)

-- ---- one field after the other

-- goes on with what was read and the position after it; a refusal is told by `bad`
unfoldable pub when_read : {A : Type 0} → (ℕ → ℕ → A) → Got → (ℕ → ℕ → A) → A
when_read bad (Value v e) go = go v e
when_read bad (Bad n p) go = bad n p

-- the largest number of 19 digits
abbrev pub any_number : ℕ
any_number = 9_999_999_999_999_999_999

-- "Numbers of participants, definitions, secrets, nodes and branches count from 0": the number of one of n; 6 where there is none
unfoldable pub below_at : List ℕ → ℕ → ℕ → Got
below_at s at n = when_read Bad (number_at s at any_number) λ v e. cond (ltb v n) (Value v e) (Bad 6 at)

-- "count, amount, rank or event field beyond its range": 4 below the range too
unfoldable pub between_at : List ℕ → ℕ → ℕ → ℕ → Got
between_at s at low high = when_read Bad (number_at s at high) λ v e. cond (ltb v low) (Bad 4 at) (Value v e)
