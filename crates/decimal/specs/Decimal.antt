-- Decimal numbers as text: the number that some bytes are, and the bytes that write a number.
use Rattle.std.specs.Prelude.{List, [], ◌∷◌, ◌++◌, Bool, true, cond, ◌&&◌, ℕ, zero, suc, ◌+◌, ◌-◌, ◌*◌, ◌/◌, ◌%◌, ◌^◌}
use Rattle.std.specs.Prelude.{min, leb, ltb, eqb, ℤ, pos, negsuc, neg_ℤ}
use Rattle.decimal.specs.declared.Number.{Number}
use Rattle.decimal.specs.declared.Number.TheVariants.{Empty, Sign, Natural, Negative, Other}

-- ---- reading

-- `0` to `9`
abbrev pub is_digit : ℕ → Bool
is_digit b = leb 48 b && leb b 57

unfoldable pub all_digits : List ℕ → Bool
all_digits [] = true
all_digits (b ∷ s) = is_digit b && all_digits s

-- the number that digits write after the digits of n, high digit first
unfoldable pub value_from : ℕ → List ℕ → ℕ
value_from n [] = n
value_from n (b ∷ s) = value_from (n * 10 + (b - 48)) s

abbrev pub value : List ℕ → ℕ
value s = value_from 0 s

-- a number, or the largest of 64 bits where it is larger
abbrev pub capped : ℕ → ℕ
capped n = min n (2 ^ 64 - 1)

-- what stands behind a minus sign
unfoldable pub behind_minus : List ℕ → Number
behind_minus [] = Sign
behind_minus (b ∷ s) = cond (all_digits (b ∷ s)) (Negative (capped (value (b ∷ s)))) Other

-- what bytes are: nothing, a minus sign (45) and what stands behind it, or digits
unfoldable pub number_of : List ℕ → Number
number_of [] = Empty
number_of (b ∷ s) = cond (eqb b 45) (behind_minus s) (cond (all_digits (b ∷ s)) (Natural (capped (value (b ∷ s)))) Other)

-- ---- reading byte by byte

-- what bytes are with a digit more
abbrev pub with_digit : Number → ℕ → Number
with_digit Empty digit = Natural digit
with_digit Sign digit = Negative digit
with_digit (Natural n) digit = Natural (capped (n * 10 + digit))
with_digit (Negative n) digit = Negative (capped (n * 10 + digit))
with_digit Other digit = Other

-- and with a minus sign more, which stands in front of a number alone
abbrev pub with_minus : Number → Number
with_minus Empty = Sign
with_minus Sign = Other
with_minus (Natural n) = Other
with_minus (Negative n) = Other
with_minus Other = Other

-- what bytes are with one more
unfoldable pub pushed : Number → ℕ → Number
pushed number b = cond (eqb b 45) (with_minus number) (cond (is_digit b) (with_digit number (b - 48)) Other)

-- ---- the whole number

-- the number from -2^63 to 2^63 - 1 that is nearest (negsuc n is -1 - n)
abbrev pub clamp : ℤ → ℤ
clamp (pos n) = pos (min n (2 ^ 63 - 1))
clamp (negsuc n) = negsuc (min n (2 ^ 63 - 1))

abbrev pub integer_of : Number → ℤ
integer_of Empty = pos 0
integer_of Sign = pos 0
integer_of (Natural n) = pos n
integer_of (Negative n) = neg_ℤ (pos n)
integer_of Other = pos 0

-- ---- writing

-- the decimal digits of a number that has at most `most` of them: as few as it takes, high digit first
unfoldable pub digits_in : ℕ → ℕ → List ℕ
digits_in zero n = []
digits_in (suc most) n = cond (ltb n 10) ((48 + n) ∷ []) (digits_in most (n / 10) ++ (48 + n % 10) ∷ [])

-- a number of 64 bits has at most 20
abbrev pub text : ℕ → List ℕ
text n = digits_in 20 n

-- with a minus sign before a negative number
abbrev pub signed_text : ℤ → List ℕ
signed_text (pos n) = text n
signed_text (negsuc n) = 45 ∷ text (suc n)
