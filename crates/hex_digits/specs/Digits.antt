-- Lowercase hexadecimal digits, the number that some of them write, and the digits that write a number (docs/RULES.md, "Sheets").
use Rattle.std.specs.Prelude.{List, [], ◌∷◌, ◌++◌, Bool, true, cond, ◌&&◌, ℕ, zero, suc, ◌+◌, ◌-◌, ◌*◌, ◌/◌, ◌%◌, leb, ltb, eqb, length, take, drop}

-- ---- reading

-- the value of a lowercase hexadecimal digit, 0 to 15; 255 where the byte is none
unfoldable pub digit_of : ℕ → ℕ
digit_of b = cond (leb 48 b && leb b 57) (b - 48) (cond (leb 97 b && leb b 102) (b - 87) 255)

abbrev pub is_digit : ℕ → Bool
is_digit b = ltb (digit_of b) 16

unfoldable pub all_digits : List ℕ → Bool
all_digits [] = true
all_digits (b ∷ s) = is_digit b && all_digits s

-- exactly 16 digits
unfoldable pub sixteen_digits : List ℕ → Bool
sixteen_digits line = eqb (length line) 16 && all_digits line

-- the number that digits write after the digits of n, high digit first
unfoldable pub number_from : ℕ → List ℕ → ℕ
number_from n [] = n
number_from n (b ∷ s) = number_from (n * 16 + digit_of b) s

abbrev pub number_in : List ℕ → ℕ
number_in s = number_from 0 s

-- the number that `count` digits write from the place `at` on
unfoldable pub field : List ℕ → ℕ → ℕ → ℕ
field line at count = number_in (take count (drop at line))

-- ---- writing

-- the lowercase hexadecimal digit of a number below 16, as a byte
abbrev pub hex_byte : ℕ → ℕ
hex_byte n = cond (ltb n 10) (48 + n) (87 + n)

-- the lowest `count` digits of a number, high digit first
unfoldable pub written_in : ℕ → ℕ → List ℕ
written_in zero n = []
written_in (suc count) n = written_in count (n / 16) ++ hex_byte (n % 16) ∷ []
