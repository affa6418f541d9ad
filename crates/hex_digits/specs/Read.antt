-- What reading answers.
use Rattle.std.specs.Prelude.{List, Option, Some, None, cond, ℕ}
use Rattle.hex_digits.specs.Digits.{sixteen_digits, number_in}

-- the number that a line of exactly 16 digits writes
unfoldable pub digits_of : List ℕ → Option ℕ
digits_of line = cond (sixteen_digits line) (Some (number_in line)) None
