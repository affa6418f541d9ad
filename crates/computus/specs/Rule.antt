-- The date of Easter, as Français gives it (Annales de Mathématiques 4, 1813-1814, pages 274-275, problem I), with his letters, and the
-- answer of docs/RULES.md for every calendar number and year.
use Rattle.std.specs.Prelude.{ℕ, ◌+◌, ◌-◌, ◌*◌, ◌/◌, ◌%◌, Bool, cond, ◌&&◌, eqb, ltb, leb, ℤ, pos, negsuc}

-- an answer number with a month and a day, which are 0 in a refusal
pub record EasterAnswer : Type 0 where
  pub number : ℕ
  pub month : ℕ
  pub day : ℕ

abbrev pub refused : ℕ → EasterAnswer
refused k = record { number = k; month = 0; day = 0 }

abbrev pub march : ℕ → EasterAnswer
march k = record { number = 0; month = 3; day = k }

abbrev pub april : ℕ → EasterAnswer
april k = record { number = 0; month = 4; day = k }

-- ---- the constants. In the Julian calendar m = 15, n = 6.

abbrev pub julian_m : ℕ
julian_m = 15

abbrev pub julian_n : ℕ
julian_n = 6

-- In the Gregorian, with s the century of year A: r the quotient of s - 17 by 25 (`-` stops at 0, so r is 0 where s is below 17),
-- p of s - r by 3, q of s by 4; m the remainder of 15 + s - p - q by 30, n of 4 + s - q by 7
abbrev pub century : ℕ → ℕ
century A = A / 100

abbrev pub quotient_r : ℕ → ℕ
quotient_r s = (s - 17) / 25

abbrev pub quotient_p : ℕ → ℕ
quotient_p s = (s - quotient_r s) / 3

abbrev pub quotient_q : ℕ → ℕ
quotient_q s = s / 4

abbrev pub gregorian_m : ℕ → ℕ
gregorian_m A = (15 + century A - quotient_p (century A) - quotient_q (century A)) % 30

abbrev pub gregorian_n : ℕ → ℕ
gregorian_n A = (4 + century A - quotient_q (century A)) % 7

-- ---- the date, for both calendars: a, b, c the remainders of the year by 19, 4, 7; d of 19a + m by 30, e of 2b + 4c + 6d + n by 7

abbrev pub remainder_d : ℕ → ℕ → ℕ
remainder_d m A = (19 * (A % 19) + m) % 30

abbrev pub remainder_e : ℕ → ℕ → ℕ → ℕ
remainder_e n A d = (2 * (A % 4) + 4 * (A % 7) + 6 * d + n) % 7

-- Exception I: d = 29, e = 6
abbrev pub exception_i : ℕ → ℕ → Bool
exception_i d e = eqb d 29 && eqb e 6

-- Exception II: d = 28, e = 6, and 11m + 11 leaves a remainder by 30 smaller than 19
abbrev pub exception_ii : ℕ → ℕ → ℕ → Bool
exception_ii m d e = eqb d 28 && (eqb e 6 && ltb ((11 * m + 11) % 30) 19)

-- the (22 + d + e) of March, or the (d + e - 9) of April
abbrev pub ordinary : ℕ → ℕ → EasterAnswer
ordinary d e = cond (leb (22 + d + e) 31) (march (22 + d + e)) (april (d + e - 9))

-- in exception I the 19 of April for the 26, in exception II the 18 of April for the 25
unfoldable pub dated : ℕ → ℕ → ℕ → EasterAnswer
dated m d e = cond (exception_i d e) (april 19) (cond (exception_ii m d e) (april 18) (ordinary d e))

abbrev pub easter_of : ℕ → ℕ → ℕ → EasterAnswer
easter_of m n A = dated m (remainder_d m A) (remainder_e n A (remainder_d m A))

-- ---- the two calendars

abbrev pub julian_easter : ℕ → EasterAnswer
julian_easter A = easter_of julian_m julian_n A

abbrev pub gregorian_easter : ℕ → EasterAnswer
gregorian_easter A = easter_of (gregorian_m A) (gregorian_n A) A

-- a rule asked for a year from `first` to 9,999; any other year is refused 2
unfoldable pub in_years : ℕ → (ℕ → EasterAnswer) → ℤ → EasterAnswer
in_years first rule (pos A) = cond (leb first A && leb A 9999) (rule A) (refused 2)
in_years first rule (negsuc k) = refused 2

-- docs/RULES.md, "Easter": calendar 10, years 1 to 9,999; calendar 11, years 1,583 to 9,999; any other calendar is refused 1
unfoldable pub easter_answer : ℕ → ℤ → EasterAnswer
easter_answer calendar year =
    cond (eqb calendar 10) (in_years 1 julian_easter year)
    (cond (eqb calendar 11) (in_years 1583 gregorian_easter year) (refused 1))
