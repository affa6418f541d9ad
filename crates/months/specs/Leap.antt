-- For code: leap years by the years from a calendar's first. Nobody has to believe this page; proofs/ shows that it is what the rows of the calendars say.
use Rattle.std.specs.Prelude.{ℕ, suc, ◌+◌, ◌-◌, ◌*◌, ◌/◌, ◌%◌, ◌<◌, ◌≡◌, List, [], ◌∷◌, Bool, true, false, cond, not, ◌&&◌, eqb, leb}
use Rattle.counting.specs.Calendar.{total}

-- the years by their positions, in a common and a leap year, and a test of the years from the first
unfoldable pub years_by : (Bool → List ℕ) → (ℕ → Bool) → ℕ → List ℕ
years_by positions leap i = positions (leap i)

-- common years have so many days, leap years one more
pub record Common (days : ℕ) (positions : Bool → List ℕ) : Type 0 where
  pub common : total (positions false) ≡ days
  pub leap : total (positions true) ≡ days + 1

-- one in four
abbrev pub fourth_leap : ℕ → ℕ → Bool
fourth_leap p i = eqb ((i + p) % 4) 3

-- what the first number divides, unless it is what the rest says in the same way: 4, unless 100, unless 400
unfoldable pub leap_by : List ℕ → ℕ → Bool
leap_by [] z = false
leap_by (m ∷ ms) z = eqb (z % m) 0 && not (leap_by ms z)

-- how many numbers below z those are
unfoldable pub leaps_below : List ℕ → ℕ → ℕ
leaps_below [] z = 0
leaps_below (m ∷ ms) z = (z + (m - 1)) / m - leaps_below ms z

abbrev pub centuries : List ℕ
centuries = 4 ∷ 100 ∷ 400 ∷ []

-- the days of z years of which those are leap
unfoldable pub days_below : List ℕ → ℕ → ℕ
days_below ms z = 365 * z + leaps_below ms z

-- ---- the Gregorian kind, counted from -4800, which is divisible by 400: the extra day of year z falls in the Gregorian year z + 1

unfoldable pub gregorian_long : ℕ → Bool
gregorian_long z = leap_by centuries (suc z)

-- the days before year z
abbrev pub gregorian_start : ℕ → ℕ
gregorian_start z = 365 * z + z / 4 - z / 100 + z / 100 / 4

-- n days on it is day rest of year z, both counted from 0
pub record GregorianDay (n z rest : ℕ) : Type 0 where
  pub here : gregorian_start z + rest ≡ n
  pub still : rest < 365 + cond (gregorian_long z) 1 0

-- ---- 11 in 30

abbrev pub islamic_leap_at : ℕ → Bool
islamic_leap_at i = leb 19 ((11 * i + 14) % 30)
