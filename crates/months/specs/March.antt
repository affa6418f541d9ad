-- For code: years counted from March, where the leap day is the last. Nobody has to believe this page.
use Rattle.std.specs.Prelude.{◌≡◌, Bool, cond, List, [], ◌∷◌, ℕ, suc, ◌+◌, ◌-◌, ◌*◌, ◌/◌, ◌%◌, ◌^◌, ◌≤◌, ◌<◌, eqb, ltb, ℤ}
use Rattle.counting.specs.Years.{year_at}
use Rattle.counting.specs.Answers.{Calendar, years}
use Rattle.calendar_rules.specs.Calendars.{◌or◌}
use Rattle.months.specs.Lines.{turned_by}
use Rattle.months.specs.Leap.{years_by}
use Rattle.months.specs.Turned.{DateIn}

-- the Julian months from March; February is the last
abbrev pub from_march : Bool → List ℕ
from_march leap = 31 ∷ 30 ∷ 31 ∷ 30 ∷ 31 ∷ 31 ∷ 30 ∷ 31 ∷ 30 ∷ 31 ∷ 31 ∷ (28 or 29) leap ∷ []

-- the length of a month, counted from March and from 0
abbrev pub month_length : Bool → ℕ → ℕ
month_length leap q = cond (eqb q 11) (cond leap 29 28) (30 + 1717 / 2 ^ q % 2)

-- counted from March of -4800: the February that ends year z is that of year z + 1
unfoldable pub julian_long : ℕ → Bool
julian_long z = eqb (z % 4) 3

-- the years from March, given which end in a long February; and from year z on
abbrev pub march_years : (ℕ → Bool) → ℕ → List ℕ
march_years long = years_by from_march long

-- the days before year z from March of -4800
abbrev pub julian_start : ℕ → ℕ
julian_start z = 365 * z + z / 4

-- the Julian calendar whose years begin k months after March, the first in year z; and its first day
abbrev pub julian_years : ℕ → ℕ → ℕ → List ℕ
julian_years z k = turned_by k (λ i. march_years julian_long (z + i))

abbrev pub julian_first : ℕ → ℕ → ℕ
julian_first z k = julian_start z + (153 * k + 2) / 5 - 32082

-- the line: the days before a month, and the month of a day of the year
abbrev pub march_before : ℕ → ℕ
march_before q = (153 * q + 2) / 5

abbrev pub march_of : ℕ → ℕ
march_of rest = (5 * rest + 2) / 153

-- the date of day rest of year z, where a year begins at position turn, and before is the year of the dates before that in z = 0
abbrev pub MarchDate : ℤ → ℕ → ℕ → ℕ → ℤ → ℕ → ℕ → Type 0
MarchDate before turn z rest y m d = DateIn 12 march_before march_of before turn z rest y m d

-- the same from q, the days from March of -4800 with every fourth year leap
abbrev pub JulianDate : ℤ → ℕ → ℕ → ℤ → ℕ → ℕ → Type 0
JulianDate before turn q y m d = MarchDate before turn ((4 * q + 3) / 1461) ((4 * q + 3) % 1461 / 4) y m d

-- a year that begins k months after March has its position p in the year from March that it begins in, or in the next
abbrev pub next_march : ℕ → ℕ → ℕ
next_march k p = cond (ltb (p + k) 12) 0 1

-- K is the calendar with every fourth year leap whose years begin k months after March, the first in year z, on day first; before is the year of the dates before
-- that in year 0
pub record OfJulianKind (K : Calendar) (z k : ℕ) (before : ℤ) (first : ℕ) : Type 0 where
  pub small : k < 12
  pub room : 32082 ≤ julian_start z + (153 * k + 2) / 5
  pub years_are : julian_years z k ≡ years K
  pub first_year : year_at before (suc z) ≡ K.first_year
  pub first_day : first ≡ K.first_day
  pub counted : julian_first z k ≡ K.first_day
