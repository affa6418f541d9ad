-- For code: a position of a year, and the date of a day, as they are found. Nobody has to believe this page.
use Rattle.std.specs.Prelude.{◌≡◌, cond, ◌||◌, List, eqb, ltb, ℕ, ◌+◌, ◌-◌, ◌≤◌, ◌<◌, ℤ, pos, get_or, take, Option, MatchOption}
use Rattle.counting.specs.Calendar.{total, start, date_at}
use Rattle.counting.specs.Years.{year_at}
use Rattle.counting.specs.Answers.{Calendar, years, last_day}
use Rattle.calendar_rules.specs.Calendars.{row, ◌strip_at◌, none, remainder, islamic_leap, thirties_and5, thirties_and5or6, in_turn}

-- in a calendar with the years L and the first day first: position p, counted from 0, of the year i years after the first. Its length, 0 where there is none,
-- and the day that it begins on
pub record MonthIs (L : ℕ → List ℕ) (first i p begin days : ℕ) : Type 0 where
  pub length_is : days ≡ get_or (L i) p 0
  pub begins : 1 ≤ days → begin ≡ first + start L i + total (take p (L i))

abbrev pub MonthOf : Calendar → ℕ → ℕ → ℕ → ℕ → Type 0
MonthOf K i p begin days = MonthIs (years K) K.first_day i p begin days

-- its length alone
abbrev pub length_at : Calendar → ℕ → ℕ → ℕ
length_at K i p = get_or (years K i) p 0

-- such a length as it is found: none where it is 0
abbrev pub IsLength : ℕ → Option ℕ → Type 0
IsLength n found = MatchOption found (n ≡ 0) (λ days. (1 ≤ days) × (days ≡ n))

-- that of position p of year i, in every year of a calendar, in year i of each calendar of a family, in every year of each
abbrev pub LengthAt : Calendar → ℕ → ℕ → Option ℕ → Type 0
LengthAt K i p found = IsLength (length_at K i p) found

abbrev pub LengthYearly : Calendar → ℕ → Option ℕ → Type 0
LengthYearly K p found = (i : ℕ) → LengthAt K i p found

abbrev pub LengthIn : (ℕ → Calendar) → ℕ → ℕ → Option ℕ → Type 0
LengthIn family i p found = (first : ℕ) → LengthAt (family first) i p found

abbrev pub LengthEver : (ℕ → Calendar) → ℕ → Option ℕ → Type 0
LengthEver family p found = (first : ℕ) → LengthYearly (family first) p found

-- the date that counting n days from the first reaches
pub record DateIs (L : ℕ → List ℕ) (first_year : ℤ) (n : ℕ) (y : ℤ) (m d : ℕ) : Type 0 where
  pub year : y ≡ year_at first_year (date_at L n).year
  pub month : m ≡ (date_at L n).month
  pub day : d ≡ (date_at L n).day

-- day d of a position that begins on day b and has l days, as one number: 4 and 5, which are tried, 2^32 high
abbrev pub packed_in : ℕ → ℕ → ℕ → ℕ
packed_in b l d = cond (eqb d 0 || ltb l d) 17179869184 (cond (ltb last_day (b + (d - 1))) 21474836480 (b + (d - 1)))

-- day d of position p of year i: 3 too, where the year has no such position
pub record PackedAt (K : Calendar) (i p d r : ℕ) : Type 0 where
  pub none : length_at K i p ≡ 0 → r ≡ 12884901888
  pub there : 1 ≤ length_at K i p → r ≡ packed_in (K.first_day + start (years K) i + total (take p (years K i))) (length_at K i p) d

-- ---- calendars that differ in the first day alone: 1 to 3, 5 to 7, 12 and 13

abbrev pub plain_from : ℕ → Calendar
plain_from first = row (pos 1) first thirties_and5 none strip_at 13

abbrev pub coptic_from : ℕ → Calendar
coptic_from first = row (pos 1) first thirties_and5or6 (remainder 3 4) strip_at 13

abbrev pub islamic_from : ℕ → Calendar
islamic_from first = row (pos 1) first in_turn islamic_leap
