-- A calendar, and what it answers, by the table of docs/RULES.md, "Answer numbers": date to day tries 2, 3, 4, 17, 5, 13; day to date 5, 17. (What it answers to
-- a position of a year: specs/Positions.antt.)
-- (1, a number that is no calendar's, is tried where calendars are looked up by number.) A refusal has its number, and 0 in all other fields.
use Rattle.std.specs.Prelude.{ℕ, ◌+◌, ◌-◌, ◌%◌, ◌≤◌, min, ◌≡◌, Bool, false, cond, not, ◌&&◌, ◌||◌, ◌⊎◌, List, eqb, ltb, ℤ, pos, length}
use Rattle.std.proofs.Math.Option.{Option}
use Rattle.std.specs.Int.Signed.{lt_z}
use Rattle.counting.specs.Calendar.{total, len, day_of, date_at, Date}
use Rattle.counting.specs.Years.{year_at, years_from}

-- a calendar: its first year, the day of 1/1 of that year, the lengths of the positions of each year, the position that is a strip of loose days and no
-- month, if there is one, and its own last day, if it ended
pub record Calendar : Type 0 where
  pub first_year : ℤ
  pub first_day : ℕ
  pub lengths : ℤ → List ℕ
  pub strip : Option ℕ
  pub end : Option ℕ

-- the lengths of its years, counted from its first
unfoldable pub years : Calendar → ℕ → List ℕ
years K i = K.lengths (year_at K.first_year i)

pub record DayAnswer : Type 0 where
  pub number : ℕ
  pub day : ℕ

pub record DateAnswer : Type 0 where
  pub number : ℕ
  pub year : ℤ
  pub month : ℕ
  pub day : ℕ
  pub weekday : ℕ

abbrev pub last_day : ℕ
last_day = 5373484

abbrev pub last_year : ℤ
last_year = pos 20000

-- the weekday of a day, 1 Monday to 7 Sunday: day 0 is a Monday (docs/RULES.md, "Weekdays")
abbrev pub weekday_of : ℕ → ℕ
weekday_of n = n % 7 + 1

-- the next weekday: after Sunday comes Monday (for the claims)
abbrev pub next_weekday : ℕ → ℕ
next_weekday w = cond (eqb w 7) 1 (w + 1)

-- a weekday handed in that fits day n: 0, or the day's (for the claims)
abbrev pub FitsDay : ℕ → ℕ → Type 0
FitsDay w n = (w ≡ 0) ⊎ (w ≡ weekday_of n)

-- ---- when a number applies

-- 2: year below the calendar's first or above 20,000
abbrev pub year_out : Calendar → ℤ → Bool
year_out K y = lt_z y K.first_year || lt_z last_year y

-- the length of position m of year y; 0 past the last
abbrev pub length_in : Calendar → ℤ → ℕ → ℕ
length_in K y m = len (K.lengths y) m

-- 3: month 0,
abbrev pub month_zero : ℕ → Bool
month_zero m = eqb m 0

-- above the positions,
abbrev pub above_positions : Calendar → ℤ → ℕ → Bool
above_positions K y m = ltb (length (K.lengths y)) m

-- or of no days that year
abbrev pub no_days_that_year : Calendar → ℤ → ℕ → Bool
no_days_that_year K y m = eqb (length_in K y m) 0

abbrev pub no_month : Calendar → ℤ → ℕ → Bool
no_month K y m = month_zero m || above_positions K y m || no_days_that_year K y m

-- 4: day 0 or beyond the month
abbrev pub no_day : Calendar → ℤ → ℕ → ℕ → Bool
no_day K y m d = eqb d 0 || ltb (length_in K y m) d

-- 5: day above 5,373,484, or before the calendar's first day
abbrev pub day_out : Calendar → ℕ → Bool
day_out K n = ltb last_day n || ltb n K.first_day

-- 17: day after the calendar's end
abbrev pub after : Option ℕ → ℕ → Bool
after Option.none n = false
after (Option.some e) n = ltb e n

abbrev pub ended : Calendar → ℕ → Bool
ended K n = after K.end n

-- 13: weekday neither 0 nor the day's
abbrev pub wrong_weekday : ℕ → ℕ → Bool
wrong_weekday w n = not (eqb w 0 || eqb w (weekday_of n))

-- ---- date to day

-- the day of a date that the calendar has
abbrev pub day_number : Calendar → ℤ → ℕ → ℕ → ℕ
day_number K y m d = K.first_day + day_of (years K) (record { year = years_from K.first_year y; month = m; day = d })

abbrev pub no_day_answer : ℕ → DayAnswer
no_day_answer k = record { number = k; day = 0 }

-- of a date without a weekday
unfoldable pub day_for : Calendar → ℤ → ℕ → ℕ → DayAnswer
day_for K y m d =
    cond (year_out K y) (no_day_answer 2)
    (cond (no_month K y m) (no_day_answer 3)
    (cond (no_day K y m d) (no_day_answer 4)
    (cond (ended K (day_number K y m d)) (no_day_answer 17)
    (cond (day_out K (day_number K y m d)) (no_day_answer 5)
    (record { number = 0; day = day_number K y m d })))))

-- 13 is tried last, where the rest is accepted
unfoldable pub weekday_tried : ℕ → DayAnswer → DayAnswer
weekday_tried w x = cond (eqb x.number 0 && wrong_weekday w x.day) (no_day_answer 13) x

-- of a date with weekday w, or 0
abbrev pub day_with : Calendar → ℤ → ℕ → ℕ → ℕ → DayAnswer
day_with K y m d w = weekday_tried w (day_for K y m d)

-- ---- day to date: the date that counting one by one from the calendar's first day reaches

abbrev pub date_on : Calendar → ℕ → Date
date_on K n = date_at (years K) (n - K.first_day)

-- its year
abbrev pub year_on : Calendar → ℕ → ℤ
year_on K n = year_at K.first_year (date_on K n).year

-- a date with its weekday, as an answer
abbrev pub the_date : ℤ → ℕ → ℕ → ℕ → DateAnswer
the_date y m d w = record { number = 0; year = y; month = m; day = d; weekday = w }

-- one whose year is counted from the first
abbrev pub dated : Calendar → Date → ℕ → DateAnswer
dated K D w = the_date (year_at K.first_year D.year) D.month D.day w

abbrev pub no_date_answer : ℕ → DateAnswer
no_date_answer k = record { number = k; year = pos 0; month = 0; day = 0; weekday = 0 }

unfoldable pub date_for : Calendar → ℕ → DateAnswer
date_for K n =
    cond (day_out K n) (no_date_answer 5)
    (cond (ended K n) (no_date_answer 17)
    (dated K (date_on K n) (weekday_of n)))

-- y/m/d is a date of the calendar: 2, 3 and 4 do not apply
pub record IsDate (K : Calendar) (y : ℤ) (m d : ℕ) : Type 0 where
  pub year_in : year_out K y ≡ false
  pub month_in : no_month K y m ≡ false
  pub day_in : no_day K y m d ≡ false

-- ---- the last day that has a date: 5,373,484, or the calendar's end

abbrev pub last_with : Option ℕ → ℕ
last_with Option.none = last_day
last_with (Option.some e) = min e last_day

abbrev pub last_of : Calendar → ℕ
last_of K = last_with K.end

-- ---- what the theorems ask of a calendar: every year has days, and no day up to the last is in a year above 20,000

pub record Proper (K : Calendar) : Type 0 where
  pub has_days : (i : ℕ) → 1 ≤ total (years K i)
  pub in_time : (n : ℕ) → n ≤ last_day → lt_z last_year (year_on K n) ≡ false
