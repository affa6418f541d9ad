-- The Hebrew calendar, number 18, by docs/RULES.md, "The Hebrew year". Years count from 1; a day is its Julian day number; a day begins at
-- 6 in the evening and has 24 hours of 1,080 parts.
use Rattle.std.specs.Prelude.{ℕ, zero, suc, ◌+◌, ◌*◌, ◌-◌, ◌/◌, ◌%◌, Bool, cond, not, ◌&&◌, ◌||◌, List, [], ◌∷◌, leb, ltb, eqb}
use Rattle.counting.specs.Calendar.{total}

-- ---- months

-- year y is leap when the remainder of 7y + 1 by 19 is below 7
unfoldable pub leap : ℕ → Bool
leap y = ltb ((7 * y + 1) % 19) 7

-- common years have 12 months, leap years 13
unfoldable pub months_in : ℕ → ℕ
months_in y = cond (leap y) 13 12

-- the months of the years from 1 up to, and without, year y
unfoldable pub months_before : ℕ → ℕ
months_before zero = 0
months_before (suc zero) = 0
months_before (suc (suc n)) = months_before (suc n) + months_in (suc n)

-- ---- the mean new moon that begins the year's first month

-- hours and parts, in parts
abbrev pub at : ℕ → ℕ → ℕ
at hours parts = hours * 1080 + parts

-- in parts from the beginning of day 347998, a Monday: in year 1 at 5 hours 204 parts, and each month adds 29 days 12 hours 793 parts
unfoldable pub moon : ℕ → ℕ
moon y = at 5 204 + months_before y * (29 * at 24 0 + at 12 793)

-- the day it is on, and its hour there, in parts
unfoldable pub moon_day : ℕ → ℕ
moon_day y = 347998 + moon y / at 24 0

unfoldable pub moon_hour : ℕ → ℕ
moon_hour y = moon y % at 24 0

-- ---- the year's first day

-- Monday is 0, Tuesday 1, .. Sunday 6
abbrev pub weekday : ℕ → ℕ
weekday day = day % 7

-- the hours of the first three rules
abbrev pub first_hour : ℕ
first_hour = at 18 0

abbrev pub second_hour : ℕ
second_hour = at 9 204

abbrev pub third_hour : ℕ
third_hour = at 15 589

-- a common year, Tuesday at or after 9 hours 204 parts
unfoldable pub second_applies : Bool → ℕ → ℕ → Bool
second_applies leap_now w hour = not leap_now && eqb w 1 && leb second_hour hour

-- a common year after a leap year, Monday at or after 15 hours 589 parts
unfoldable pub third_applies : Bool → Bool → ℕ → ℕ → Bool
third_applies leap_now leap_before w hour = not leap_now && leap_before && eqb w 0 && leb third_hour hour

-- of the first three rules at most one is used, the first that applies to the new moon's day and hour: at or after 18 hours the next day, then Thursday, then
-- Tuesday
unfoldable pub moved : Bool → Bool → ℕ → ℕ → ℕ
moved leap_now leap_before day hour =
    cond (leb first_hour hour) (day + 1)
    (cond (second_applies leap_now (weekday day) hour) (day + 2)
    (cond (third_applies leap_now leap_before (weekday day) hour) (day + 1)
    day))

-- the fourth looks at the day so reached: if it is Sunday, Wednesday or Friday, the next day
unfoldable pub fourth_applies : ℕ → Bool
fourth_applies w = eqb w 6 || eqb w 2 || eqb w 4

unfoldable pub fourth : ℕ → ℕ
fourth day = cond (fourth_applies (weekday day)) (day + 1) day

-- the first day of year y. (No year is before year 1; its new moon is before the hour of rule 3, so that what `leap 0` says is nothing to it)
unfoldable pub new_year : ℕ → ℕ
new_year y = fourth (moved (leap y) (leap (y - 1)) (moon_day y) (moon_hour y))

-- the days from the first day of year y to the next year's first day
abbrev pub year_days : ℕ → ℕ
year_days y = new_year (y + 1) - new_year y

-- ---- the lengths of the positions

-- the six kinds of year: common deficient, regular, abundant, then leap deficient, regular, abundant. Position 7 of a common year is no month
abbrev pub kinds : List (List ℕ)
kinds =
    (30 ∷ 29 ∷ 29 ∷ 29 ∷ 30 ∷ 29 ∷ 0 ∷ 30 ∷ 29 ∷ 30 ∷ 29 ∷ 30 ∷ 29 ∷ [])
    ∷ (30 ∷ 29 ∷ 30 ∷ 29 ∷ 30 ∷ 29 ∷ 0 ∷ 30 ∷ 29 ∷ 30 ∷ 29 ∷ 30 ∷ 29 ∷ [])
    ∷ (30 ∷ 30 ∷ 30 ∷ 29 ∷ 30 ∷ 29 ∷ 0 ∷ 30 ∷ 29 ∷ 30 ∷ 29 ∷ 30 ∷ 29 ∷ [])
    ∷ (30 ∷ 29 ∷ 29 ∷ 29 ∷ 30 ∷ 30 ∷ 29 ∷ 30 ∷ 29 ∷ 30 ∷ 29 ∷ 30 ∷ 29 ∷ [])
    ∷ (30 ∷ 29 ∷ 30 ∷ 29 ∷ 30 ∷ 30 ∷ 29 ∷ 30 ∷ 29 ∷ 30 ∷ 29 ∷ 30 ∷ 29 ∷ [])
    ∷ (30 ∷ 30 ∷ 30 ∷ 29 ∷ 30 ∷ 30 ∷ 29 ∷ 30 ∷ 29 ∷ 30 ∷ 29 ∷ 30 ∷ 29 ∷ [])
    ∷ []

-- the first of some lists that has total n
unfoldable pub of_total : ℕ → List (List ℕ) → List ℕ
of_total n [] = []
of_total n (ls ∷ rest) = cond (eqb (total ls) n) ls (of_total n rest)

-- a year's kind is the one whose total is the number of days from its first day to the next year's first day
unfoldable pub lengths : ℕ → List ℕ
lengths y = of_total (year_days y) kinds
