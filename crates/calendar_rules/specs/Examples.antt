-- Worked examples that tie the rows and the limits to the world: for each row of the table a date and its day as an outside program has them, or one derived
-- from such, and what is answered at the limits. proofs/Claims.antt shows that each is answered so.
use Rattle.std.specs.Prelude.{ℕ, ◌≡◌, List, [], ◌∷◌, ℤ, pos, negsuc}
use Rattle.counting.specs.Answers.{DayAnswer, no_day_answer, DateAnswer, the_date, no_date_answer}
use Rattle.counting.specs.Positions.{Kind, PositionAnswer, no_position_answer}
use Rattle.calendar_rules.specs.Answers.{day_answer, day_answer_with, date_answer, position_answer}

-- a question and its answer: the day of a date (calendar, year, month, day; and with a weekday), the date of a day, a position of a year
pub data Example : Type 0 where
  date : ℕ → ℤ → ℕ → ℕ → DayAnswer → Example
  date_with : ℕ → ℤ → ℕ → ℕ → ℕ → DayAnswer → Example
  day : ℕ → ℕ → DateAnswer → Example
  position : ℕ → ℤ → ℕ → PositionAnswer → Example

-- it is answered so
abbrev pub Answered : Example → Type 0
Answered (date c y m d a) = day_answer c y m d ≡ a
Answered (date_with c y m d w a) = day_answer_with c y m d w ≡ a
Answered (day c n a) = date_answer c n ≡ a
Answered (position c y m a) = position_answer c y m ≡ a

abbrev pub is : ℕ → DayAnswer
is n = record { number = 0; day = n }

abbrev pub month_of : ℕ → PositionAnswer
month_of n = record { number = 0; kind = Kind.month; days = n }

abbrev pub strip_of : ℕ → PositionAnswer
strip_of n = record { number = 0; kind = Kind.strip; days = n }

abbrev pub none_then : PositionAnswer
none_then = record { number = 0; kind = Kind.none; days = 0 }

-- where there is one, a leap day or a day of the position that is shorter
abbrev pub rows : List Example
rows =
    -- gcal 4.1, whose years are 3496 more
    date 1 (pos 791) 12 1 (is 1737318)
    -- convertdate 2.4.0; from its Armenian dates, with years 80 less, and then 5 days earlier with the 5 days at position 9
    ∷ date 2 (pos 29) 13 5 (is 1933452)
    ∷ date 3 (pos 37) 13 5 (is 1965572)
    ∷ date 4 (pos 29) 9 5 (is 1962527)
    -- ICU 72.1, Joda-Time 2.10.14, PHP 8.2
    ∷ date 5 (pos 2623) 13 6 (is 2682271)
    ∷ date 6 (pos 307) 13 6 (is 1937161)
    ∷ date 7 (pos 8) 8 30 (is 2378636)
    -- from Ruby 3.1's Julian dates, with years 312 more, from September and from October
    ∷ date 8 (pos 35) 6 29 (is 1620308)
    ∷ date 9 (pos 35) 5 29 (is 1620308)
    -- Joda-Time 2.10.14, OpenJDK 17, ICU 72.1, Emacs 28.2 twice; ICU 72; convertdate 2.4.0
    ∷ date 10 (negsuc 4711) 2 29 (is 59)
    ∷ date 11 (negsuc 4711) 2 29 (is 97)
    ∷ date 12 (pos 5) 12 30 (is 1950210)
    ∷ date 13 (pos 146) 12 30 (is 2000177)
    ∷ date 14 (pos 156) 19 5 (is 2451605)
    ∷ date 15 (pos 2722) 1 31 (is 2743849)
    ∷ date 18 (pos 2) 3 30 (is 348442)
    ∷ []

abbrev pub limits : List Example
limits =
    -- Gregorian 9999/12/31 is 5373484, the last day; 10000/1/1 is refused 5
    date 11 (pos 9999) 12 31 (is 5373484)
    ∷ date 11 (pos 10000) 1 1 (no_day_answer 5)
    ∷ day 11 5373484 (the_date (pos 9999) 12 31 5)
    ∷ day 11 5373485 (no_date_answer 5)
    -- the first days
    ∷ day 11 38 (the_date (negsuc 4711) 1 1 4)
    ∷ day 11 37 (no_date_answer 5)
    -- years 1 and -4712 are the first, year 20,000 the last
    ∷ position 1 (pos 0) 1 (no_position_answer 2)
    ∷ position 1 (pos 1) 1 (month_of 30)
    ∷ position 10 (negsuc 4712) 1 (no_position_answer 2)
    ∷ position 10 (negsuc 4711) 1 (month_of 31)
    ∷ position 1 (pos 20000) 13 (strip_of 5)
    ∷ position 1 (pos 20001) 13 (no_position_answer 2)
    -- no other number is listed
    ∷ position 0 (pos 1) 1 (no_position_answer 1)
    ∷ position 16 (pos 1) 1 (no_position_answer 1)
    ∷ position 17 (pos 1) 1 (no_position_answer 1)
    ∷ position 19 (pos 1) 1 (no_position_answer 1)
    ∷ []

-- 14/4/10 is the last Republican date. Later dates are refused 17, before 5 but after 2 and 4, and later days 17, after 5
abbrev pub ends : List Example
ends =
    date 7 (pos 14) 4 10 (is 2380687)
    ∷ date 7 (pos 14) 4 11 (no_day_answer 17)
    ∷ date 7 (pos 14) 4 31 (no_day_answer 4)
    ∷ date 7 (pos 20000) 1 1 (no_day_answer 17)
    ∷ date 7 (pos 20001) 1 1 (no_day_answer 2)
    ∷ day 7 2380687 (the_date (pos 14) 4 10 2)
    ∷ day 7 2380688 (no_date_answer 17)
    ∷ day 7 5373485 (no_date_answer 5)
    ∷ position 7 (pos 20000) 13 (strip_of 5)
    ∷ []

-- the strips, and positions beside them; the Persian one is not at the year's end
abbrev pub strips : List Example
strips =
    position 1 (pos 1) 12 (month_of 30)
    ∷ position 1 (pos 1) 13 (strip_of 5)
    ∷ position 1 (pos 1) 14 (no_position_answer 3)
    ∷ position 2 (pos 1) 13 (strip_of 5)
    ∷ position 3 (pos 1) 13 (strip_of 5)
    ∷ position 4 (pos 1) 8 (month_of 30)
    ∷ position 4 (pos 1) 9 (strip_of 5)
    ∷ position 4 (pos 1) 10 (month_of 30)
    ∷ position 4 (pos 1) 13 (month_of 30)
    ∷ position 5 (pos 3) 13 (strip_of 6)
    ∷ position 6 (pos 4) 13 (strip_of 5)
    ∷ position 7 (pos 3) 13 (strip_of 6)
    ∷ position 14 (pos 156) 18 (month_of 19)
    ∷ position 14 (pos 156) 19 (strip_of 5)
    ∷ position 14 (pos 157) 19 (strip_of 4)
    ∷ position 14 (pos 157) 20 (month_of 19)
    ∷ []

-- calendars without strip. Hebrew position 7 is a month of a leap year and none of a common one, where date to day refuses it; 14 is no position
abbrev pub months : List Example
months =
    position 11 (pos 2000) 2 (month_of 29)
    ∷ position 15 (pos 1) 12 (month_of 30)
    ∷ position 15 (pos 1) 13 (no_position_answer 3)
    ∷ position 18 (pos 1) 0 (no_position_answer 3)
    ∷ position 18 (pos 1) 6 (month_of 29)
    ∷ position 18 (pos 1) 7 none_then
    ∷ date 18 (pos 1) 7 1 (no_day_answer 3)
    ∷ position 18 (pos 1) 8 (month_of 30)
    ∷ position 18 (pos 3) 7 (month_of 29)
    ∷ position 18 (pos 3) 14 (no_position_answer 3)
    ∷ []

-- day 0 was a Monday, and 1 January 2000 a Saturday. 13 is tried last
abbrev pub weekdays : List Example
weekdays =
    day 10 0 (the_date (negsuc 4711) 1 1 1)
    ∷ date_with 10 (negsuc 4711) 1 1 1 (is 0)
    ∷ date_with 10 (negsuc 4711) 1 1 7 (no_day_answer 13)
    ∷ date_with 11 (pos 2000) 1 1 0 (is 2451545)
    ∷ date_with 11 (pos 2000) 1 1 6 (is 2451545)
    ∷ date_with 11 (pos 2000) 1 1 5 (no_day_answer 13)
    ∷ date_with 11 (pos 2000) 1 1 8 (no_day_answer 13)
    ∷ date_with 11 (pos 2000) 1 1 13 (no_day_answer 13)
    ∷ date_with 11 (pos 10000) 1 1 9 (no_day_answer 5)
    ∷ date_with 7 (pos 14) 4 11 9 (no_day_answer 17)
    ∷ date_with 11 (pos 1900) 2 29 9 (no_day_answer 4)
    ∷ date_with 11 (pos 1900) 13 1 9 (no_day_answer 3)
    ∷ date_with 11 (pos 20001) 1 1 9 (no_day_answer 2)
    ∷ date_with 0 (pos 2000) 1 1 9 (no_day_answer 1)
    ∷ []
