-- The worked numbers of the change requests (docs/RULES.md, "Worked examples"), as one table: questions and answers as in the table of the starred ones.
use Rattle.std.specs.Prelude.{List, [], ◌∷◌, pos, negsuc}
use Rattle.counting.specs.Answers.{no_day_answer, the_date, no_date_answer}
use Rattle.counting.specs.Positions.{no_position_answer}
use Rattle.calendar_rules.specs.Examples.{is, month_of, strip_of, none_then}
use Rattle.examples.specs.Starred.{Example, date, date_with, day, position}

abbrev pub worked : List Example
worked =
    -- M-101: Saka 1879/1/1 is 2435920, Bahai 157/1/1 is 2451625
    date 15 (pos 1879) 1 1 (is 2435920)
    ∷ date 14 (pos 157) 1 1 (is 2451625)
    -- M-106: the last Republican date is 14/4/10, day 2380687
    ∷ date 7 (pos 14) 4 10 (is 2380687)
    ∷ date 7 (pos 14) 4 11 (no_day_answer 17)
    ∷ day 7 2380687 (the_date (pos 14) 4 10 2)
    ∷ day 7 2380688 (no_date_answer 17)
    -- M-108: the Egyptian strip is position 13; the Persian is 9, and 13 a month; the Bahai is 19, of 5 or 4 days; Saka years have none
    ∷ position 1 (pos 1) 13 (strip_of 5)
    ∷ position 4 (pos 1) 9 (strip_of 5)
    ∷ position 4 (pos 1) 13 (month_of 30)
    ∷ position 14 (pos 156) 19 (strip_of 5)
    ∷ position 14 (pos 157) 19 (strip_of 4)
    ∷ position 15 (pos 1879) 12 (month_of 30)
    -- Hebrew position 7 is a month of 5784, a leap year, and none of 5785; 14 is no position
    ∷ position 18 (pos 5784) 7 (month_of 29)
    ∷ position 18 (pos 5785) 7 none_then
    ∷ position 18 (pos 5785) 14 (no_position_answer 3)
    -- M-103: 1 January 2000 was a Saturday, and the Julian day 0 a Monday; another weekday, and any above 7, is refused 13, but 29 February 1900 still 4
    ∷ day 10 0 (the_date (negsuc 4711) 1 1 1)
    ∷ day 11 2451545 (the_date (pos 2000) 1 1 6)
    ∷ date_with 11 (pos 2000) 1 1 6 (is 2451545)
    ∷ date_with 11 (pos 2000) 1 1 0 (is 2451545)
    ∷ date_with 11 (pos 2000) 1 1 7 (no_day_answer 13)
    ∷ date_with 11 (pos 2000) 1 1 9 (no_day_answer 13)
    ∷ date_with 11 (pos 1900) 2 29 9 (no_day_answer 4)
    ∷ date_with 7 (pos 14) 4 11 9 (no_day_answer 17)
    ∷ []
