-- Each starred example of docs/RULES.md is answered as it says: one table, one statement; and so is each worked number of the change requests. Both sides are
-- computed, the days of the years by counting them one by one, but for the Hebrew years, whose first days are those that the rules give.
use mathlib.Core.Path.{◌≡◌, refl}
use Prim.Native.Nat.{ℕ, ◌+◌, ◌-◌}
use native.Mathlib.Omega.{arith}
use lib.IntN.{pos}
use Rattle.counting.specs.Calendar.{total, start, day_of, first_from, date_at}
use Rattle.counting.specs.Calendar.{new_year as calendar_new_year}
use Rattle.hebrew.specs.Hebrew.{leap, months_in, months_before, moon, moon_day, moon_hour, second_applies, third_applies, moved, fourth_applies, fourth, new_year}
use Rattle.hebrew.specs.Hebrew.{of_total}
use Rattle.hebrew.specs.Hebrew.{lengths as hebrew_lengths}
use Rattle.lines.specs.BandTest.{within, sum_to, peak, offset_of, passes, first}
use Rattle.basics.specs.Every.{every, All}
use Rattle.basics.proofs.Cases.{◌and◌}
use Rattle.lines.specs.Fit.{answer_of, fit_of}
use Rattle.counting.specs.Answers.{years, day_for, weekday_tried, the_date, date_for}
use Rattle.counting.specs.Positions.{position_for}
use Rattle.counting.proofs.Starts.{start_same}
use Rattle.hebrew.proofs.Calendar.{start_is}
use Rattle.calendar_rules.specs.Calendars.{hebrew, lookup, calendar}
use Rattle.calendar_rules.specs.Answers.{day_answer, day_answer_with, date_answer, position_answer}
use Rattle.calendar_rules.proofs.Claims.{there_and_back}
use Rattle.calendar_rules.proofs.HebrewYears.{hebrew_row}
use Rattle.examples.specs.Starred.{starred, Answered}
use Rattle.examples.specs.Requests.{worked}

-- the days before a Hebrew year, from its first day by the rules
before_year : (i n : ℕ) → new_year (i + 1) ≡ n → start (years hebrew) i ≡ n - 347998
before_year i n e = omega (arith, start_same _ _ hebrew_row i, start_is i)

hebrew_years_lem : (day_answer 18 (pos 5784) 1 1 ≡ record { number = 0; day = 2460204 }) × (day_answer 18 (pos 5785) 1 1 ≡ record { number = 0; day = 2460587 })
unfolding day_answer calendar lookup day_for day_of total
    leap months_in months_before moon moon_day moon_hour second_applies third_applies moved fourth_applies fourth new_year of_total hebrew_lengths
hebrew_years_lem = (rw (before_year 5783 2460204 refl) refl, rw (before_year 5784 2460587 refl) refl)

pub starred_answered : All Answered starred
unfolding day_answer calendar lookup day_for years day_of start total fit_of within every passes offset_of peak sum_to first answer_of
starred_answered =
    (refl, (refl, (refl, (refl, (refl, (refl, (refl, (refl, (hebrew_years_lem.0, (hebrew_years_lem.1, (refl, (refl, (refl, (refl, (refl, (refl, tt))))))))))))))))

-- the date of a day, from the day of that date
last_republican : date_answer 7 2380687 ≡ the_date (pos 14) 4 10 2
unfolding day_answer_with calendar lookup day_for weekday_tried years day_of start total
last_republican = there_and_back 7 (pos 14) 4 10 0 refl

january_2000 : date_answer 11 2451545 ≡ the_date (pos 2000) 1 1 6
unfolding day_answer_with calendar lookup day_for weekday_tried years day_of start total
january_2000 = there_and_back 11 (pos 2000) 1 1 0 refl

pub worked_answered : All Answered worked
unfolding day_answer day_answer_with date_answer position_answer calendar lookup day_for weekday_tried date_for position_for years day_of start total
    date_at calendar_new_year first_from
    leap months_in months_before moon moon_day moon_hour second_applies third_applies moved fourth_applies fourth new_year of_total hebrew_lengths
worked_answered =
    refl and refl and refl and refl and last_republican and refl and refl and refl and refl and refl and refl and refl and refl and refl and refl
    and refl and january_2000 and refl and refl and refl and refl and refl and refl and tt
