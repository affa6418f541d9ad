-- The worked examples of specs/Examples.antt, computed: the days of the years by counting them one by one.
use mathlib.Core.Path.{◌≡◌, refl, ap}
use Prim.Native.Nat.{ℕ}
use lib.IntN.{ℤ, pos}
use Rattle.basics.specs.Every.{All}
use Rattle.counting.specs.Calendar.{total, start, day_of, first_from, new_year, date_at}
use Rattle.counting.specs.Answers.{Calendar, years, DayAnswer, weekday_of, day_for, weekday_tried, the_date, date_for}
use Rattle.counting.specs.Positions.{position_for}
use Rattle.counting.proofs.Rounds.{there}
use Rattle.hebrew.specs.Hebrew.{leap, months_in, months_before, moon, moon_day, moon_hour, second_applies, third_applies, moved, fourth_applies, fourth, of_total}
use Rattle.hebrew.specs.Hebrew.{new_year as hebrew_new_year, lengths as hebrew_lengths}
use Rattle.calendar_rules.specs.Calendars.{republican, gregorian, lookup, calendar, Listed}
use Rattle.calendar_rules.specs.Answers.{day_answer, day_answer_with, date_answer, position_answer}
use Rattle.calendar_rules.specs.Examples.{Answered, rows, limits, ends, strips, months, weekdays}
use Rattle.calendar_rules.proofs.Listed.{listed_sound, sound_proper}

pub rows_answered : All Answered rows
unfolding day_answer calendar lookup day_for years day_of start total
    leap months_in months_before moon moon_day moon_hour second_applies third_applies moved fourth_applies fourth hebrew_new_year of_total hebrew_lengths
rows_answered =
    (refl, (refl, (refl, (refl, (refl, (refl, (refl, (refl, (refl, (refl, (refl, (refl, (refl, (refl, (refl, (refl, tt))))))))))))))))

-- the date of a day, from the day of that date
from_date : {c : ℕ} (K : Calendar) → Listed c K → (y : ℤ) (m d n : ℕ) → day_for K y m d ≡ record { number = 0; day = n }
    → date_answer c n ≡ the_date y m d (weekday_of n)
unfolding date_answer
from_date K l y m d n e =
    let back = there K (sound_proper (listed_sound l)) y m d (ap (λ (a : DayAnswer). a.number) e) in
    let same = ap (λ (a : DayAnswer). a.day) e in
    rw l.row (rw same at back)

last_day_lem : date_answer 11 5373484 ≡ the_date (pos 9999) 12 31 5
unfolding calendar lookup day_for years day_of start total
last_day_lem = from_date gregorian (record { row = refl }) (pos 9999) 12 31 5373484 refl

pub limits_answered : All Answered limits
unfolding day_answer date_answer position_answer calendar lookup day_for date_for position_for years day_of start total date_at new_year first_from
limits_answered =
    (refl, (refl, (last_day_lem, (refl, (refl, (refl, (refl, (refl, (refl, (refl, (refl, (refl, (refl, (refl, (refl, (refl, tt))))))))))))))))

end_day : date_answer 7 2380687 ≡ the_date (pos 14) 4 10 2
unfolding calendar lookup day_for years day_of start total
end_day = from_date republican (record { row = refl }) (pos 14) 4 10 2380687 refl

pub ends_answered : All Answered ends
unfolding day_answer date_answer position_answer calendar lookup day_for date_for position_for years day_of start total
ends_answered =
    (refl, (refl, (refl, (refl, (refl, (end_day, (refl, (refl, (refl, tt)))))))))

pub strips_answered : All Answered strips
unfolding position_answer calendar lookup position_for
strips_answered =
    (refl, (refl, (refl, (refl, (refl, (refl, (refl, (refl, (refl, (refl, (refl, (refl, (refl, (refl, (refl, (refl, tt))))))))))))))))

pub months_answered : All Answered months
unfolding day_answer position_answer calendar lookup day_for position_for total
    leap months_in months_before moon moon_day moon_hour second_applies third_applies moved fourth_applies fourth hebrew_new_year of_total hebrew_lengths
months_answered =
    (refl, (refl, (refl, (refl, (refl, (refl, (refl, (refl, (refl, (refl, tt))))))))))

pub weekdays_answered : All Answered weekdays
unfolding day_answer_with date_answer calendar lookup day_for weekday_tried date_for years day_of start total date_at new_year first_from
weekdays_answered =
    (refl, (refl, (refl, (refl, (refl, (refl, (refl, (refl, (refl, (refl, (refl, (refl, (refl, (refl, tt))))))))))))))
