-- When the years of calendars 14 and 15 begin, by the Gregorian calendar (docs/RULES.md, "The calendars"): their leap years keep them in step with it.
use Rattle.std.specs.Prelude.{◌≡◌, cond, ℕ, ◌+◌, pos}
use Rattle.counting.specs.Calendar.{day_of}
use Rattle.counting.specs.Years.{year_at}
use Rattle.counting.specs.Answers.{Calendar, years}
use Rattle.calendar_rules.specs.Calendars.{gregorian, bahai, saka, saka_leap}

-- the day of a date, its year counted from the calendar's first
abbrev pub day_in : Calendar → ℕ → ℕ → ℕ → ℕ
day_in K i m d = K.first_day + day_of (years K) (record { year = i; month = m; day = d })

-- Bahai year Y, which is i years after the first, on 21 March of the Gregorian year Y+1843, which is i + 6556 years after -4712
abbrev pub BahaiNewYear : ℕ → Type 0
BahaiNewYear i = day_in bahai i 1 1 ≡ day_in gregorian (i + 6556) 3 21

-- Saka year Y, which is i years after the first, on 22 March of the Gregorian year Y+78, which is i + 4791 years after -4712; on 21 March if it is leap
abbrev pub SakaNewYear : ℕ → Type 0
SakaNewYear i = day_in saka i 1 1 ≡ day_in gregorian (i + 4791) 3 (cond (saka_leap (year_at (pos 1) i)) 21 22)
