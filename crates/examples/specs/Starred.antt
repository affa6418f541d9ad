-- The worked examples that docs/RULES.md marks with a star ("Worked examples"), as one table, over the definitions that the promises cite:
-- `day_answer_with` and, without a weekday, `day_answer` for date to day, `date_answer` for day to date, `position_answer` for a position, of crate calendar_rules;
-- `fit_of` of crate lines for fitting.
use Rattle.std.specs.Prelude.{◌≡◌, List, [], ◌∷◌, ℕ, ℤ, pos, negsuc}
use Rattle.lines.specs.Fit.{Answer, line, refused, fit_of}
use Rattle.counting.specs.Answers.{DayAnswer, DateAnswer, no_day_answer}
use Rattle.counting.specs.Positions.{PositionAnswer}
use Rattle.calendar_rules.specs.Answers.{day_answer, day_answer_with, date_answer, position_answer}
use Rattle.calendar_rules.specs.Examples.{is}

-- a question and its answer: the day of a date (calendar, year, month, day; and with a weekday), the date of a day, a position of a year, or the line of a code
pub data Example : Type 0 where
  date : ℕ → ℤ → ℕ → ℕ → DayAnswer → Example
  date_with : ℕ → ℤ → ℕ → ℕ → ℕ → DayAnswer → Example
  day : ℕ → ℕ → DateAnswer → Example
  position : ℕ → ℤ → ℕ → PositionAnswer → Example
  code : List ℕ → Answer → Example

abbrev pub starred : List Example
starred =
    -- Julian -4712/1/1 is 0; Gregorian -4712/1/1 is 38
    date 10 (negsuc 4711) 1 1 (is 0)
    ∷ date 11 (negsuc 4711) 1 1 (is 38)
    -- Julian 1582/10/4 is 2299160; Gregorian 1582/10/15 is 2299161
    ∷ date 10 (pos 1582) 10 4 (is 2299160)
    ∷ date 11 (pos 1582) 10 15 (is 2299161)
    -- Gregorian 2000/2/29 is 2451604; 1900/2/29 is refused 4
    ∷ date 11 (pos 2000) 2 29 (is 2451604)
    ∷ date 11 (pos 1900) 2 29 (no_day_answer 4)
    -- Islamic B 2/12/30 is 1949148; 1/12/30 is refused 4
    ∷ date 13 (pos 2) 12 30 (is 1949148)
    ∷ date 13 (pos 1) 12 30 (no_day_answer 4)
    -- Hebrew 5784/1/1 is 2460204, and 5785/1/1 is 2460587
    ∷ date 18 (pos 5784) 1 1 (is 2460204)
    ∷ date 18 (pos 5785) 1 1 (is 2460587)
    -- 31 gives (31,1,0); 31 30 gives (61,2,1); 31 30 31 30 31 31 gives (153,5,2)
    ∷ code (31 ∷ []) (line 31 1 0)
    ∷ code (31 ∷ 30 ∷ []) (line 61 2 1)
    ∷ code (31 ∷ 30 ∷ 31 ∷ 30 ∷ 31 ∷ 31 ∷ []) (line 153 5 2)
    -- 30 29 five times, then 30 30, gives (325,11,5)
    ∷ code (30 ∷ 29 ∷ 30 ∷ 29 ∷ 30 ∷ 29 ∷ 30 ∷ 29 ∷ 30 ∷ 29 ∷ 30 ∷ 30 ∷ []) (line 325 11 5)
    -- 31 31 30 30 and 28 30 are refused 7
    ∷ code (31 ∷ 31 ∷ 30 ∷ 30 ∷ []) (refused 7)
    ∷ code (28 ∷ 30 ∷ []) (refused 7)
    ∷ []

-- the example is answered as it says
abbrev pub Answered : Example → Type 0
Answered (date c y m d a) = day_answer c y m d ≡ a
Answered (date_with c y m d w a) = day_answer_with c y m d w ≡ a
Answered (day c n a) = date_answer c n ≡ a
Answered (position c y m a) = position_answer c y m ≡ a
Answered (code ls a) = fit_of ls ≡ a
