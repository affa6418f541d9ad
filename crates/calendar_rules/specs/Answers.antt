-- What is answered for a calendar's number, by the table of docs/RULES.md, "Answer numbers": 1 where the number is not listed, and else what the calendar
-- answers (`day_for`, `day_with`, `date_for`, `position_for` of crate counting). So date to day tries 1, 2, 3, 4, 17, 5, 13; day to date 1, 5, 17; a position of a
-- year 1, 2, 3.
use Rattle.std.specs.Prelude.{ℕ, ℤ}
use Rattle.std.proofs.Math.Option.{Option}
use Rattle.counting.specs.Answers.{Calendar, DayAnswer, no_day_answer, day_for, day_with, DateAnswer, no_date_answer, date_for}
use Rattle.counting.specs.Positions.{PositionAnswer, no_position_answer, position_for}
use Rattle.calendar_rules.specs.Calendars.{calendar}

-- the calendar's answer, or the refusal where there is none
abbrev pub of_listed : {A : Type 0} → Option Calendar → A → (Calendar → A) → A
of_listed Option.none refusal answer = refusal
of_listed (Option.some K) refusal answer = answer K

-- of a date without a weekday
unfoldable pub day_answer : ℕ → ℤ → ℕ → ℕ → DayAnswer
day_answer c y m d = of_listed (calendar c) (no_day_answer 1) (λ K. day_for K y m d)

-- of a date with weekday w, or 0
unfoldable pub day_answer_with : ℕ → ℤ → ℕ → ℕ → ℕ → DayAnswer
day_answer_with c y m d w = of_listed (calendar c) (no_day_answer 1) (λ K. day_with K y m d w)

unfoldable pub date_answer : ℕ → ℕ → DateAnswer
date_answer c n = of_listed (calendar c) (no_date_answer 1) (λ K. date_for K n)

unfoldable pub position_answer : ℕ → ℤ → ℕ → PositionAnswer
position_answer c y m = of_listed (calendar c) (no_position_answer 1) (λ K. position_for K y m)
