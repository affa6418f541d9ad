-- The verdict on one line of a sheet (docs/RULES.md, "Sheets" and "Answer numbers").
use Rattle.std.specs.Prelude.{List, Result, Ok, Err, cond, ℕ, eqb}
use Rattle.refusals.specs.declared.Refusal.{Refusal}
use Rattle.refusals.specs.Number.{number_of}
use Rattle.counting.specs.Answers.{DayAnswer}
use Rattle.calendar_rules.specs.Answers.{day_answer_with}
use Rattle.hex_digits.specs.Digits.{sixteen_digits}
use Rattle.frames.specs.declared.Frame.{Frame}
use Rattle.frames.specs.Frame.{fields_of, year_of}

-- the answer number of each verdict of the code: a frame is right, or why it is not
abbrev pub verdict_number : Result (Unit {0}) Refusal → ℕ
verdict_number (Ok right) = 0
verdict_number (Err why) = number_of why

-- what date to day answers for the date of a frame, which has no weekday
abbrev pub answer_for : Frame → DayAnswer
answer_for f = day_answer_with f.calendar (year_of f) f.month f.day 0

-- that answer against the frame's day: the first number that applies, 9 where the date is good and the day differs
unfoldable pub against : DayAnswer → ℕ → ℕ
against answer day = cond (eqb answer.number 0) (cond (eqb answer.day day) 0 9) answer.number

-- the verdict on a frame with these fields
unfoldable pub verdict_on : Frame → ℕ
verdict_on f = against (answer_for f) f.number

-- the verdict on a line of any bytes: 8 unless it is exactly 16 lowercase hexadecimal digits
unfoldable pub verdict_of : List ℕ → ℕ
verdict_of line = cond (sixteen_digits line) (verdict_on (fields_of line)) 8
