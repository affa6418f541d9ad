-- The lines that answer a request: each answer of the rules as text. An answer with the number 0 is said; any other is a refusal, with its words.
use Rattle.std.specs.Prelude.{List, ◌++◌, cond, ℕ, eqb, ℤ}
use Rattle.counting.specs.Answers.{DayAnswer, DateAnswer, weekday_of}
use Rattle.counting.specs.Positions.{Kind, PositionAnswer}
use Rattle.computus.specs.Rule.{EasterAnswer}
use Rattle.decimal.specs.Decimal.{text, signed_text}
use Rattle.words.specs.Text.{bytes}
use Rattle.words.specs.Names.{name_of, calendar_names, weekday_names}
use Rattle.texts.specs.Columns.{left_in, right_in}
use Rattle.phrases.specs.Phrases.{answer_words, refusal_text}

unfoldable pub or_refusal : ℕ → List ℕ → List ℕ
or_refusal number said = cond (eqb number 0) said (refusal_text number)

-- ---- lines

-- a day, as `2461360 sunday`
unfoldable pub day_text : ℕ → List ℕ
day_text n = text n ++ bytes " " ++ name_of weekday_names (weekday_of n)

unfoldable pub day_line : DayAnswer → List ℕ
day_line a = or_refusal a.number (day_text a.day)

-- a date, as `2026 11 15 sunday`
unfoldable pub date_text : ℤ → ℕ → ℕ → ℕ → List ℕ
date_text year month day weekday =
    signed_text year ++ bytes " " ++ text month ++ bytes " " ++ text day ++ bytes " " ++ name_of weekday_names weekday

unfoldable pub date_line : DateAnswer → List ℕ
date_line a = or_refusal a.number (date_text a.year a.month a.day a.weekday)

-- the first day of a year, as `first day 2461042`
unfoldable pub first_day_line : DayAnswer → List ℕ
first_day_line a = bytes "first day " ++ or_refusal a.number (text a.day)

-- ---- rows of tables

-- the number and the name of a calendar, as `11 gregorian   `
unfoldable pub heading : ℕ → List ℕ
heading c = right_in 2 (text c) ++ bytes " " ++ left_in 11 (name_of calendar_names c) ++ bytes " "

-- a date, as ` 2026 11 15`
unfoldable pub date_columns : ℤ → ℕ → ℕ → List ℕ
date_columns year month day = right_in 5 (signed_text year) ++ bytes " " ++ right_in 2 (text month) ++ bytes " " ++ right_in 2 (text day)

-- a day in a calendar
unfoldable pub calendar_row : ℕ → DateAnswer → List ℕ
calendar_row c a = heading c ++ or_refusal a.number (date_columns a.year a.month a.day)

-- Easter of a year in a calendar, and its day
unfoldable pub easter_row : ℕ → ℤ → EasterAnswer → ℕ → List ℕ
easter_row c year a day = heading c ++ or_refusal a.number (date_columns year a.month a.day ++ bytes " " ++ text day)

-- a calendar's first day and first year
unfoldable pub first_row : ℕ → ℕ → ℤ → List ℕ
first_row c day year = heading c ++ right_in 7 (text day) ++ bytes " " ++ right_in 5 (signed_text year)

abbrev pub kind_name : Kind → List ℕ
kind_name Kind.month = bytes "month"
kind_name Kind.strip = bytes "strip"
kind_name Kind.none = bytes "none"

-- a position of a year, as ` 1 month 30`
unfoldable pub position_row : ℕ → PositionAnswer → List ℕ
position_row position a = right_in 2 (text position) ++ bytes " " ++ left_in 5 (kind_name a.kind) ++ bytes " " ++ right_in 2 (text a.days)

-- an answer number and its words
unfoldable pub answer_row : ℕ → List ℕ
answer_row number = right_in 2 (text number) ++ bytes " " ++ name_of answer_words number
