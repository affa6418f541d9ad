-- The structs that C gets, as the answers of docs/RULES.md: field by field, under the same names; and the kinds of positions as numbers.
use Rattle.std.specs.Prelude.{ℕ}
use Rattle.counting.specs.Answers.{DayAnswer, DateAnswer}
use Rattle.counting.specs.Positions.{Kind, PositionAnswer}
use Rattle.c_dates.specs.declared.DayFields.{DayFields}
use Rattle.c_dates.specs.declared.DateFields.{DateFields}
use Rattle.c_dates.specs.declared.PositionFields.{PositionFields}

abbrev pub day_fields : DayFields → DayAnswer
day_fields x = record { number = x.number; day = x.day }

abbrev pub date_fields : DateFields → DateAnswer
date_fields x = record { number = x.number; year = x.year; month = x.month; day = x.day; weekday = x.weekday }

abbrev pub kind_number : Kind → ℕ
kind_number Kind.none = 0
kind_number Kind.month = 1
kind_number Kind.strip = 2

abbrev pub position_fields : PositionAnswer → PositionFields
position_fields x = record { number = x.number; kind = kind_number x.kind; days = x.days }
