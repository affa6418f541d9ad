-- The answers in the rules' words: each case of an answer as its number and its values. A refusal has its number, and 0 in all other fields.
use Rattle.std.specs.Prelude.{ℕ, Result, Ok, Err}
use Rattle.refusals.specs.declared.Refusal.{Refusal}
use Rattle.refusals.specs.Number.{number_of}
use Rattle.counting.specs.Answers.{DayAnswer, no_day_answer, DateAnswer, the_date, no_date_answer}
use Rattle.counting.specs.Positions.{Kind, PositionAnswer}
use Rattle.calendars.specs.declared.Date.{Date}
use Rattle.calendars.specs.declared.Position.{Position}
use Rattle.calendars.specs.declared.Position.TheVariants.{Month, Strip, None}

abbrev pub day_paper : Result ℕ Refusal → DayAnswer
day_paper (Ok n) = record { number = 0; day = n }
day_paper (Err why) = no_day_answer (number_of why)

abbrev pub date_paper : Result Date Refusal → DateAnswer
date_paper (Ok date) = the_date date.year date.month date.day date.weekday
date_paper (Err why) = no_date_answer (number_of why)

abbrev pub position_paper : Result Position Refusal → PositionAnswer
position_paper (Ok (Month n)) = record { number = 0; kind = Kind.month; days = n }
position_paper (Ok (Strip n)) = record { number = 0; kind = Kind.strip; days = n }
position_paper (Ok None) = record { number = 0; kind = Kind.none; days = 0 }
position_paper (Err why) = record { number = number_of why; kind = Kind.none; days = 0 }
