-- What the code's answers say in the rules' words: an answer number, a month and a day.
use Rattle.std.specs.Prelude.{Result, Ok, Err}
use Rattle.refusals.specs.declared.Refusal.{Refusal}
use Rattle.refusals.specs.Number.{number_of}
use Rattle.computus.specs.Rule.{EasterAnswer, refused}
use Rattle.easter.specs.declared.MonthDay.{MonthDay}

-- a date has the number 0
abbrev pub date_paper : MonthDay → EasterAnswer
date_paper D = record { number = 0; month = D.month; day = D.day }

-- a refusal has its number and no date
abbrev pub easter_paper : Result MonthDay Refusal → EasterAnswer
easter_paper (Ok D) = date_paper D
easter_paper (Err why) = refused (number_of why)
