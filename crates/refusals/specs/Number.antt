-- The number of each refusal, as the table of docs/RULES.md, "Answer numbers", lists it. An answer that is no refusal has the number 0.
use Rattle.std.specs.Prelude.{◌≡◌, ◌≢◌, ℕ, Result, MatchResult}
use Rattle.refusals.specs.declared.Refusal.{Refusal}
use Rattle.refusals.specs.declared.Refusal.TheVariants.{UnknownCalendar, YearOutOfRange, NoSuchMonth, NoSuchDay, DayOutOfRange}
use Rattle.refusals.specs.declared.Refusal.TheVariants.{CodeOutOfLimits, NoLine, MalformedFrame, WrongDay, LineOutOfLimits, BufferTooShort}
use Rattle.refusals.specs.declared.Refusal.TheVariants.{WrongWeekday, CalendarEnded}
use Rattle.refusals.specs.declared.UnknownNumber.{UnknownNumber}

abbrev pub number_of : Refusal → ℕ
number_of UnknownCalendar = 1
number_of YearOutOfRange = 2
number_of NoSuchMonth = 3
number_of NoSuchDay = 4
number_of DayOutOfRange = 5
number_of CodeOutOfLimits = 6
number_of NoLine = 7
number_of MalformedFrame = 8
number_of WrongDay = 9
number_of LineOutOfLimits = 10
number_of BufferTooShort = 11
number_of WrongWeekday = 13
number_of CalendarEnded = 17

-- an answer number that is a refusal's
abbrev pub Refused : ℕ → Type 0
Refused number = number ≡ 0 → ⊥

-- the refusal that has the number, or the number itself where none has it
abbrev pub Reads : ℕ → Result Refusal UnknownNumber → Type 0
Reads number r = MatchResult r (λ why. number_of why ≡ number) (λ e. (e.0 ≡ number) × ((why : Refusal) → number_of why ≢ number))
