-- For code: the calendars of the table as an enum. Nobody has to believe this page.
use Rattle.std.specs.Prelude.{◌≡◌, ℕ, Result, MatchResult}
use Rattle.std.proofs.Math.Option as maybe
use Rattle.refusals.specs.declared.Refusal.{Refusal}
use Rattle.refusals.specs.declared.Refusal.TheVariants.{UnknownCalendar}
use Rattle.counting.specs.Answers as A
use Rattle.calendar_rules.specs.Calendars as C
use Rattle.listing.specs.declared.Calendar.{Calendar}
use Rattle.listing.specs.declared.Calendar.TheVariants as V

-- its row
abbrev pub row_of : Calendar → A.Calendar
row_of V.Egyptian = C.egyptian
row_of V.Armenian = C.armenian
row_of V.Khwarizmian = C.khwarizmian
row_of V.Persian = C.persian
row_of V.Ethiopian = C.ethiopian
row_of V.Coptic = C.coptic
row_of V.Republican = C.republican
row_of V.Macedonian = C.macedonian
row_of V.Syrian = C.syrian
row_of V.Julian = C.julian
row_of V.Gregorian = C.gregorian
row_of V.IslamicA = C.islamic_a
row_of V.IslamicB = C.islamic_b
row_of V.Bahai = C.bahai
row_of V.Saka = C.saka
row_of V.Hebrew = C.hebrew

-- the calendar that is listed for the number, or why there is none
abbrev pub Reads : ℕ → Result Calendar Refusal → Type 0
Reads number found = MatchResult found (λ K. C.calendar number ≡ maybe.some (row_of K)) (λ why. (why ≡ UnknownCalendar) × (C.calendar number ≡ maybe.none))
