-- For code: the answers as plain numbers, and in steps: the position of a year, the day in it. Nobody has to believe this page.
use Rattle.std.specs.Prelude.{ℕ, ◌+◌, ◌-◌, ◌*◌, ◌^◌, Bool, true, false, cond, not, ◌&&◌, ◌||◌, ◌≡◌, eqb, ltb, ℤ, negsuc, Option, None, MatchOption, Some}
use Rattle.std.proofs.Math.Option as maybe
use Rattle.std.specs.Int.Signed.{lt_z}
use Rattle.counting.specs.Years.{years_from}
use Rattle.counting.specs.Answers.{Calendar, DayAnswer, DateAnswer, no_day_answer, last_day, last_year, year_out, ended, wrong_weekday, last_of}
use Rattle.counting.specs.Positions.{Kind, PositionAnswer, no_position_answer}
use Rattle.calendar_rules.specs.Calendars.{calendar, Listed}
use Rattle.calendar_rules.specs.Answers.{of_listed}
use Rattle.parts.specs.declared.Place.{Place}

unfoldable pub listed : ℕ → Bool
listed c = of_listed (calendar c) false (λ K. true)

-- what holds of the calendar that is listed for a number, if one is
abbrev pub OfListed : ℕ → (Calendar → Type 0) → Type 0
OfListed c P = (K : Calendar) → Listed c K → P K

-- what an arm of a match finds: P holds of the calendar, and nothing is found where there is none
pub record Answered {A : Type 0} (c : ℕ) (P : Calendar → Type 0) (found : Option A) : Type 0 where
  pub on : OfListed c P
  pub off : calendar c ≡ maybe.none → found ≡ None

-- an answer as one number: the answer number 2^32 high
abbrev pub packed_day : DayAnswer → ℕ
packed_day x = x.number * 2 ^ 32 + x.day

-- a weekday tried on such a number
abbrev pub packed_tried : ℕ → ℕ → ℕ
packed_tried w r = cond (ltb r (2 ^ 32) && wrong_weekday w r) (13 * 2 ^ 32) r

-- why there is no position of year y that was sought: 1, 2 or 3, whichever is first
unfoldable pub none_number : ℕ → ℤ → ℕ
none_number c y = of_listed (calendar c) 1 (λ K. cond (year_out K y) 2 3)

abbrev pub packed_none : ℕ → ℤ → ℕ
packed_none c y = none_number c y * 2 ^ 32

-- the same as an answer: 3 is none where the position is one that some years have
abbrev pub none_there : ℕ → ℕ → ℕ → PositionAnswer
none_there c m k = cond (eqb k 3 && eqb c 18 && eqb m 7) (record { number = 0; kind = Kind.none; days = 0 }) (no_position_answer k)

-- an Option of the rules as one of code
abbrev pub given : maybe.Option ℕ → Option ℕ
given maybe.none = None
given (maybe.some p) = Some p

-- some calendar may have year y
abbrev pub year_inside : ℤ → Bool
year_inside y = not (lt_z y (negsuc 4711) || lt_z last_year y)

-- the years from -4712 to such a year; 0 to any other
unfoldable pub years_since : ℤ → ℕ
years_since y = cond (year_inside y) (years_from (negsuc 4711) y) 0

-- what was found of year y, where P is to hold of the calendar and the years from its first, and nothing is found where there is no such year
pub record Sought {A : Type 0} (c : ℕ) (y : ℤ) (P : Calendar → ℕ → Type 0) (found : Option A) : Type 0 where
  pub off : calendar c ≡ maybe.none → found ≡ None
  pub out : OfListed c (λ K. year_out K y ≡ true → found ≡ None)
  pub there : OfListed c (λ K. year_out K y ≡ false → P K (years_from K.first_year y))

-- a day of a date that the calendar has: 17 and 5, which are tried
abbrev pub on_day : Calendar → ℕ → DayAnswer
on_day K n =
    cond (ended K n) (no_day_answer 17)
    (cond (ltb last_day n) (no_day_answer 5)
    (record { number = 0; day = n }))

-- the same as one number in two steps: 5 is tried on the day, and 17 on the day or on that 5
abbrev pub in_range : ℕ → ℕ
in_range n = cond (ltb last_day n) (5 * 2 ^ 32) n

unfoldable pub try_end : maybe.Option ℕ → ℕ → ℕ
try_end maybe.none r = r
try_end (maybe.some e) r = cond (ltb e r && (ltb r (2 ^ 32) || eqb r (5 * 2 ^ 32))) (17 * 2 ^ 32) r

unfoldable pub end_tried : ℕ → ℕ → ℕ
end_tried c r = of_listed (calendar c) r (λ K. try_end K.end r)

-- day d of a position that begins on day b and has l days
abbrev pub day_in : Calendar → ℕ → ℕ → ℕ → DayAnswer
day_in K b l d = cond (eqb d 0 || ltb l d) (no_day_answer 4) (on_day K (b + (d - 1)))

-- why a day has no date: it is too late, or after the calendar's end, or else too early
abbrev pub why_not : Calendar → ℕ → ℕ
why_not K n = cond (ltb last_day n) 5 (cond (ltb (last_of K) n) 17 5)

-- the date that is answered, as it is found: none where it is refused, with month 0
abbrev pub IsDate : DateAnswer → Option Place → Type 0
IsDate answer found =
    MatchOption found (answer.month ≡ 0)
    (λ date. (answer.month ≡ 0 → ⊥) × (date.year ≡ answer.year) × (date.month ≡ answer.month) × (date.day ≡ answer.day))
