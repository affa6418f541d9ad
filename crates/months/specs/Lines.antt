-- Months by a line (docs/RULES.md, "Months by a line"): the lengths of a year before the last lie on a line, and one division gives the position of a day.
-- Positions and days of a year are counted from 0 here.
use Rattle.std.specs.Prelude.{ℕ, suc, min, ◌+◌, ◌-◌, ◌*◌, ◌/◌, ◌≤◌, ◌<◌, List, [], ◌∷◌, ◌++◌, length, take, drop}
use Rattle.lines.specs.Line.{natural, Generates}
use Rattle.counting.specs.Calendar.{total}
use Rattle.counting.specs.Answers.{Calendar, years}
use Rattle.calendar_rules.specs.Calendars.{egyptian, armenian, khwarizmian, ethiopian, coptic, republican, macedonian, syrian, julian, gregorian}
use Rattle.calendar_rules.specs.Calendars.{islamic_a, islamic_b}

-- the lengths before the last
abbrev pub but_last : List ℕ → List ℕ
but_last ls = take (length ls - 1) ls

-- the years counted from a later position: those of year i from position k on, and then the next year's before it
unfoldable pub turned_by : ℕ → (ℕ → List ℕ) → ℕ → List ℕ
turned_by k L i = drop k (L i) ++ take k (L (suc i))

-- a calendar, the position that its years are counted from, and the line a, b, r
pub record ByLine : Type 0 where
  pub calendar : Calendar
  pub from : ℕ
  pub a : ℕ
  pub b : ℕ
  pub r : ℕ

-- the lengths of a year so counted
abbrev pub lengths : ByLine → ℕ → List ℕ
lengths x i = turned_by x.from (years x.calendar) i

abbrev pub by_line : Calendar → ℕ → ℕ → ℕ → ℕ → ByLine
by_line K k a b r = record { calendar = K; from = k; a = a; b = b; r = r }

-- the lines: 30, 1, 0 and 59, 2, 1 from the first position; 153, 5, 2 from March, which is position 7, 6 or 3
abbrev pub by_lines : List ByLine
by_lines =
    by_line egyptian 0 30 1 0
    ∷ by_line armenian 0 30 1 0
    ∷ by_line khwarizmian 0 30 1 0
    ∷ by_line ethiopian 0 30 1 0
    ∷ by_line coptic 0 30 1 0
    ∷ by_line republican 0 30 1 0
    ∷ by_line macedonian 6 153 5 2
    ∷ by_line syrian 5 153 5 2
    ∷ by_line julian 2 153 5 2
    ∷ by_line gregorian 2 153 5 2
    ∷ by_line islamic_a 0 59 2 1
    ∷ by_line islamic_b 0 59 2 1
    ∷ []

-- the line yields the lengths before the last, in every year
abbrev pub Yields : ByLine → Type 0
Yields x = (i : ℕ) → Generates (natural x.a x.b x.r) (but_last (lengths x i))

-- the quotient of day n of a year with so many positions, held to the last
abbrev pub quotient : ℕ → ℕ → ℕ → ℕ → ℕ → ℕ
quotient a b r positions n = min ((b * n + (b - 1 - r)) / a) (positions - 1)

-- day n of a year is in position p
pub record InPosition (ls : List ℕ) (n p : ℕ) : Type 0 where
  pub inside : p < length ls
  pub begun : total (take p ls) ≤ n
  pub still : n < total (take (suc p) ls)

-- for every day of every year, the quotient is the day's position
abbrev pub Finds : ByLine → Type 0
Finds x = (i n : ℕ) → n < total (lengths x i) → InPosition (lengths x i) n (quotient x.a x.b x.r (length (lengths x i)) n)
