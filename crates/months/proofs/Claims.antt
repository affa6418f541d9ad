-- What is shown of months by a line, and of the years that the Gregorian rule keeps in step, on one page. It rests on specs/Lines.antt, which names each line
-- beside its calendars (`by_lines`) and says what it is to yield a year's lengths before the last (`Yields`, by `Generates` of crate lines) and to find the
-- position of every day of every year (`Finds`, by the `quotient` of the day, held to the last position); on specs/NewYears.antt; and on the calendars' rows
-- and years (crates calendar_rules and counting).
use Prim.Native.Nat.{ℕ, ◌<◌}
use mathlib.Core.List.{List}
use lib.ListN.{length}
use Rattle.basics.specs.Every.{All}
use Rattle.lines.specs.Line.{natural, Generates}
use Rattle.counting.specs.Calendar.{total}
use Rattle.months.specs.Lines.{but_last, by_lines, Yields, Finds, quotient, InPosition}
use Rattle.months.proofs.ByLine.{by_line_lem}
use Rattle.months.proofs.Lines.{yields_all, finds_all}
use Rattle.months.specs.NewYears.{BahaiNewYear, SakaNewYear}
use Rattle.months.proofs.NewYears as N

-- each line yields the lengths before the last of each year of its calendar
pub yields : All Yields by_lines
yields = yields_all

-- for every day of such a year the quotient, held to the last position, is the day's position
pub finds : All Finds by_lines
finds = finds_all

-- and so it is for any lengths that lie on a line but for the last
pub position : {a b r : ℕ} {ls : List ℕ} → Generates (natural a b r) (but_last ls) → 0 < a → r < b → 0 < length ls → (n : ℕ) → n < total ls
    → InPosition ls n (quotient a b r (length ls) n)
position g rising low any n h = by_line_lem (record { yields = g; rising = rising; low = low; any = any }) n h

-- every Bahai year begins on 21 March of the Gregorian calendar, and every Saka year on 22 March or, where it is leap, on 21 March (specs/NewYears.antt)
pub bahai_new_year : (i : ℕ) → BahaiNewYear i
bahai_new_year = N.bahai_new_year

pub saka_new_year : (i : ℕ) → SakaNewYear i
saka_new_year = N.saka_new_year
