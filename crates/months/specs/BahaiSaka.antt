-- For code: the Bahai year counted from its last position, and the Saka year from its second, where the extra day is the last. Nobody has to believe this page.
use Rattle.std.specs.Prelude.{Bool, cond, List, [], ◌∷◌, ◌++◌, ℕ, ◌+◌, ◌-◌, ◌*◌, ◌/◌, eqb, ltb, replicate}
use Rattle.calendar_rules.specs.Calendars.{◌or◌}

-- 19 of 19, then 4 or 5
abbrev pub from_last : Bool → List ℕ
from_last leap = replicate 19 19 ++ (4 or 5) leap ∷ []

abbrev pub bahai_before : ℕ → ℕ
bahai_before q = 19 * q

-- the position of a day, without division
abbrev pub bahai_of : ℕ → ℕ
bahai_of rest = 27 * rest / 512

-- 5 of 31, 6 of 30, then 30 or 31
abbrev pub from_second : Bool → List ℕ
from_second leap = replicate 5 31 ++ replicate 6 30 ++ (30 or 31) leap ∷ []

abbrev pub saka_before : ℕ → ℕ
saka_before q = 30 * q + cond (ltb q 5) q 5

-- the month of a day, from 2 to 13, without division
abbrev pub saka_month : ℕ → ℕ
saka_month rest = cond (ltb rest 155) (33 * rest + 2052) (34 * rest + 1922) / 1024

abbrev pub saka_of : ℕ → ℕ
saka_of rest = saka_month rest - 2

-- the length of position p of the calendar's year, by the year that it is counted in
abbrev pub saka_length : Bool → ℕ → ℕ
saka_length t p = cond (eqb p 0) (30 + cond t 1 0) (cond (ltb p 6) 31 30)
