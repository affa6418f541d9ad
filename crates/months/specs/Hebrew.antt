-- For code: the Hebrew year, its first day, whether it is leap as a number, and its kind; and the days before a month from a word of its kind. Nobody has to
-- believe this page.
use Rattle.std.specs.Prelude.{◌≡◌, cond, leb, ltb, List, [], ◌∷◌, ℕ, ◌+◌, ◌-◌, ◌*◌, ◌/◌, ◌%◌, ◌^◌, ◌<◌, get_or}
use Rattle.hebrew.specs.Hebrew.{leap, new_year, year_days}
use Rattle.hebrew.proofs.SixKinds.{kind_of}

pub record HebrewYear (y begin l kind : ℕ) : Type 0 where
  pub begins : begin ≡ new_year y
  pub leap_is : l ≡ cond (leap y) 1 0
  pub kind_is : kind ≡ kind_of (leap y) (year_days y)
  pub below : kind < 6

-- by how much the days before a month are less than 30 each, four bits a month, for the six kinds
abbrev pub short_words : List ℕ
short_words = 2082841239429376 ∷ 1782601264271616 ∷ 1482361289113600 ∷ 33325459830939904 ∷ 28521620228411648 ∷ 23717780625883136 ∷ []

abbrev pub short : ℕ → ℕ
short kind = get_or short_words kind 0

-- the days before month q, counted from 0, where the place that is no month in a common year is not counted
abbrev pub month_before : ℕ → ℕ → ℕ
month_before kind q = 30 * q - short kind / 2 ^ (4 * q) % 16

-- the month of a position: the place that is no month in a common year is not counted
abbrev pub month_of : ℕ → ℕ → ℕ
month_of l p = cond (ltb 6 p) (p + l - 1) p

-- ---- the gates: m is the year's new moon 6 hours on, in parts from the beginning of day 347998, a Monday; a week has 181,440 parts

-- 13 more than the months before year y
abbrev pub months_to : ℕ → ℕ
months_to y = (235 * y + 13) / 19

-- one day past the gate a, and two past each of b, c and d
abbrev pub past_gates : ℕ → ℕ → ℕ → ℕ → ℕ → ℕ
past_gates moon a b c d = cond (leb a moon) 1 0 + 2 * (cond (leb b moon) 1 0 + cond (leb c moon) 1 0 + cond (leb d moon) 1 0)

-- the days from Monday to the year's first day, where it is no longer Monday from a on and no longer Tuesday from b on
abbrev pub gate_days : ℕ → ℕ → ℕ → ℕ
gate_days rest a b = past_gates rest a b 103680 155520

-- the next year's new moon, counted from the Monday 50 or 54 weeks on: the days from that week's Saturday to its first day
abbrev pub next_days : ℕ → ℕ → ℕ → ℕ
next_days far a b = past_gates far a 155520 b 285120
