-- The Hebrew calendar in the sense of counting: its years begin on the days that the rules give, and every year has days.
use Prim.Native.Nat.{ℕ, zero, suc, ◌+◌, ◌-◌, ◌≤◌, ◌<◌}
use mathlib.Core.Path.{◌≡◌, refl, sym, ap}
use native.Mathlib.Omega.{arith}
use Rattle.counting.specs.Calendar.{total, start}
use Rattle.counting.specs.InYear.{InYear}
use Rattle.counting.proofs.Counting.{one_year}
use Rattle.hebrew.specs.Hebrew.{leap, months_in, months_before, moon, moon_day, moon_hour, second_applies, third_applies, moved, fourth_applies, fourth, new_year}
use Rattle.hebrew.specs.Hebrew.{year_days}
use Rattle.hebrew.specs.Years.{years}
use Rattle.hebrew.proofs.Lengths.{grows}
use Rattle.hebrew.proofs.SixKinds.{lengths_total}

-- ---- the days before a year

pub first_year_lem : new_year 1 ≡ 347998
unfolding new_year moved fourth fourth_applies second_applies third_applies moon_day moon_hour moon months_before months_in leap
first_year_lem = refl

pub year_total : (i : ℕ) → total (years i) ≡ year_days (i + 1)
unfolding years
year_total i = lengths_total (i + 1) (omega arith)

pub start_is : (i : ℕ) → start years i + 347998 ≡ new_year (i + 1)
unfolding start
start_is zero = sym first_year_lem
start_is (suc i) =
    let e : suc i + 1 ≡ i + 1 + 1 = omega arith in
    omega (arith, start_is i, year_total i, grows (i + 1) (omega arith), ap new_year e)

pub year_days_lem : (i : ℕ) → (353 ≤ total (years i)) × (total (years i) ≤ 385)
year_days_lem i = omega (arith, year_total i, grows (i + 1) (omega arith))

-- what counting's theorems ask of a calendar
pub has_days : (i : ℕ) → 1 ≤ total (years i)
has_days i = omega (arith, year_days_lem i)

-- ---- the year of a day

-- day is in year y
pub record YearOf (day y : ℕ) : Type 0 where
  pub from_1 : 1 ≤ y
  pub begun : new_year y ≤ day
  pub still : day < new_year (y + 1)

pub in_year : (day y : ℕ) → YearOf day y → InYear years (day - 347998) (y - 1)
in_year day y h =
    let e : y - 1 + 1 ≡ y = omega (arith, h.from_1) in
    let f : suc (y - 1) + 1 ≡ y + 1 = omega (arith, h.from_1) in
    record {
      begun = omega (arith, start_is (y - 1), ap new_year e, h.begun);
      still = omega (arith, start_is (y - 1), start_is (suc (y - 1)), ap new_year e, ap new_year f, h.begun, h.still);
    }

pub year_unique : (day y z : ℕ) → YearOf day y → YearOf day z → y ≡ z
year_unique day y z a b =
    let e : y - 1 ≡ z - 1 = one_year years (day - 347998) (y - 1) (z - 1) (in_year day y a) (in_year day z b) in
    omega (arith, a.from_1, b.from_1)
