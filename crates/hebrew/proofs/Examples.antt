-- First days, computed from the rules: those that docs/RULES.md gives, and those around its last day.
use mathlib.Core.Path.{◌≡◌, refl}
use native.Mathlib.Omega.{arith}
use Rattle.hebrew.specs.Hebrew.{leap, months_in, months_before, moon, moon_day, moon_hour, second_applies, third_applies, moved, fourth_applies, fourth, new_year}
use Rattle.hebrew.proofs.Calendar.{YearOf}

first_days : (new_year 1 ≡ 347998) × (new_year 5784 ≡ 2460204) × (new_year 5785 ≡ 2460587)
unfolding new_year moved fourth fourth_applies second_applies third_applies moon_day moon_hour moon months_before months_in leap
first_days = (refl, refl, refl)

-- day 5,373,484 is in year 13,760
around : (new_year 13760 ≡ 5373427) × (new_year 13761 ≡ 5373781)
unfolding new_year moved fourth fourth_applies second_applies third_applies moon_day moon_hour moon months_before months_in leap
around = (refl, refl)

pub last_year_lem : YearOf 5373484 13760
last_year_lem = record { from_1 = omega arith; begun = omega (arith, around); still = omega (arith, around) }
