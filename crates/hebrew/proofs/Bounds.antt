-- How large the numbers get, for code in 64 bits: a new moon in closed form, no new year before the first, and no year above 13,760 in days to 5,373,484.
use Prim.Native.Nat.{ℕ, ◌+◌, ◌*◌, ◌-◌, ◌/◌, ◌≤◌, ◌<◌}
use mathlib.Core.Path.{◌≡◌, ap}
use native.Mathlib.Omega.{arith}
use native.Mathlib.Decide.{dec_lt}
use Rattle.hebrew.specs.Hebrew.{moon, new_year}
use Rattle.hebrew.proofs.Calendar.{YearOf}
use Rattle.hebrew.proofs.Months.{months_closed}
use Rattle.hebrew.proofs.Calendar.{year_unique}
use Rattle.hebrew.proofs.Estimate.{estimate, estimate_right, estimate_high}

pub moon_closed : (y : ℕ) → 1 ≤ y → moon y ≡ 5604 + (235 * y - 234) / 19 * 765433
unfolding moon
moon_closed y h = ap (λ (m : ℕ). 5604 + m * 765433) (months_closed y h)

-- the year of the last day, and the estimate there, are 13,760
estimate_le : (day : ℕ) → day ≤ 5373484 → estimate day ≤ 13760
unfolding estimate
estimate_le day h = omega arith

pub year_le : (day y : ℕ) → 347998 ≤ day → day ≤ 5373484 → YearOf day y → y ≤ 13760
year_le day y a b h = go (dec_lt day (new_year (estimate day)))
  where
    go : Dec (day < new_year (estimate day)) → y ≤ 13760
    go (yes k) = omega (arith, year_unique day y (estimate day - 1) h (estimate_high day a k).1, estimate_le day b)
    go (no k) = omega (arith, year_unique day y (estimate day) h (estimate_right day a (omega arith)), estimate_le day b)
