-- The year of a day by one division and one correction. Years are 35975351/98496 days long in the mean, and every year begins within some days of that.
use Prim.Native.Nat.{ℕ, suc, ◌+◌, ◌*◌, ◌-◌, ◌/◌, ◌≤◌, ◌<◌}
use mathlib.Core.Path.{◌≡◌, ap}
use native.Mathlib.Omega.{arith}
use native.Mathlib.Decide.{dec_lt}
use Rattle.hebrew.specs.Hebrew.{leap, moon, new_year}
use Rattle.hebrew.proofs.Calendar.{YearOf}
use Rattle.hebrew.proofs.Months.{months_suc}
use Rattle.hebrew.proofs.Gates.{near}
use Rattle.hebrew.proofs.Rules.{monday_le, tuesday_le}
use Rattle.hebrew.proofs.Lengths.{moment, begins}
use Rattle.hebrew.proofs.Calendar.{first_year_lem}

-- year n + 1 begins at most 27 days before, and 4 after, n mean years from day 347998
pub mean : (n : ℕ) → (35975351 * n + 98496 * 347971 ≤ 98496 * new_year (suc n)) × (98496 * new_year (suc n) ≤ 35975351 * n + 98496 * 348002)
unfolding moment moon
mean n =
    let c = leap (suc n) in
    let p = leap (suc n - 1) in
    omega (arith, near (monday_le c p) (tuesday_le c p) (begins (suc n)), months_suc n)

-- the estimate: the year of the day, or one too high
unfoldable pub estimate : ℕ → ℕ
estimate day = (day - 347970) * 98496 / 35975351 + 1

from_1 : (day : ℕ) → 1 ≤ estimate day
unfolding estimate
from_1 day = omega arith

not_low : (day : ℕ) → 347998 ≤ day → day < new_year (estimate day + 1)
unfolding estimate
not_low day h =
    let n : ℕ = (day - 347970) * 98496 / 35975351 in
    let q : estimate day + 1 ≡ suc (suc n) = omega arith in
    rw q (omega (arith, mean (suc n)))

not_high : (day : ℕ) → 347998 ≤ day → 2 ≤ estimate day → new_year (estimate day - 1) ≤ day
unfolding estimate
not_high day h k =
    let n : ℕ = (day - 347970) * 98496 / 35975351 in
    let q : estimate day - 1 ≡ suc (n - 1) = omega arith in
    rw q (omega (arith, mean (n - 1)))

-- the estimate is right where its year has begun
pub estimate_right : (day : ℕ) → 347998 ≤ day → new_year (estimate day) ≤ day → YearOf day (estimate day)
estimate_right day h k = record { from_1 = from_1 day; begun = k; still = not_low day h }

-- and one too high where not
pub estimate_high : (day : ℕ) → 347998 ≤ day → day < new_year (estimate day) → (2 ≤ estimate day) × YearOf day (estimate day - 1)
estimate_high day h k =
    let two : 2 ≤ estimate day = go (dec_lt 1 (estimate day)) in
    let q : estimate day - 1 + 1 ≡ estimate day = omega arith in
    (two, record { from_1 = omega arith; begun = not_high day h two; still = rw q k })
  where
    go : Dec (1 < estimate day) → 2 ≤ estimate day
    go (yes a) = a
    go (no a) = let q : estimate day ≡ 1 = omega (arith, from_1 day) in absurd (omega (arith, ap new_year q, first_year_lem))
