-- The day number of 22 March by division, in both calendars: 285 days before the next year begins, so that no leap day is counted.
use mathlib.Core.Path.{◌≡◌, refl, ap, ◌∙◌}
use mathlib.Core.Bool.{Bool, true, false, cond}
use Prim.Native.Nat.{ℕ, suc, ◌+◌, ◌*◌, ◌/◌}
use native.Mathlib.Omega.{arith}
use lib.IntN.{ℤ, pos}
use Rattle.counting.specs.Calendar.{total, start}
use Rattle.counting.specs.Answers.{years}
use Rattle.calendar_rules.specs.Calendars.{from_january, remainder, gregorian_leap, julian, gregorian}
use Rattle.months.specs.Leap.{Common, fourth_leap, gregorian_long}
use Rattle.months.proofs.Rows.{julian_row, gregorian_row}
use Rattle.months.proofs.Years.{days_by, fourth_start}
use Rattle.months.proofs.Gregorian.{starts}
use Rattle.computus.proofs.GoodDates.{januaries, day22_march, lengths}

january : Common 365 from_january
unfolding total
january = record { common = refl; leap = refl }

julian_days : (i : ℕ) → total (years julian i) ≡ 365 + cond (fourth_leap 3 i) 1 0
julian_days i = ap total (julian_row i) ∙ days_by january (fourth_leap 3 i)

gregorian_days : (i : ℕ) → total (years gregorian i) ≡ 365 + cond (gregorian_long (87 + i)) 1 0
gregorian_days i = ap total (gregorian_row i) ∙ days_by january (gregorian_long (87 + i))

-- the days of a year are those of February and 337 more
year_days_lem : (t : Bool) → total (from_january t) ≡ cond t 29 28 + 337
unfolding total
year_days_lem true = refl
year_days_lem false = refl

before_next_year : (first : ℕ) (leap : ℤ → Bool) (A : ℕ) → day22_march first leap A + 285 ≡ first + start (years (januaries first leap)) (suc (A + 4712))
unfolding start
before_next_year first leap A = omega (arith, year_days_lem (leap (pos A)), ap total (lengths first leap A))

pub julian_22 : (A : ℕ) → day22_march 0 (remainder 0 4) A ≡ 365 * A + A / 4 + 1721139
julian_22 A =
    let i = suc (A + 4712) in
    let q : (i + 3) / 4 ≡ A / 4 + 1179 = omega arith in
    omega (arith, before_next_year 0 (remainder 0 4) A, fourth_start (years julian) 3 (omega arith) julian_days i)

pub gregorian_22 : (A : ℕ) → day22_march 38 gregorian_leap A + A / 100 ≡ 365 * A + A / 4 + A / 100 / 4 + 1721141
gregorian_22 A =
    let i = suc (A + 4712) in
    let e : 87 + i ≡ A + 4800 = omega arith in
    let a : (A + 4800) / 4 ≡ A / 4 + 1200 = omega arith in
    let b : (A + 4800) / 100 ≡ A / 100 + 48 = omega arith in
    let d : (A / 100 + 48) / 4 ≡ A / 100 / 4 + 12 = omega arith in
    omega (arith, before_next_year 38 gregorian_leap A, rw (e, a, b, d) at (starts 87 (years gregorian) gregorian_days i))
