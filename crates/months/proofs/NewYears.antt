-- The years of calendars 14 and 15 begin in March: each new year, and 1 March, by the days before a year of the Gregorian kind.
use mathlib.Core.Path.{◌≡◌}
use mathlib.Core.Bool.{Bool, true, false, cond}
use Prim.Native.Nat.{ℕ, suc, ◌+◌}
use native.Mathlib.Omega.{arith}
use Rattle.counting.specs.Calendar.{total, day_of}
use Rattle.months.specs.Leap.{gregorian_long, gregorian_start}
use Rattle.months.specs.NewYears.{day_in, BahaiNewYear, SakaNewYear}
use Rattle.calendar_rules.specs.Calendars.{gregorian, saka}
use Rattle.months.proofs.Gregorian.{next_start}
use Rattle.months.proofs.Rows.{from_year_1}
use Rattle.months.proofs.GregorianKind.{kind_at}
use Rattle.months.proofs.BahaiSaka.{bahai_kind, saka_kind}
use Rattle.months.proofs.MarchDates.{gregorian_kind}

-- a day of March, counted from 0, in the Gregorian year i years after the first: z is the year from March that begins there
march : (i z d : ℕ) → 88 + i ≡ z → day_in gregorian i 3 (suc d) + 32044 ≡ gregorian_start z + d
unfolding day_of
march i z d e =
    let f : 87 + i + 1 ≡ z = omega arith in
    let a = rw f at (kind_at gregorian_kind i 2 (omega arith)).0 in
    omega arith

pub bahai_new_year : (i : ℕ) → BahaiNewYear i
unfolding day_of total
bahai_new_year i =
    let e : 6644 + i + 0 ≡ 6644 + i = omega arith in
    let a = rw e at (kind_at bahai_kind i 0 (omega arith)).0 in
    omega (arith, a, march (i + 6556) (6644 + i) 20 (omega arith))

pub saka_new_year : (i : ℕ) → SakaNewYear i
unfolding day_of total
saka_new_year i =
    let e : 4878 + i + 0 ≡ 4878 + i = omega arith in
    let a = rw e at (kind_at saka_kind i 0 (omega arith)).0 in
    rw (from_year_1 78 i) (go (gregorian_long (4878 + i)) (next_start (4878 + i)) (omega (arith, a)))
  where
    go : (t : Bool) → gregorian_start (suc (4878 + i)) ≡ gregorian_start (4878 + i) + (365 + cond t 1 0) → day_in saka i 1 1 + 31993 ≡ gregorian_start (4878 + i) + 335
        → day_in saka i 1 1 ≡ day_in gregorian (i + 4791) 3 (cond t 21 22)
    go true n a = omega (arith, n, a, march (i + 4791) (suc (4878 + i)) 20 (omega arith))
    go false n a = omega (arith, n, a, march (i + 4791) (suc (4878 + i)) 21 (omega arith))
