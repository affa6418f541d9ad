-- What is shown of the Hebrew year, on one page. The definitions are those of specs/Hebrew.antt: the rules give `leap`, `months_before` and `new_year`,
-- the first day of a year as a Julian day number; `kinds` is the table of the six kinds; `lengths` gives a year the kind of its total. `years` is the calendar
-- in the sense of counting, its years counted from 0. `YearOf`, which year a day is in, is in proofs/Calendar.antt, `kind_of` in proofs/SixKinds.antt,
-- `estimate` in proofs/Estimate.antt.
use Prim.Native.Nat.{ℕ, suc, ◌+◌, ◌*◌, ◌-◌, ◌/◌, ◌≤◌, ◌<◌}
use mathlib.Core.Path.{◌≡◌, refl}
use mathlib.Core.Bool.{true, false}
use mathlib.Core.List.{[], ◌∷◌, map}
use mathlib.Core.Logic.{◌⊎◌, inl, inr}
use native.Mathlib.Omega.{arith}
use native.Mathlib.Decide.{dec_lt}
use lib.ListN.{get_or, length}
use Rattle.counting.specs.Calendar.{total, start}
use Rattle.counting.specs.InYear.{InYear}
use Rattle.hebrew.specs.Hebrew.{leap, months_before, new_year, year_days, kinds, lengths}
use Rattle.hebrew.specs.Years.{years}
use Rattle.hebrew.proofs.Gates.{Apart}
use Rattle.hebrew.proofs.Months as M
use Rattle.hebrew.proofs.Lengths as L
use Rattle.hebrew.proofs.SixKinds as K
use Rattle.hebrew.proofs.SixKinds.{kind_of}
use Rattle.hebrew.proofs.Calendar as C
use Rattle.hebrew.proofs.Calendar.{YearOf}
use Rattle.hebrew.proofs.Estimate as E
use Rattle.hebrew.proofs.Estimate.{estimate}
use Rattle.hebrew.proofs.Bounds as B
use Rattle.hebrew.proofs.Examples as X

-- ---- leap years and months

-- two leap years are never adjacent
pub apart : (y : ℕ) → leap y ≡ true → leap (suc y) ≡ false
apart = M.not_twice

-- the months before a year
pub months : (y : ℕ) → 1 ≤ y → months_before y ≡ (235 * y - 234) / 19
months = M.months_closed

-- ---- the six lengths, of every year

Three : ℕ → ℕ → Type 0
Three low n = (n ≡ low) ⊎ (n ≡ low + 1) ⊎ (n ≡ low + 2)

three : (low n n' : ℕ) → Apart low n n' → Three low (n' - n)
unfolding Three
three low n n' a = go (dec_lt (n + low) n') (dec_lt (n + low + 1) n')
  where
    go : Dec (n + low < n') → Dec (n + low + 1 < n') → (n' - n ≡ low) ⊎ (n' - n ≡ low + 1) ⊎ (n' - n ≡ low + 2)
    go (no h) j = inl (omega arith)
    go (yes h) (no j) = inr (inl (omega arith))
    go (yes h) (yes j) = inr (inr (omega arith))

pub common_year : (y : ℕ) → 1 ≤ y → leap y ≡ false → (year_days y ≡ 353) ⊎ (year_days y ≡ 354) ⊎ (year_days y ≡ 355)
unfolding Three
common_year y h e = three 353 (new_year y) (new_year (y + 1)) (L.common_length y h e)

pub leap_year : (y : ℕ) → 1 ≤ y → leap y ≡ true → (year_days y ≡ 383) ⊎ (year_days y ≡ 384) ⊎ (year_days y ≡ 385)
unfolding Three
leap_year y h e = three 383 (new_year y) (new_year (y + 1)) (L.leap_length y h e)

-- ---- the kinds

-- the totals of the table's columns, and thirteen positions in each
pub row_totals : map total kinds ≡ 353 ∷ 354 ∷ 355 ∷ 383 ∷ 384 ∷ 385 ∷ []
row_totals = K.row_totals

pub row_lengths : map length kinds ≡ 13 ∷ 13 ∷ 13 ∷ 13 ∷ 13 ∷ 13 ∷ []
row_lengths = K.row_lengths

-- a year is of the kind that its leap years and its days say, and of no other
pub kind : (y : ℕ) → 1 ≤ y → (kind_of (leap y) (year_days y) < 6) × (lengths y ≡ get_or kinds (kind_of (leap y) (year_days y)) [])
kind y h = ((K.year_kind y h).below, K.lengths_row y h)

pub kind_unique : (y k : ℕ) → 1 ≤ y → k < 6 → total (get_or kinds k []) ≡ year_days y → k ≡ kind_of (leap y) (year_days y)
kind_unique = K.kind_unique

-- ---- the calendar

-- its years are as long as from one first day to the next, so counting the days of the years reaches the first days that the rules give
pub year_total : (i : ℕ) → total (years i) ≡ year_days (i + 1)
year_total = C.year_total

pub begins : (i : ℕ) → start years i + 347998 ≡ new_year (i + 1)
begins = C.start_is

-- every year has days: with this every claim of counting holds of the calendar
pub has_days : (i : ℕ) → 1 ≤ total (years i)
has_days = C.has_days

-- ---- the year of a day

-- it is counting's, and there is one
pub year_of_lem : (day y : ℕ) → YearOf day y → InYear years (day - 347998) (y - 1)
year_of_lem = C.in_year

pub year_unique : (day y z : ℕ) → YearOf day y → YearOf day z → y ≡ z
year_unique = C.year_unique

-- it is the estimate, or the year before
pub year_found : (day : ℕ) → 347998 ≤ day → YearOf day (estimate day) ⊎ YearOf day (estimate day - 1)
year_found day h = go (dec_lt day (new_year (estimate day)))
  where
    go : Dec (day < new_year (estimate day)) → YearOf day (estimate day) ⊎ YearOf day (estimate day - 1)
    go (yes k) = inr (E.estimate_high day h k).1
    go (no k) = inl (E.estimate_right day h (omega arith))

pub estimate_is : (day : ℕ) → estimate day ≡ (day - 347970) * 98496 / 35975351 + 1
unfolding estimate
estimate_is day = refl

-- the last day, 5,373,484, is in year 13,760, and no earlier day in a later year
pub last_year_lem : YearOf 5373484 13760
last_year_lem = X.last_year_lem

pub year_le : (day y : ℕ) → 347998 ≤ day → day ≤ 5373484 → YearOf day y → y ≤ 13760
year_le = B.year_le
