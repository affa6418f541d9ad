-- Calendars 14 and 15, of the Gregorian kind.
use mathlib.Core.Path.{◌≡◌, refl, sym}
use mathlib.Core.Bool.{Bool, true, false, cond}
use Prim.Native.Nat.{ℕ, ◌+◌, ◌-◌, ◌*◌, ◌/◌, ◌≤◌, ◌<◌}
use native.Mathlib.Omega.{arith}
use lib.Dec.{eqb, ltb}
use lib.ListN.{get_or}
use borrow.Author.Tests.{ltb-false}
use Rattle.basics.specs.Every.{every}
use Rattle.basics.proofs.Cases.{cond_elim}
use Rattle.counting.specs.Calendar.{total}
use Rattle.calendar_rules.specs.Calendars.{bahai, saka}
use Rattle.months.specs.Lines.{turned_by}
use Rattle.months.specs.Leap.{years_by}
use Rattle.months.specs.BahaiSaka.{from_last, bahai_before, bahai_of, from_second, saka_before, saka_month, saka_of, saka_length}
use Rattle.months.proofs.Rows.{bahai_row, saka_row}
use Rattle.months.proofs.Dates.{by_test}
use Rattle.months.proofs.LeapLast.{Shape, tested_shape}
use Rattle.months.proofs.GregorianKind.{OfKind}

-- ---- 14

bahai_shape : Shape from_last 20 bahai_before bahai_of
unfolding total every
bahai_shape = tested_shape from_last 20 bahai_before bahai_of refl refl

pub bahai_kind : OfKind bahai from_last 20 bahai_before bahai_of 6644 1 32043
unfolding turned_by years_by
bahai_kind = record { shape = bahai_shape; small = omega arith; first = refl; turns = λ t i. sym (bahai_row i) t }

-- the length of a position
abbrev pub bahai_length : Bool → ℕ → ℕ
bahai_length t q = cond (eqb q 19) (4 + cond t 1 0) 19

bahai_lengths : (t : Bool) → every (λ q. eqb (bahai_length t q) (get_or (from_last t) q 0)) 20 ≡ true
unfolding every
bahai_lengths true = refl
bahai_lengths false = refl

pub bahai_length_lem : (t : Bool) (q : ℕ) → q < 20 → bahai_length t q ≡ get_or (from_last t) q 0
bahai_length_lem t q h = by_test (bahai_length t) (λ q. get_or (from_last t) q 0) 20 (bahai_lengths t) q h

-- what code takes away is there
pub bahai_room : (rest : ℕ) → rest < 366 → bahai_before (bahai_of rest) ≤ rest
unfolding total
bahai_room rest h = (bahai_shape.place true rest h).1

-- ---- 15

pub saka_shape : Shape from_second 12 saka_before saka_of
unfolding total every
saka_shape = tested_shape from_second 12 saka_before saka_of refl refl

pub saka_kind : OfKind saka from_second 12 saka_before saka_of 4878 11 31993
unfolding turned_by years_by
saka_kind = record { shape = saka_shape; small = omega arith; first = refl; turns = λ t i. sym (saka_row i) t }

-- position p of the calendar's year, at position q of the year so counted: its length, and the days before it
abbrev saka_place : ℕ → ℕ
saka_place p = p + 11 - 12 * cond (ltb (p + 11) 12) 0 1

saka_lengths : (t : Bool) → every (λ p. eqb (saka_length t p) (get_or (from_second t) (saka_place p) 0)) 12 ≡ true
unfolding every
saka_lengths true = refl
saka_lengths false = refl

pub saka_length_lem : (t : Bool) (p : ℕ) → p < 12 → saka_length t p ≡ get_or (from_second t) (p + 11 - 12 * cond (ltb (p + 11) 12) 0 1) 0
saka_length_lem t p h = by_test (saka_length t) (λ p. get_or (from_second t) (saka_place p) 0) 12 (saka_lengths t) p h

-- the days before it, where the first position is counted as the twelfth after itself
abbrev saka_turned : ℕ → ℕ
saka_turned p = cond (eqb p 0) 12 p

saka_befores : every (λ p. eqb (30 * saka_turned p + cond (ltb (saka_turned p) 6) (saka_turned p) 6) (saka_before (saka_place p) + 31)) 12 ≡ true
unfolding every
saka_befores = refl

pub saka_before_lem : (p : ℕ) → p < 12
    → let m = cond {A = ℕ} (eqb p 0) 12 p in 30 * m + cond (ltb m 6) m 6 ≡ saka_before (p + 11 - 12 * cond (ltb (p + 11) 12) 0 1) + 31
saka_before_lem p h =
    by_test (λ p. 30 * saka_turned p + cond (ltb (saka_turned p) 6) (saka_turned p) 6) (λ p. saka_before (saka_place p) + 31) 12 saka_befores p h

-- what code takes away is there
pub saka_from_2 : (rest : ℕ) → 2 ≤ saka_month rest
saka_from_2 rest =
    cond_elim (λ (k : ℕ). 2 ≤ k / 1024) (ltb rest 155) _ _ (λ h. omega arith) (λ h. omega (arith, ltb-false rest 155 h))

pub saka_room : (rest : ℕ) → rest < 366 → (saka_of rest < 12) × (saka_before (saka_of rest) ≤ rest)
unfolding total
saka_room rest h = let x = saka_shape.place true rest h in (x.0, x.1)
