-- The days before a year, and the year of a day, by division by constants: with no leap years, one in four, and 11 in 30. Over the positions of a year, and
-- the phase.
use mathlib.Core.Path.{◌≡◌, refl}
use mathlib.Core.Bool.{Bool, true, false, cond, not}
use mathlib.Core.List.{List}
use Prim.Native.Nat.{ℕ, ◌+◌, ◌-◌, ◌*◌, ◌/◌, ◌%◌, ◌≤◌, ◌<◌}
use native.Mathlib.Omega.{arith}
use lib.Dec.{eqb, ltb, leb}
use borrow.Author.Tests.{eqb-true, eqb-false, lt-ltb, le-ltb, leb-true, leb-false}
use Rattle.basics.proofs.Cases.{cond_elim}
use Rattle.lines.specs.Marks.{mark_at}
use Rattle.lines.proofs.Marks.{last_at, carry}
use Rattle.counting.specs.Calendar.{total, start}
use Rattle.counting.specs.InYear.{InYear}
use Rattle.counting.proofs.Starts.{even_start, year_by_mark}
use Rattle.months.specs.Leap.{years_by, Common, fourth_leap, islamic_leap_at}

-- ---- common and leap years

pub flag : (t : Bool) → cond {A = ℕ} t 1 0 ≤ 1
flag true = omega arith
flag false = omega arith

-- as a number that comes out of a division
pub by_fours : (x : ℕ) → (x % 4 + 1) / 4 ≡ cond (eqb (x % 4) 3) 1 0
by_fours x =
    cond_elim (λ (n : ℕ). (x % 4 + 1) / 4 ≡ n) (eqb (x % 4) 3) 1 0 (λ h. omega (arith, eqb-true (x % 4) 3 h)) (λ h. omega (arith, eqb-false (x % 4) 3 h))

pub none_of : (t : Bool) → eqb (cond t 1 0) 0 ≡ not t
none_of true = refl
none_of false = refl

-- and added to one
pub one_more : (t : Bool) (a : ℕ) → a + cond t 1 0 ≡ cond t (a + 1) a
one_more true a = refl
one_more false a = omega arith

module _ {days : ℕ} {positions : Bool → List ℕ} (c : Common days positions) where
  pub days_by : (t : Bool) → total (positions t) ≡ days + cond t 1 0
  days_by true = c.leap
  days_by false = omega (arith, c.common)

  pub year_days_lem : (leap : ℕ → Bool) (i : ℕ) → total (years_by positions leap i) ≡ days + cond (leap i) 1 0
  unfolding years_by
  year_days_lem leap i = days_by (leap i)

-- opposite tests
opposite : (t u : Bool) → (t ≡ true → u ≡ false) → (t ≡ false → u ≡ true) → ◌≡◌ {A = ℕ} (cond t 1 0) (cond u 0 1)
opposite true u f g = rw (f refl) refl
opposite false u f g = rw (g refl) refl

-- ---- no leap years

never : (i : ℕ) → carry 0 1 0 i ≡ 0
unfolding carry
never i = rw (lt-ltb ((0 * i + 0) % 1 + 0) 1 (omega arith)) refl

module _ (L : ℕ → List ℕ) (days : (i : ℕ) → total (L i) ≡ 365) where
  plain_mark : (i : ℕ) → start L i ≡ mark_at 365 1 0 i
  plain_mark = even_start L 365 0 1 0 (omega arith) (omega arith) (λ i. omega (arith, days i, never i))

  pub plain_start : (i : ℕ) → start L i ≡ 365 * i
  unfolding mark_at
  plain_start i = omega (arith, plain_mark i)

  pub plain_in : (n : ℕ) → InYear L n (n / 365)
  unfolding last_at
  plain_in n =
      let y : (1 * n + (1 - 1 - 0)) / 365 ≡ n / 365 = omega arith in
      rw y at (year_by_mark L 365 1 0 (omega arith) (omega arith) plain_mark n)

-- ---- one year in four

fourth_carry : (p i : ℕ) → cond (fourth_leap p i) 1 0 ≡ carry 1 4 p i
unfolding carry
fourth_carry p i =
    opposite (eqb ((i + p) % 4) 3) (ltb ((1 * i + p) % 4 + 1) 4)
    (λ h. le-ltb ((1 * i + p) % 4 + 1) 4 (omega (arith, eqb-true ((i + p) % 4) 3 h)))
    (λ h. lt-ltb ((1 * i + p) % 4 + 1) 4 (omega (arith, eqb-false ((i + p) % 4) 3 h)))

module _ (L : ℕ → List ℕ) (p : ℕ) (h : p < 4) (days : (i : ℕ) → total (L i) ≡ 365 + cond (fourth_leap p i) 1 0) where
  fourth_mark : (i : ℕ) → start L i ≡ mark_at 1461 4 p i
  fourth_mark = even_start L 365 1 4 p (omega arith) h (λ i. omega (arith, days i, fourth_carry p i))

  pub fourth_start : (i : ℕ) → start L i ≡ 365 * i + (i + p) / 4
  unfolding mark_at
  fourth_start i = omega (arith, fourth_mark i)

  pub fourth_in : (n : ℕ) → InYear L n ((4 * n + (3 - p)) / 1461)
  unfolding last_at
  fourth_in n = year_by_mark L 1461 4 p (omega arith) h fourth_mark n

-- ---- 11 years in 30

islamic_carry : (i : ℕ) → cond (islamic_leap_at i) 1 0 ≡ carry 11 30 14 i
unfolding carry
islamic_carry i =
    opposite (leb 19 ((11 * i + 14) % 30)) (ltb ((11 * i + 14) % 30 + 11) 30)
    (λ h. le-ltb ((11 * i + 14) % 30 + 11) 30 (omega (arith, leb-true 19 ((11 * i + 14) % 30) h)))
    (λ h. lt-ltb ((11 * i + 14) % 30 + 11) 30 (omega (arith, leb-false 19 ((11 * i + 14) % 30) h)))

module _ (L : ℕ → List ℕ) (days : (i : ℕ) → total (L i) ≡ 354 + cond (islamic_leap_at i) 1 0) where
  islamic_mark : (i : ℕ) → start L i ≡ mark_at 10631 30 14 i
  islamic_mark = even_start L 354 11 30 14 (omega arith) (omega arith) (λ i. omega (arith, days i, islamic_carry i))

  pub islamic_start : (i : ℕ) → start L i ≡ (10631 * i + 14) / 30
  unfolding mark_at
  islamic_start i = omega (arith, islamic_mark i)

  pub islamic_in : (n : ℕ) → InYear L n ((30 * n + 15) / 10631)
  unfolding last_at
  islamic_in n = year_by_mark L 10631 30 14 (omega arith) (omega arith) islamic_mark n
