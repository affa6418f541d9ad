-- The Gregorian kind: a year in four, unless in a hundred, unless in four hundred. Years are counted from -4800, which is divisible by 400, so that the extra
-- day of year z falls in the Gregorian year z + 1: the days before a year from three quotients, over the offset p of the first year, and the year of a day.
use mathlib.Core.Path.{◌≡◌, refl}
use mathlib.Core.Bool.{Bool, true, false, cond, not, ◌&&◌, ◌||◌}
use mathlib.Core.List.{List}
use Prim.Native.Nat.{ℕ, zero, suc, ◌+◌, ◌-◌, ◌*◌, ◌/◌, ◌%◌, ◌≤◌, ◌<◌}
use native.Mathlib.Decide.{dec_lt}
use native.Mathlib.Nat.{dvd-mul_right}
use native.Mathlib.Omega.{arith}
use lib.Dec.{eqb}
use borrow.Author.Tests.{eqb-true, eqb-false, eq-eqb, ne_eqb}
use Rattle.counting.specs.Calendar.{total, start}
use Rattle.months.specs.Leap.{leap_by, leaps_below, days_below, centuries, gregorian_long, gregorian_start, GregorianDay}
use Rattle.months.proofs.Years.{flag}
use Rattle.months.proofs.LeapBy as B

chain : B.Chain centuries
chain = (omega arith, dvd-mul_right 4 25, (omega arith, dvd-mul_right 100 4, (omega arith, tt, tt)))

-- ---- the test in the rules' words. What is divisible by 400 is divisible by 4

pub in_words : (z : ℕ) → ((eqb (suc z % 4) 0 && not (eqb (suc z % 100) 0)) || eqb (suc z % 400) 0) ≡ gregorian_long z
unfolding leap_by gregorian_long
in_words z = go (eqb (suc z % 4) 0) (eqb (suc z % 100) 0) (eqb (suc z % 400) 0) refl refl
  where
    go : (a b d : Bool) → eqb (suc z % 4) 0 ≡ a → eqb (suc z % 400) 0 ≡ d → ((a && not b) || d) ≡ (a && not (b && not (d && true)))
    go true true true e g = refl
    go true true false e g = refl
    go true false d e g = refl
    go false b true e g = absurd (omega (arith, eqb-false (suc z % 4) 0 e, eqb-true (suc z % 400) 0 g))
    go false b false e g = refl

-- as a number that code works out, where a century is looked at by itself
as_number : (t : Bool) (n : ℕ) → (t ≡ true → n ≡ 1) → (t ≡ false → n ≡ 0) → n ≡ cond t 1 0
as_number true n f g = f refl
as_number false n f g = g refl

module _ (z n : ℕ) where
  pub long_century : z % 100 ≡ 99 → (suc z % 400 ≡ 0 → n ≡ 1) → ((suc z % 400 ≡ 0 → ⊥) → n ≡ 0) → n ≡ cond (gregorian_long z) 1 0
  long_century h f g =
      rw (← in_words z, eq-eqb (suc z % 4) 0 (omega arith), eq-eqb (suc z % 100) 0 (omega arith))
      (as_number (eqb (suc z % 400) 0) n (λ e. f (eqb-true (suc z % 400) 0 e)) (λ e. g (eqb-false (suc z % 400) 0 e)))

  pub long_usual : (z % 100 ≡ 99 → ⊥) → (suc z % 4 ≡ 0 → n ≡ 1) → ((suc z % 4 ≡ 0 → ⊥) → n ≡ 0) → n ≡ cond (gregorian_long z) 1 0
  long_usual h f g =
      rw (← in_words z, ne_eqb (suc z % 100) 0 (λ e. h (omega arith)), ne_eqb (suc z % 400) 0 (λ e. h (omega arith)))
      (usual (eqb (suc z % 4) 0) (λ e. f (eqb-true (suc z % 4) 0 e)) (λ e. g (eqb-false (suc z % 4) 0 e)))
    where
      usual : (t : Bool) → (t ≡ true → n ≡ 1) → (t ≡ false → n ≡ 0) → n ≡ cond ((t && true) || false) 1 0
      usual true f g = f refl
      usual false f g = g refl

-- ---- the days before a year

-- January 1 of -4800 was 366 days before
from_january_lem : (z : ℕ) → days_below centuries (suc z) ≡ gregorian_start z + 366
unfolding days_below leaps_below
from_january_lem z =
    sums z (z / 4) (z / 100) (z / 100 / 4) ((suc z + 3) / 4) ((suc z + 99) / 100) ((suc z + 399) / 400) (omega arith) (omega arith) (omega arith)
    (omega arith) (omega arith) (omega arith)
  where
    sums : (z a b d a' b' d' : ℕ) → a' ≡ a + 1 → b' ≡ b + 1 → d' ≡ d + 1 → b ≤ z → b ≤ a → d ≤ b
        → 365 * suc z + (a' - (b' - (d' - 0))) ≡ 365 * z + a - b + d + 366
    sums z a b d a' b' d' i j k l m o = omega arith

pub next_start : (z : ℕ) → gregorian_start (suc z) ≡ gregorian_start z + (365 + cond (gregorian_long z) 1 0)
unfolding gregorian_long
next_start z = omega (arith, B.days_step centuries chain (suc z), from_january_lem z, from_january_lem (suc z))

module _ (p : ℕ) (L : ℕ → List ℕ) (days : (i : ℕ) → total (L i) ≡ 365 + cond (gregorian_long (p + i)) 1 0) where
  pub starts : (i : ℕ) → start L i + gregorian_start p ≡ gregorian_start (p + i)
  unfolding start
  starts zero = let e : p + 0 ≡ p = omega arith in rw e (omega arith)
  starts (suc i) =
      let e : p + suc i ≡ suc (p + i) = omega arith in
      rw e (omega (arith, starts i, days i, next_start (p + i)))

-- ---- the year of a day: c the century, q the days that there would be with every fourth year leap

module _
    (n c q z rest : ℕ) (c-from : 146097 * c ≤ 4 * n + 3) (c-below : 4 * n + 3 < 146097 * c + 146097) (q-is : q ≡ n + c - c / 4)
    (z-from : 1461 * z ≤ 4 * q + 3) (z-below : 4 * q + 3 < 1461 * z + 1461) (rest-is : rest ≡ (4 * q + 3 - 1461 * z) / 4) where
  in_century : (100 * c ≤ z) × (z < 100 * c + 100)
  in_century = omega arith

  century : z / 100 ≡ c
  century = omega (arith, in_century)

  here : gregorian_start z + rest ≡ n
  here =
      let s : 365 * z + z / 4 + rest ≡ q = omega arith in
      rw century (sums (365 * z + z / 4) c rest n (c / 4) q (omega (arith, in_century)) s q-is (omega arith))
    where
      sums : (s a r n d q : ℕ) → a ≤ s → s + r ≡ q → q ≡ n + a - d → d ≤ a → s - a + d + r ≡ n
      sums s a r n d q h e f g = omega arith

  -- the next year begins later: it is one of the century, or the first of the next
  later : Dec (suc z < 100 * c + 100) → n < gregorian_start (suc z)
  later (yes h) = let g : suc z / 100 ≡ c = omega (arith, in_century) in rw g (omega arith)
  later (no h) =
      let e : suc z ≡ 100 * suc c = omega (arith, in_century) in
      let a : suc z / 100 ≡ suc c = omega arith in
      let b : suc z / 4 ≡ 25 * suc c = omega arith in
      rw (a, b) (omega arith)

  pub year_of_lem : GregorianDay n z rest
  year_of_lem = record { here = here; still = omega (arith, here, later (dec_lt (suc z) (100 * c + 100)), next_start z) }

-- both are small
pub year_small : {n z rest : ℕ} → GregorianDay n z rest → (365 * z ≤ n) × (rest ≤ 365)
year_small {n} {z} {rest} g = (omega (arith, g.here), omega (arith, g.still, flag (gregorian_long z)))
