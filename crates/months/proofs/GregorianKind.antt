-- Calendars of the Gregorian kind, 11, 14 and 15: counted from -4800 and from a position after which the extra day is the last of a year, they are one, but for
-- the positions, the year z₀ and the position k that the first year begins at, and base, what the day numbers are less than the days counted so.
use mathlib.Core.Path.{◌≡◌, ap, subst, sym, ◌∙◌}
use mathlib.Core.Bool.{Bool, cond}
use mathlib.Core.List.{List}
use Prim.Native.Nat.{ℕ, suc, ◌+◌, ◌-◌, ◌*◌, ◌≤◌, ◌<◌}
use native.Mathlib.Omega.{arith}
use lib.Dec.{ltb}
use lib.IntN.{ℤ}
use lib.ListN.{length, take, get_or}
use Rattle.counting.specs.Calendar.{total, start}
use Rattle.counting.specs.Years.{year_at}
use Rattle.counting.specs.Answers.{Calendar, years}
use Rattle.months.specs.Lines.{turned_by}
use Rattle.months.specs.Leap.{years_by, gregorian_long, gregorian_start, GregorianDay}
use Rattle.months.specs.Turned.{DateIn}
use Rattle.months.specs.Parts.{MonthOf, DateIs}
use Rattle.months.proofs.Gregorian.{starts}
use Rattle.months.proofs.LeapLast.{Shape, year_days_lem, first_is, turned_positions, turned_at, turned_date}

pub record OfKind (K : Calendar) (positions : Bool → List ℕ) (count : ℕ) (before position : ℕ → ℕ) (z₀ k base : ℕ) : Type 0 where
  pub shape : Shape positions count before position
  pub small : k < count
  pub first : K.first_day + base ≡ gregorian_start z₀ + before k
  pub turns : turned_by k (λ i. years_by positions gregorian_long (z₀ + i)) ≡ years K

module _ {K : Calendar} {positions : Bool → List ℕ} {count : ℕ} {before position : ℕ → ℕ} {z₀ k base : ℕ}
    (x : OfKind K positions count before position z₀ k base) where
  abbrev L : ℕ → List ℕ
  L = turned_by k (λ i. years_by positions gregorian_long (z₀ + i))

  from_0 : (z : ℕ) → start (years_by positions gregorian_long) z ≡ gregorian_start z
  from_0 z =
      let e : 0 + z ≡ z = omega arith in
      let d : (i : ℕ) → total (years_by positions gregorian_long i) ≡ 365 + cond (gregorian_long (0 + i)) 1 0 =
      λ i. let f : 0 + i ≡ i = omega arith in rw f (year_days_lem x.shape gregorian_long i) in
      omega (arith, rw e at (starts 0 (years_by positions gregorian_long) d z))

  pub kind_positions : (i : ℕ) → length (years K i) ≡ count
  kind_positions i =
      ap (λ (M : ℕ → List ℕ). length (M i)) (sym x.turns) ∙ turned_positions x.shape gregorian_long gregorian_start from_0 z₀ k x.small i

  -- a position: the day that it begins on, and its length
  pub kind_at : (i p : ℕ) → p < count → let w = cond {A = ℕ} (ltb (p + k) count) 0 1 in let z = z₀ + i + w in let q = p + k - count * w in
      (K.first_day + start (years K) i + total (take p (years K i)) + base ≡ gregorian_start z + before q)
      × (get_or (years K i) p 0 ≡ get_or (positions (gregorian_long z)) q 0)
  unfolding years_by
  kind_at i p h =
      let w : ℕ = cond (ltb (p + k) count) 0 1 in
      let z : ℕ = z₀ + i + w in
      let q : ℕ = p + k - count * w in
      let a = turned_at x.shape gregorian_long gregorian_start from_0 z₀ k x.small i p h in
      subst
      (λ (M : ℕ → List ℕ). (K.first_day + start M i + total (take p (M i)) + base ≡ gregorian_start z + before q)
      × (get_or (M i) p 0 ≡ get_or (positions (gregorian_long z)) q 0))
      x.turns (omega (arith, a.0, x.first, first_is x.shape gregorian_long gregorian_start from_0 z₀ k x.small), a.1)

  pub kind_month : (i p begin days S B : ℕ) → p < count → begin ≡ S + B - base
      → let w = cond {A = ℕ} (ltb (p + k) count) 0 1 in let z = z₀ + i + w in let q = p + k - count * w in
      S ≡ gregorian_start z → B ≡ before q → days ≡ get_or (positions (gregorian_long z)) q 0 → MonthOf K i p begin days
  kind_month i p begin days S B h e es eb d = let a = kind_at i p h in record { length_is = d ∙ sym a.1; begins = λ j. omega (arith, a.0) }

  -- the date of a day, given its year and day of the year
  pub kind_date : (F : ℤ) → year_at F (suc z₀) ≡ K.first_year → (day z rest : ℕ) (y : ℤ) (m d : ℕ) → K.first_day ≤ day → GregorianDay (day + base) z rest
      → DateIn count before position F k z rest y m d → DateIs (years K) K.first_year (day - K.first_day) y m d
  kind_date F e day z rest y m d h g t =
      subst (λ (M : ℕ → List ℕ). DateIs M K.first_year (day - K.first_day) y m d) x.turns
      (turned_date x.shape gregorian_long gregorian_start from_0 z₀ k x.small K.first_year F e (day - K.first_day) z rest
      (omega (arith, g.here, x.first, first_is x.shape gregorian_long gregorian_start from_0 z₀ k x.small)) g.still y m d t)
