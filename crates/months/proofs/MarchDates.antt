-- The calendars that count from March, 8 to 11, by the formulas that code works out.
use mathlib.Core.Path.{◌≡◌, refl, sym, subst, ap, ◌∙◌}
use mathlib.Core.Bool.{Bool, true, false, cond, not, ◌&&◌, ◌||◌, true≢false}
use mathlib.Core.List.{List}
use Prim.Native.Nat.{ℕ, suc, ◌+◌, ◌-◌, ◌*◌, ◌/◌, ◌%◌, ◌^◌, ◌≤◌, ◌<◌}
use native.Mathlib.Decide.{dec_lt}
use native.Mathlib.Omega.{arith}
use lib.Dec.{eqb, ltb, leb}
use borrow.Author.Tests.{eqb-true, eqb-false, ne_eqb, leb-false, lt-ltb, le-ltb}
use lib.IntN.{ℤ, pos, negsuc}
use lib.ListN.{length, get_or}
use Rattle.basics.proofs.Cases.{cond_elim}
use Rattle.counting.specs.Years.{year_at}
use Rattle.counting.specs.Answers.{Calendar, years}
use Rattle.calendar_rules.specs.Calendars.{macedonian, syrian, julian, gregorian}
use Rattle.months.specs.Lines.{turned_by}
use Rattle.months.specs.Leap.{years_by, gregorian_long, gregorian_start, GregorianDay}
use Rattle.months.specs.March.{from_march, march_before, march_of, julian_long, julian_start, next_march, OfJulianKind, JulianDate, MarchDate, month_length}
use Rattle.months.specs.Parts.{MonthIs, MonthOf, DateIs}
use Rattle.months.proofs.Dates.{same_month}
use Rattle.months.proofs.Rows.{gregorian_row}
use Rattle.months.proofs.LeapLast.{wrapped, first_is, turned_positions, turned_date}
use Rattle.months.proofs.March.{march_shape, length_is, julian_start_lem, julian_day, turned_month, macedonian_turns, syrian_turns, julian_turns}
use Rattle.months.proofs.GregorianKind.{OfKind, kind_positions, kind_month, kind_date}

-- ---- Julian kind

pub macedonian_kind : OfJulianKind macedonian 4489 6 (negsuc 4488) 1607709
macedonian_kind =
    record { small = omega arith; room = omega arith; years_are = λ t i. macedonian_turns i t; first_year = refl; first_day = refl; counted = refl }

pub syrian_kind : OfJulianKind syrian 4489 7 (negsuc 4488) 1607739
syrian_kind = record { small = omega arith; room = omega arith; years_are = λ t i. syrian_turns i t; first_year = refl; first_day = refl; counted = refl }

pub julian_kind : OfJulianKind julian 87 10 (negsuc 4799) 0
julian_kind = record { small = omega arith; room = omega arith; years_are = λ t i. julian_turns i t; first_year = refl; first_day = refl; counted = refl }

module _ {K : Calendar} {z₀ k : ℕ} {before : ℤ} {first : ℕ} (x : OfJulianKind K z₀ k before first) where
  pub julian_positions : (i : ℕ) → length (years K i) ≡ 12
  julian_positions i =
      ap (λ (L : ℕ → List ℕ). length (L i)) (sym x.years_are) ∙ turned_positions march_shape julian_long julian_start julian_start_lem z₀ k x.small i

  pub julian_month : (i p : ℕ) → p < 12
      → let w = next_march k p in let z = z₀ + i + w in let q = p + k - 12 * w in
      MonthOf K i p (365 * z + z / 4 + (153 * q + 2) / 5 - 32082) (month_length (eqb (z % 4) 3) q)
  unfolding julian_long
  julian_month i p l =
      let w : ℕ = next_march k p in
      let z : ℕ = z₀ + i + w in
      let q : ℕ = p + k - 12 * w in
      let m = turned_month julian_long julian_start julian_start_lem z₀ k 32082 x.small x.room i p l in
      subst (λ (first : ℕ). MonthIs (years K) first i p (365 * z + z / 4 + (153 * q + 2) / 5 - 32082) (month_length (eqb (z % 4) 3) q)) x.counted (same_month x.years_are m)

  -- what code takes away is there
  pub julian_room : (i p : ℕ) → p < 12 → let w = next_march k p in 32082 ≤ julian_start (z₀ + i + w) + (153 * (p + k - 12 * w) + 2) / 5
  julian_room i p l =
      cond_elim (λ (w : ℕ). 32082 ≤ julian_start (z₀ + i + w) + (153 * (p + k - 12 * w) + 2) / 5) (ltb (p + k) 12) 0 1
      (λ h. near (z₀ + i + 0) (p + k - 12 * 0) (omega arith) (omega arith))
      (λ h. far (z₀ + i + 1) (p + k - 12 * 1) (omega arith))
    where
      far : (z q : ℕ) → z₀ < z → 32082 ≤ julian_start z + (153 * q + 2) / 5
      far z q o = omega (arith, x.room, x.small)

      near : (z q : ℕ) → z₀ ≤ z → k ≤ q → 32082 ≤ julian_start z + (153 * q + 2) / 5
      near z q o r =
          let a : z₀ / 4 ≤ z / 4 = omega arith in
          let b : (153 * k + 2) / 5 ≤ (153 * q + 2) / 5 = omega arith in
          omega (arith, x.room)

  pub julian_date : (day : ℕ) (y : ℤ) (m d : ℕ) → K.first_day ≤ day → JulianDate before k (day + 32082) y m d
      → DateIs (years K) K.first_year (day - K.first_day) y m d
  julian_date day y m d l t =
      let s = first_is march_shape julian_long julian_start julian_start_lem z₀ k x.small in
      let j = julian_day (day + 32082) in
      subst (λ (L : ℕ → List ℕ). DateIs L K.first_year (day - K.first_day) y m d) x.years_are
      (turned_date march_shape julian_long julian_start julian_start_lem z₀ k x.small K.first_year before x.first_year (day - K.first_day)
      ((4 * (day + 32082) + 3) / 1461)
      ((4 * (day + 32082) + 3) % 1461 / 4) (omega (arith, j.0, s, x.counted, x.room)) j.1 y m d t)

-- ---- Gregorian

pub gregorian_kind : OfKind gregorian from_march 12 march_before march_of 87 10 32044
unfolding turned_by years_by
gregorian_kind = record { shape = march_shape; small = omega arith; first = refl; turns = λ t i. sym (gregorian_row i) t }

pub gregorian_positions : (i : ℕ) → length (years gregorian i) ≡ 12
gregorian_positions i = kind_positions gregorian_kind i

pub gregorian_month : (i p : ℕ) → p < 12
    → let w = next_march 10 p in let z = 87 + i + w in let q = p + 10 - 12 * w in
    MonthOf gregorian i p (gregorian_start z + (153 * q + 2) / 5 - 32044) (month_length (gregorian_long z) q)
unfolding years_by
gregorian_month i p h =
    let w : ℕ = next_march 10 p in
    kind_month gregorian_kind i p _ _ _ _ h refl refl refl (length_is gregorian_long (87 + i + w) (p + 10 - 12 * w) (wrapped 12 p 10 h (omega arith)).1)

pub gregorian_date : (day z rest : ℕ) (y : ℤ) (m d : ℕ) → 38 ≤ day → GregorianDay (day + 32044) z rest → MarchDate (negsuc 4799) 10 z rest y m d
    → DateIs (years gregorian) (negsuc 4711) (day - 38) y m d
gregorian_date = kind_date gregorian_kind (negsuc 4799) refl

-- 29 February and the other days
module _ (q d : ℕ) (t : Bool) where
  -- a day of a month, however February is
  pub has_day : (d ≡ 0 → ⊥) → d ≤ cond (eqb q 11) 28 (30 + 1717 / 2 ^ q % 2) → (eqb d 0 || ltb (month_length t q) d) ≡ false
  has_day n h = rw (ne_eqb d 0 n) (go (eqb q 11) t h)
    where
      go : (a t : Bool) → d ≤ cond a 28 (30 + 1717 / 2 ^ q % 2) → ltb (cond a (cond t 29 28) (30 + 1717 / 2 ^ q % 2)) d ≡ false
      go true true h = le-ltb 29 d (omega arith)
      go true false h = le-ltb 28 d h
      go false t h = le-ltb (30 + 1717 / 2 ^ q % 2) d h

  -- one that is none, and is no 29 February
  pub lacks_day : (not (eqb d 0) && leb d (cond (eqb q 11) 28 (30 + 1717 / 2 ^ q % 2))) ≡ false → (not (eqb q 11) || not (eqb d 29)) ≡ true
      → (eqb d 0 || ltb (month_length t q) d) ≡ true
  lacks_day h k = go (eqb d 0) refl (eqb q 11) t (eqb d 29) refl h k
    where
      go : (z : Bool) → eqb d 0 ≡ z → (a t b : Bool) → eqb d 29 ≡ b → (not z && leb d (cond a 28 (30 + 1717 / 2 ^ q % 2))) ≡ false → (not a || not b) ≡ true
          → (z || ltb (cond a (cond t 29 28) (30 + 1717 / 2 ^ q % 2)) d) ≡ true
      go true e a t b f h k = refl
      go false e true t true f h k = absurd (true≢false (sym k))
      go false e true true false f h k = lt-ltb 29 d (omega (arith, leb-false d 28 h, eqb-false d 29 f))
      go false e true false false f h k = lt-ltb 28 d (omega (arith, leb-false d 28 h))
      go false e false t b f h k = lt-ltb (30 + 1717 / 2 ^ q % 2) d (omega (arith, leb-false d (30 + 1717 / 2 ^ q % 2) h))

  -- a 29 February
  pub leap_day : (not (eqb q 11) || not (eqb d 29)) ≡ false → (eqb d 0 || ltb (month_length t q) d) ≡ not t
  leap_day k = go (eqb q 11) t (eqb d 29) refl k
    where
      go : (a t b : Bool) → eqb d 29 ≡ b → (not a || not b) ≡ false → (eqb d 0 || ltb (cond a (cond t 29 28) (30 + 1717 / 2 ^ q % 2)) d) ≡ not t
      go true true true f k = let e = eqb-true d 29 f in rw e refl
      go true false true f k = let e = eqb-true d 29 f in rw e refl
      go true t false f k = absurd (true≢false k)
      go false t b f k = absurd (true≢false k)

pub length_small : (t : Bool) (q : ℕ) → (1 ≤ month_length t q) × (month_length t q ≤ 31)
length_small t q = go (eqb q 11) t
  where
    go : (a t : Bool) → (1 ≤ cond a (cond t 29 28) (30 + 1717 / 2 ^ q % 2)) × (cond a (cond t 29 28) (30 + 1717 / 2 ^ q % 2) ≤ 31)
    go true true = omega arith
    go true false = omega arith
    go false t = omega arith

pub gregorian_has : (i p : ℕ) → p < 12 → 1 ≤ get_or (years gregorian i) p 0
gregorian_has i p h =
    let w : ℕ = next_march 10 p in
    omega (arith, (gregorian_month i p h).length_is, length_small (gregorian_long (87 + i + w)) (p + 10 - 12 * w))

-- and those before a year, by one division
pub years_by_4 : (z : ℕ) → 1461 * z / 4 ≡ 365 * z + z / 4
years_by_4 z = omega arith
