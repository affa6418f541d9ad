-- Leap years by a list of numbers, each of which divides the next: a year is leap where the first divides it, unless the second, unless the third, .. Their
-- count from quotients rounded up, and so the days before a year, over the list and the offset of the first year.
use mathlib.Core.Path.{◌≡◌, refl, ap}
use mathlib.Core.Bool.{Bool, true, false, cond, not, ◌&&◌}
use mathlib.Core.List.{List, [], ◌∷◌}
use Prim.Native.Nat.{ℕ, zero, suc, ◌+◌, ◌-◌, ◌*◌, ◌/◌, ◌%◌, ◌≤◌, ◌<◌, ◌∣◌}
use native.Mathlib.Nat.{dvd_trans, mod-eq-zero_of_dvd, dvd_of_mod-eq-zero, div-add-mod', div-eq_of_lt, div-eq_of_lt-le, mod-lt}
use native.Mathlib.Omega.{arith}
use lib.Dec.{eqb}
use borrow.Author.Tests.{eqb-true, eqb-false}
use Rattle.counting.specs.Calendar.{total, start}
use Rattle.basics.proofs.Cases.{both, cond_elim}
use Rattle.months.specs.Leap.{leap_by, leaps_below, days_below}

-- each number divides the next
abbrev pub Divides : ℕ → List ℕ → Type 0
Divides m [] = Unit {0}
Divides m (n ∷ ms) = m ∣ n

abbrev pub Chain : List ℕ → Type 0
Chain [] = Unit {0}
Chain (m ∷ ms) = (0 < m) × Divides m ms × Chain ms

-- ---- counting the leap years

-- a quotient rounded up grows where the number is a multiple
round_up : (m z : ℕ) → 0 < m → (suc z + (m - 1)) / m ≡ (z + (m - 1)) / m + cond (eqb (z % m) 0) 1 0
round_up m z h =
    cond_elim (λ (n : ℕ). (suc z + (m - 1)) / m ≡ (z + (m - 1)) / m + n) (eqb (z % m) 0) 1 0
    (λ e. let r = eqb-true (z % m) 0 e in
    let a : (z + (m - 1)) / m ≡ Q = div-eq_of_lt-le m (omega (arith, x)) (omega (arith, x)) in
    let b : (suc z + (m - 1)) / m ≡ Q + 1 = div-eq_of_lt-le m (omega (arith, x)) (omega (arith, x)) in
    omega arith)
    (λ e. let r = eqb-false (z % m) 0 e in
    let a : (z + (m - 1)) / m ≡ Q + 1 = div-eq_of_lt-le m (omega (arith, x, r)) (omega (arith, x, l)) in
    let b : (suc z + (m - 1)) / m ≡ Q + 1 = div-eq_of_lt-le m (omega (arith, x)) (omega (arith, x, l)) in
    omega arith)
  where
    Q : ℕ
    Q = z / m

    x : Q * m + z % m ≡ z
    x = div-add-mod' z m

    l : z % m < m
    l = mod-lt z h

-- what is leap by the rest of a list is a multiple of the first
multiple : (m : ℕ) (ms : List ℕ) → Divides m ms → (z : ℕ) → leap_by ms z ≡ true → z % m ≡ 0
unfolding leap_by
multiple m [] d z e = let w : ◌≡◌ {A = ℕ} 0 1 = cc in absurd (omega arith)
multiple m (n ∷ ms) d z e =
    mod-eq-zero_of_dvd m (dvd_trans m d (dvd_of_mod-eq-zero n (eqb-true (z % n) 0 (both (eqb (z % n) 0) (not (leap_by ms z)) e).0)))

none_yet : (ms : List ℕ) → Chain ms → leaps_below ms 0 ≡ 0
unfolding leaps_below
none_yet [] c = refl
none_yet (m ∷ ms) c = let e : (0 + (m - 1)) / m ≡ 0 = div-eq_of_lt (omega (arith, c.0)) in omega arith

pub count_step : (ms : List ℕ) → Chain ms → (z : ℕ) → leaps_below ms (suc z) ≡ leaps_below ms z + cond (leap_by ms z) 1 0
unfolding leaps_below leap_by
count_step [] c z = refl
count_step (m ∷ ms) c z = go (eqb (z % m) 0) refl (leap_by ms z) refl (round_up m z c.0) (count_step ms c.2 z) (room (count_step ms c.2) z)
  where
    -- there are not more of the rest than multiples of the first
    room : ((z : ℕ) → leaps_below ms (suc z) ≡ leaps_below ms z + cond (leap_by ms z) 1 0) → (z : ℕ) → leaps_below ms z ≤ (z + (m - 1)) / m
    room s zero = omega (arith, none_yet ms c.2)
    room s (suc z) = by (leap_by ms z) refl (eqb (z % m) 0) refl (room s z) (s z) (round_up m z c.0)
      where
        by : (u : Bool) → leap_by ms z ≡ u → (t : Bool) → eqb (z % m) 0 ≡ t → leaps_below ms z ≤ (z + (m - 1)) / m
            → leaps_below ms (suc z) ≡ leaps_below ms z + cond u 1 0 → (suc z + (m - 1)) / m ≡ (z + (m - 1)) / m + cond t 1 0
            → leaps_below ms (suc z) ≤ (suc z + (m - 1)) / m
        by false f t e r x y = omega arith
        by true f true e r x y = omega arith
        by true f false e r x y = absurd (eqb-false (z % m) 0 e (multiple m ms c.1 z f))

    go : (t : Bool) → eqb (z % m) 0 ≡ t → (u : Bool) → leap_by ms z ≡ u → (suc z + (m - 1)) / m ≡ (z + (m - 1)) / m + cond t 1 0
        → leaps_below ms (suc z) ≡ leaps_below ms z + cond u 1 0 → leaps_below ms z ≤ (z + (m - 1)) / m
        → (suc z + (m - 1)) / m - leaps_below ms (suc z) ≡ (z + (m - 1)) / m - leaps_below ms z + cond (t && not u) 1 0
    go true e true f x y r = omega arith
    go true e false f x y r = omega arith
    go false e true f x y r = absurd (eqb-false (z % m) 0 e (multiple m ms c.1 z f))
    go false e false f x y r = omega arith

pub days_step : (ms : List ℕ) → Chain ms → (z : ℕ) → days_below ms (suc z) ≡ days_below ms z + (365 + cond (leap_by ms z) 1 0)
unfolding days_below
days_step ms c z = omega (arith, count_step ms c z)

-- ---- a calendar's years, p years from a multiple of all the numbers to its first

module _ (ms : List ℕ) (chain : Chain ms) (p : ℕ) (L : ℕ → List ℕ) (days : (i : ℕ) → total (L i) ≡ 365 + cond (leap_by ms (i + p)) 1 0) where
  pub starts : (i : ℕ) → start L i + days_below ms p ≡ days_below ms (i + p)
  unfolding start
  starts zero = let e : p ≡ 0 + p = omega arith in omega (arith, ap (days_below ms) e)
  starts (suc i) =
      let e : suc i + p ≡ suc (i + p) = omega arith in
      omega (arith, starts i, days i, days_step ms chain (i + p), ap (days_below ms) e)
