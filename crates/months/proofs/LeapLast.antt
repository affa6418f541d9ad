-- Years whose extra day is the last, over their positions and any rule of leap years, and the calendars whose years begin at position k of them, the first in
-- year z₀: the days before a position, and the date of a day.
use mathlib.Core.Path.{◌≡◌, refl, sym, ap, ◌∙◌}
use mathlib.Core.Bool.{Bool, true, false, cond, ◌&&◌}
use mathlib.Core.List.{List}
use Prim.Native.Nat.{ℕ, suc, ◌+◌, ◌-◌, ◌*◌, ◌≤◌, ◌<◌}
use native.Mathlib.Decide.{dec_lt}
use native.Mathlib.Omega.{arith}
use lib.Dec.{eqb, leb, ltb}
use lib.IntN.{ℤ, pos, ◌+ℤ◌, +ℤ_assoc}
use lib.ListN.{length, take, get_or}
use borrow.Author.Tests.{eqb-true, leb-true, ltb-true, ltb-false}
use Rattle.basics.specs.Every.{every}
use Rattle.basics.proofs.Cases.{both, cond_elim}
use Rattle.basics.proofs.Every.{every_at}
use Rattle.counting.specs.Calendar.{total, start}
use Rattle.counting.specs.Years.{year_at}
use Rattle.months.specs.Lines.{turned_by}
use Rattle.months.specs.Leap.{years_by}
use Rattle.months.specs.Turned.{DateIn}
use Rattle.months.specs.Parts.{DateIs}
use Rattle.months.proofs.Dates.{date_parts, by_test}
use Rattle.months.proofs.Turned as T

-- so many positions, with so many days before each, and the position of each day
pub record Shape (positions : Bool → List ℕ) (count : ℕ) (before position : ℕ → ℕ) : Type 0 where
  pub counted : (t : Bool) → length (positions t) ≡ count
  pub days : (t : Bool) → total (positions t) ≡ 365 + cond t 1 0
  pub before_is : (t : Bool) (q : ℕ) → q < count → total (take q (positions t)) ≡ before q
  pub place : (t : Bool) (rest : ℕ) → rest < total (positions t)
      → let q = position rest in (q < count) × (before q ≤ rest) × (rest - before q < get_or (positions t) q 0)

-- ---- tested at each position and each day

abbrev pub placed : List ℕ → ℕ → (ℕ → ℕ) → ℕ → ℕ → Bool
placed ls count before q rest = ltb q count && (leb (before q) rest && ltb (rest - before q) (get_or ls q 0))

-- the days before each position
abbrev pub before_each : List ℕ → ℕ → (ℕ → ℕ) → Bool
before_each ls count before = every (λ q. eqb (total (take q ls)) (before q)) count

-- the position of each day
abbrev pub placed_each : List ℕ → ℕ → ℕ → (ℕ → ℕ) → (ℕ → ℕ) → Bool
placed_each ls days count before position = every (λ r. placed ls count before (position r) r) days

abbrev pub fits : List ℕ → ℕ → ℕ → (ℕ → ℕ) → (ℕ → ℕ) → Bool
fits ls days count before position =
    (eqb (length ls) count && eqb (total ls) days) && (before_each ls count before && placed_each ls days count before position)

module _ (positions : Bool → List ℕ) (count : ℕ) (before position : ℕ → ℕ) where
  pub tested_shape : fits (positions true) 366 count before position ≡ true → fits (positions false) 365 count before position ≡ true
      → Shape positions count before position
  tested_shape long short = record {
    counted = λ t. eqb-true (length (positions t)) count (sums t).0;
    days = λ t. days t;
    before_is = λ t q h. by_test (λ q. total (take q (positions t))) before count (each t).0 q h;
    place = λ t rest h. place t rest
        (every_at (λ r. placed (positions t) count before (position r) r) (365 + cond t 1 0) (each t).1 rest (omega (arith, days t)));
  }
    where
      tested : (t : Bool) → fits (positions t) (365 + cond t 1 0) count before position ≡ true
      tested true = long
      tested false = short

      sums : (t : Bool) → (eqb (length (positions t)) count ≡ true) × (eqb (total (positions t)) (365 + cond t 1 0) ≡ true)
      sums t =
          both (eqb (length (positions t)) count) (eqb (total (positions t)) (365 + cond t 1 0))
          (both (eqb (length (positions t)) count && eqb (total (positions t)) (365 + cond t 1 0))
          (before_each (positions t) count before && placed_each (positions t) (365 + cond t 1 0) count before position) (tested t)).0

      each : (t : Bool) → (before_each (positions t) count before ≡ true) × (placed_each (positions t) (365 + cond t 1 0) count before position ≡ true)
      each t =
          both (before_each (positions t) count before) (placed_each (positions t) (365 + cond t 1 0) count before position)
          (both (eqb (length (positions t)) count && eqb (total (positions t)) (365 + cond t 1 0))
          (before_each (positions t) count before && placed_each (positions t) (365 + cond t 1 0) count before position) (tested t)).1

      days : (t : Bool) → total (positions t) ≡ 365 + cond t 1 0
      days t = eqb-true (total (positions t)) (365 + cond t 1 0) (sums t).1

      place : (t : Bool) (rest : ℕ) → let q = position rest in placed (positions t) count before q rest ≡ true
          → (q < count) × (before q ≤ rest) × (rest - before q < get_or (positions t) q 0)
      place t rest h =
          let q : ℕ = position rest in
          let x = both (ltb q count) (leb (before q) rest && ltb (rest - before q) (get_or (positions t) q 0)) h in
          let y = both (leb (before q) rest) (ltb (rest - before q) (get_or (positions t) q 0)) x.1 in
          (ltb-true q count x.0, leb-true (before q) rest y.0, ltb-true (rest - before q) (get_or (positions t) q 0) y.1)

-- ---- the date of a day as code has it: q is the position, and t tells whether that is at the turn or after

pub date_in : (count : ℕ) (before position : ℕ → ℕ) (F : ℤ) (turn z rest q : ℕ) (t : Bool) (a b : ℕ) (y : ℤ) (m d : ℕ) → q ≡ position rest
    → (t ≡ true → (turn ≤ q) × (a ≡ q + 1 - turn)) → (t ≡ false → (q < turn) × (b ≡ q + (count + 1) - turn))
    → y ≡ year_at F (z + cond t 1 0) → m ≡ cond t a b → d ≡ rest - before q + 1 → DateIn count before position F turn z rest y m d
date_in count before position F turn z rest q true a b y m d e l s ey em ed =
    let x = l refl in
    let g = ed ∙ ap (λ (k : ℕ). rest - before k + 1) e in
    record { late = λ h. (ey, omega (arith, x)); soon = λ h. absurd (omega (arith, x)); day = g }
date_in count before position F turn z rest q false a b y m d e l s ey em ed =
    let x = s refl in
    let f : z + 0 ≡ z = omega arith in
    let g = ed ∙ ap (λ (k : ℕ). rest - before k + 1) e in
    record { late = λ h. absurd (omega (arith, x)); soon = λ h. (rw f at ey, omega (arith, x)); day = g }

-- ---- the calendars

-- a position after the turn is one of the next year
pub wrapped : (count p k : ℕ) → p < count → k < count
    → let w = cond {A = ℕ} (ltb (p + k) count) 0 1 in (count * w ≤ p + k) × (p + k - count * w < count)
wrapped count p k h l =
    cond_elim (λ (w : ℕ). (count * w ≤ p + k) × (p + k - count * w < count)) (ltb (p + k) count) 0 1 (λ e. omega (arith, ltb-true (p + k) count e))
    (λ e. omega (arith, ltb-false (p + k) count e))

module _ {positions : Bool → List ℕ} {count : ℕ} {before position : ℕ → ℕ} (s : Shape positions count before position) (leap : ℕ → Bool) where
  abbrev M : ℕ → List ℕ
  M = years_by positions leap

  pub year_days_lem : (z : ℕ) → total (M z) ≡ 365 + cond (leap z) 1 0
  unfolding years_by
  year_days_lem z = s.days (leap z)

  counts : (z : ℕ) → length (M z) ≡ count
  unfolding years_by
  counts z = s.counted (leap z)

  days_before : (z q : ℕ) → q < count → total (take q (M z)) ≡ before q
  unfolding years_by
  days_before z q h = s.before_is (leap z) q h

  placed_in : (z rest : ℕ) → rest < total (M z) → let q = position rest in (q < count) × (before q ≤ rest) × (rest - before q < get_or (M z) q 0)
  unfolding years_by
  placed_in z rest h = s.place (leap z) rest h

  module _ (f : ℕ → ℕ) (starts : (z : ℕ) → start (years_by positions leap) z ≡ f z) (z₀ k : ℕ) (small : k < count) where
    abbrev L : ℕ → List ℕ
    L = turned_by k (λ i. years_by positions leap (z₀ + i))

    -- the days before the first year
    abbrev S : ℕ
    S = start (years_by positions leap) z₀ + total (take k (years_by positions leap z₀))

    pub first_is : S ≡ f z₀ + before k
    first_is = omega (arith, starts z₀, days_before z₀ k small)

    pub turned_positions : (i : ℕ) → length (L i) ≡ count
    turned_positions i = T.positions M count counts z₀ k (omega arith) i

    -- its years have as many days
    has_days : (i : ℕ) → 1 ≤ total (L i)
    unfolding start
    has_days i =
        let e : z₀ + suc i ≡ suc (z₀ + i) = omega arith in
        let a = T.starts M count counts z₀ k (omega arith) i in
        let b = rw e at (T.starts M count counts z₀ k (omega arith) (suc i)) in
        omega (arith, a, b, days_before (z₀ + i) k small, days_before (suc (z₀ + i)) k small, year_days_lem (z₀ + i))

    -- position p of year i is position q of year z, which is the next where w is 1
    At : ℕ → ℕ → ℕ → Type 0
    At i p w =
        let z = z₀ + i + w in
        let q = p + k - count * w in
        (start L i + total (take p (L i)) + S ≡ f z + before q) × (get_or (L i) p 0 ≡ get_or (M z) q 0)

    same_year : (i p : ℕ) → p + k < count → At i p 0
    unfolding At
    same_year i p h =
        let x = T.before_turn M count counts z₀ k (omega arith) i p h in
        let ez : z₀ + i + 0 ≡ z₀ + i = omega arith in
        let eq : p + k - count * 0 ≡ p + k = omega arith in
        rw (ez, eq) (omega (arith, x.0, starts (z₀ + i), days_before (z₀ + i) (p + k) h), x.1)

    next_year : (i p : ℕ) → p < count → count ≤ p + k → At i p 1
    unfolding At
    next_year i p l h =
        let x = T.after_turn M count counts z₀ k (omega arith) i p (p + k - count) (omega arith) (omega arith) in
        let ez : z₀ + i + 1 ≡ suc (z₀ + i) = omega arith in
        let eq : p + k - count * 1 ≡ p + k - count = omega arith in
        rw (ez, eq) (omega (arith, x.0, starts (suc (z₀ + i)), days_before (suc (z₀ + i)) (p + k - count) (omega arith)), x.1)

    pub turned_at : (i p : ℕ) → p < count → let w = cond {A = ℕ} (ltb (p + k) count) 0 1 in let z = z₀ + i + w in let q = p + k - count * w in
        (start L i + total (take p (L i)) + S ≡ f z + before q) × (get_or (L i) p 0 ≡ get_or (years_by positions leap z) q 0)
    unfolding At
    turned_at i p h =
        cond_elim (At i p) (ltb (p + k) count) 0 1 (λ e. same_year i p (ltb-true (p + k) count e)) (λ e. next_year i p h (ltb-false (p + k) count e))

    -- the date of a day: Y is the calendar's first year, and F the year of the dates before position k of year 0
    module _ (Y F : ℤ) (year-0 : year_at F (suc z₀) ≡ Y) where
      year_is : (i : ℕ) → year_at F (suc z₀ + i) ≡ year_at Y i
      year_is i = sym (+ℤ_assoc F (pos (suc z₀)) (pos i)) ∙ ap (λ (x : ℤ). x +ℤ pos i) year-0

      pub turned_date : (n z rest : ℕ) → f z + rest ≡ n + S → rest < 365 + cond (leap z) 1 0 → (y : ℤ) (m d : ℕ) → DateIn count before position F k z rest y m d
          → DateIs L Y n y m d
      turned_date n z rest h r y m d x = go (dec_lt q k)
        where
          q : ℕ
          q = position rest

          e : ℕ
          e = rest - before q

          in_it : (q < count) × (before q ≤ rest) × (rest - before q < get_or (M z) q 0)
          in_it = placed_in z rest (omega (arith, year_days_lem z))

          b : total (take q (M z)) ≡ before q
          b = days_before z q in_it.0

          nb : (z₀ ≤ z) × (q < k → z₀ < z)
          nb = T.not_before M count counts z₀ k (omega arith) z q e (omega (arith, starts z, b, in_it.1)) in_it.2

          go : Dec (q < k) → DateIs L Y n y m d
          go (yes l) =
              let g = x.soon l in
              let o : z₀ < z = nb.1 l in
              let i : ℕ = z - suc z₀ in
              let t = T.after_turn M count counts z₀ k (omega arith) i (q + count - k) q (omega arith) l in
              let ez : suc (z₀ + i) ≡ z = omega arith in
              let u = rw ez at t in
              let ey : suc z₀ + i ≡ z = omega arith in
              date_parts L has_days Y n i (q + count - k) e y m d (omega (arith, u.0, starts z, b, in_it.1)) (omega (arith, u.1, in_it.2))
              (g.0 ∙ ap (year_at F) (sym ey) ∙ year_is i) (omega (arith, g.1)) x.day
          go (no l) =
              let g = x.late (omega arith) in
              let i : ℕ = z - z₀ in
              let w : k ≤ q = omega arith in
              let t = T.before_turn M count counts z₀ k (omega arith) i (q - k) (omega (arith, in_it.0)) in
              let ez : z₀ + i ≡ z = omega (arith, nb.0) in
              let eq : q - k + k ≡ q = omega arith in
              let u = rw (ez, eq) at t in
              let ey : suc z₀ + i ≡ z + 1 = omega arith in
              date_parts L has_days Y n i (q - k) e y m d (omega (arith, u.0, starts z, b, in_it.1)) (omega (arith, u.1, in_it.2))
              (g.0 ∙ ap (year_at F) (sym ey) ∙ year_is i) (omega (arith, g.1)) x.day
