-- Years from March: their shape; and of the Julian kind where one begins, the year of a day, and the calendars whose years begin later in them.
use mathlib.Core.Path.{◌≡◌, refl, sym, ap, ◌∙◌}
use mathlib.Core.Bool.{Bool, true, false, cond}
use Prim.Native.Nat.{ℕ, zero, suc, min, ◌+◌, ◌-◌, ◌*◌, ◌/◌, ◌%◌, ◌≤◌, ◌<◌}
use native.Mathlib.Omega.{arith}
use lib.Dec.{eqb, ltb}
use lib.ListN.{get_or}
use borrow.Author.Tests.{eqb-true, eqb-false}
use Rattle.basics.specs.Every.{every}
use Rattle.basics.proofs.Cases.{cond_elim}
use Rattle.lines.specs.Marks.{mark_at}
use Rattle.counting.specs.Calendar.{total, start}
use Rattle.counting.proofs.Totals.{total_take_suc}
use Rattle.counting.specs.Answers.{Calendar, years}
use Rattle.calendar_rules.specs.Calendars.{from_september, from_october, from_january, macedonian, syrian, julian}
use Rattle.months.specs.Lines.{turned_by}
use Rattle.months.specs.Leap.{years_by}
use Rattle.months.specs.March.{from_march, month_length, march_years, julian_long, julian_start, march_before, march_of}
use Rattle.months.specs.Parts.{MonthIs}
use Rattle.months.proofs.Years.{flag}
use Rattle.months.proofs.Rows.{macedonian_row, syrian_row, julian_row}
use Rattle.months.proofs.ByLine.{before_mark, by_line_lem}
use Rattle.months.proofs.Lines.{march_line}
use Rattle.months.proofs.Dates.{by_test}
use Rattle.months.proofs.LeapLast.{Shape, wrapped, year_days_lem, first_is, turned_at}

-- ---- any rule of leap years

pub march_shape : Shape from_march 12 march_before march_of
unfolding total mark_at
march_shape = record {
  counted = λ t. refl;
  days = λ t. days t;
  before_is = λ t q h. before_mark (march_line t) q (omega arith);
  place = λ t rest h. place t rest h;
}
  where
    days : (t : Bool) → total (from_march t) ≡ 365 + cond t 1 0
    days true = refl
    days false = refl

    -- the position of a day of the year, by the line
    place : (t : Bool) (rest : ℕ) → rest < total (from_march t)
        → let q = march_of rest in (q < 12) × (march_before q ≤ rest) × (rest - march_before q < get_or (from_march t) q 0)
    place t rest h =
        let q : ℕ = march_of rest in
        let l : rest < 366 = omega (arith, days t, flag t) in
        let e : min ((5 * rest + (5 - 1 - 2)) / 153) 11 ≡ q = omega arith in
        let x = rw e at (by_line_lem (march_line t) rest h) in
        let b = before_mark (march_line t) q (omega (arith, x.inside)) in
        (x.inside, omega (arith, x.begun), omega (arith, x.begun, x.still, total_take_suc q (from_march t)))

lengths : (t : Bool) → every (λ q. eqb (month_length t q) (get_or (from_march t) q 0)) 12 ≡ true
unfolding every
lengths true = refl
lengths false = refl

module _ (leap : ℕ → Bool) where
  pub length_is : (z q : ℕ) → q < 12 → month_length (leap z) q ≡ get_or (march_years leap z) q 0
  unfolding years_by
  length_is z q h = by_test (month_length (leap z)) (λ q. get_or (from_march (leap z)) q 0) 12 (lengths (leap z)) q h

  year_total : (z : ℕ) → total (march_years leap z) ≡ 365 + cond (leap z) 1 0
  year_total = year_days_lem march_shape leap

  -- a calendar whose years begin at position k, the first in year z₀; base is what the day numbers are less than the days from March of -4800
  module _ (f : ℕ → ℕ) (starts : (z : ℕ) → start (march_years leap) z ≡ f z) (z₀ k base : ℕ) (small : k < 12) where
    pub turned_month : base ≤ f z₀ + march_before k → (i p : ℕ) → p < 12
        → let w = cond {A = ℕ} (ltb (p + k) 12) 0 1 in let z = z₀ + i + w in let q = p + k - 12 * w in
        MonthIs (turned_by k (λ i. march_years leap (z₀ + i))) (f z₀ + march_before k - base) i p (f z + march_before q - base) (month_length (leap z) q)
    turned_month b i p h =
        let w : ℕ = cond (ltb (p + k) 12) 0 1 in
        let z : ℕ = z₀ + i + w in
        let q : ℕ = p + k - 12 * w in
        let x = turned_at march_shape leap f starts z₀ k small i p h in
        record {
          length_is = length_is z q (wrapped 12 p k h small).1 ∙ sym x.1;
          begins = λ j. omega (arith, x.0, first_is march_shape leap f starts z₀ k small);
        }

-- ---- Julian

up_4 : (z : ℕ) → suc z / 4 ≡ z / 4 + cond (julian_long z) 1 0
unfolding julian_long
up_4 z = cond_elim (λ (n : ℕ). suc z / 4 ≡ z / 4 + n) (eqb (z % 4) 3) 1 0 (λ h. omega (arith, eqb-true (z % 4) 3 h)) (λ h. omega (arith, eqb-false (z % 4) 3 h))

pub julian_start_lem : (z : ℕ) → start (march_years julian_long) z ≡ julian_start z
unfolding start
julian_start_lem zero = refl
julian_start_lem (suc z) = omega (arith, julian_start_lem z, year_total julian_long z, up_4 z)

-- the year of day N, and the day of the year
pub julian_day : (N : ℕ)
    → let z = (4 * N + 3) / 1461 in let rest = (4 * N + 3) % 1461 / 4 in (julian_start z + rest ≡ N) × (rest < 365 + cond (julian_long z) 1 0)
julian_day N =
    let z : ℕ = (4 * N + 3) / 1461 in
    let l : N < julian_start (suc z) = omega arith in
    (omega arith, omega (arith, up_4 z))

-- ---- the calendars that begin k months after March, the first in year z

abbrev pub Turns : (ℕ → Bool) → ℕ → ℕ → Calendar → Type 0
Turns long z k K = (i : ℕ) → turned_by k (λ i. march_years long (z + i)) i ≡ years K i

pub macedonian_turns : Turns julian_long 4489 6 macedonian
unfolding turned_by years_by julian_long
macedonian_turns i = let e : (4489 + i) % 4 ≡ (i + 1) % 4 = omega arith in ap (λ (x : ℕ). from_september (eqb x 3)) e ∙ sym (macedonian_row i)

pub syrian_turns : Turns julian_long 4489 7 syrian
unfolding turned_by years_by julian_long
syrian_turns i = let e : (4489 + i) % 4 ≡ (i + 1) % 4 = omega arith in ap (λ (x : ℕ). from_october (eqb x 3)) e ∙ sym (syrian_row i)

pub julian_turns : Turns julian_long 87 10 julian
unfolding turned_by years_by julian_long
julian_turns i = let e : (87 + i) % 4 ≡ (i + 3) % 4 = omega arith in ap (λ (x : ℕ). from_january (eqb x 3)) e ∙ sym (julian_row i)
