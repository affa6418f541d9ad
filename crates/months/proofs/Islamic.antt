-- Years of 30 and 29 days in turn: a position of a year and the date of a day, by the formulas that code works out.
use mathlib.Core.Path.{◌≡◌, refl, sym, ap, ◌∙◌}
use mathlib.Core.Bool.{Bool, true, false, cond}
use mathlib.Core.List.{List}
use Prim.Native.Nat.{ℕ, min, ◌+◌, ◌-◌, ◌*◌, ◌/◌, ◌%◌, ◌≤◌}
use native.Mathlib.Omega.{arith}
use lib.Dec.{eqb, leb, ltb}
use lib.IntN.{ℤ, pos}
use lib.ListN.{length, take, get_or}
use borrow.Author.Tests.{ltb-true, ltb-false}
use Rattle.basics.specs.Every.{every}
use Rattle.basics.proofs.Cases.{cond_elim}
use Rattle.lines.specs.Marks.{mark_at}
use Rattle.counting.specs.Calendar.{total}
use Rattle.counting.specs.Years.{year_at}
use Rattle.counting.specs.Answers.{years}
use Rattle.calendar_rules.specs.Calendars.{in_turn}
use Rattle.months.specs.Leap.{Common, islamic_leap_at}
use Rattle.months.specs.Parts.{MonthOf, DateIs, length_at, islamic_from}
use Rattle.months.proofs.Years.{islamic_start, islamic_in, days_by}
use Rattle.months.proofs.Rows.{islamic_row}
use Rattle.months.proofs.ByLine.{before_mark}
use Rattle.months.proofs.Lines.{turn_line}
use Rattle.months.proofs.Dates.{line_date, by_test}

pub held : (q : ℕ) → cond (ltb q 11) q 11 ≡ min q 11
held q = cond_elim (λ (k : ℕ). k ≡ min q 11) (ltb q 11) q 11 (λ h. omega (arith, ltb-true q 11 h)) (λ h. omega (arith, ltb-false q 11 h))

-- the test as code has it, from the sum that the quotient is taken of
abbrev leap : ℕ → Bool
leap i = leb 19 ((10631 * i + 14) % 30)

leap_is : (i : ℕ) → islamic_leap_at i ≡ leap i
leap_is i = let e : (11 * i + 14) % 30 ≡ (10631 * i + 14) % 30 = omega arith in ap (leb 19) e

module _ (first : ℕ) where
  lengths_of : (i : ℕ) → years (islamic_from first) i ≡ in_turn (leap i)
  lengths_of i = islamic_row first i ∙ ap in_turn (leap_is i)

  pub islamic_positions : (i : ℕ) → length (years (islamic_from first) i) ≡ 12
  islamic_positions i = ap length (islamic_row first i)

  islamic_common : Common 354 in_turn
  unfolding total
  islamic_common = record { common = refl; leap = refl }

  islamic_days : (i : ℕ) → total (years (islamic_from first) i) ≡ 354 + cond (islamic_leap_at i) 1 0
  islamic_days i = ap total (islamic_row first i) ∙ days_by islamic_common (islamic_leap_at i)

  lengths_12 : (t : Bool) → every (λ p. eqb (cond (eqb p 11) (cond t 30 29) (30 - p % 2)) (get_or (in_turn t) p 0)) 12 ≡ true
  unfolding every
  lengths_12 true = refl
  lengths_12 false = refl

  pub islamic_length : (i p : ℕ) → p ≤ 11 → cond (eqb p 11) (cond (leap i) 30 29) (30 - p % 2) ≡ length_at (islamic_from first) i p
  islamic_length i p h =
      let t = leap i in
      by_test (λ p. cond (eqb p 11) (cond t 30 29) (30 - p % 2)) (λ p. get_or (in_turn t) p 0) 12 (lengths_12 t) p (omega arith)
      ∙ ap (λ (l : List ℕ). get_or l p 0) (sym (lengths_of i))

  pub islamic_month : (i p days : ℕ) → p ≤ 11 → days ≡ length_at (islamic_from first) i p
      → MonthOf (islamic_from first) i p (first + (10631 * i + 14) / 30 + (59 * p + 1) / 2) days
  unfolding mark_at
  islamic_month i p days h e =
      let t : total (take p (years (islamic_from first) i)) ≡ total (take p (in_turn (leap i))) = ap (λ (l : List ℕ). total (take p l)) (lengths_of i) in
      let b = before_mark (turn_line (leap i)) p h in
      record { length_is = e; begins = λ k. omega (arith, islamic_start (years (islamic_from first)) islamic_days i) }

  pub islamic_date : (n : ℕ) (y : ℤ) (m d : ℕ)
      → let rest = (30 * n + 15) % 10631 / 30 in
      let p = cond (ltb (2 * rest / 59) 11) (2 * rest / 59) 11 in
      y ≡ year_at (pos 1) ((30 * n + 15) / 10631) → m ≡ p + 1 → d ≡ rest - (59 * p + 1) / 2 + 1 → DateIs (years (islamic_from first)) (pos 1) n y m d
  unfolding mark_at
  islamic_date n y m d ey em ed =
      let L = years (islamic_from first) in
      let i : ℕ = (30 * n + 15) / 10631 in
      let rest : ℕ = (30 * n + 15) % 10631 / 30 in
      let q : 2 * rest / 59 ≡ (2 * rest + (2 - 1 - 1)) / 59 = omega arith in
      line_date L (λ i. omega (arith, islamic_days i)) (pos 1) n i rest (cond (ltb (2 * rest / 59) 11) (2 * rest / 59) 11) (in_turn (leap i))
      (lengths_of i) (turn_line (leap i)) (islamic_in L islamic_days n)
      (omega (arith, islamic_start L islamic_days i)) (held (2 * rest / 59) ∙ ap (λ (k : ℕ). min k 11) q) y m d ey em ed
