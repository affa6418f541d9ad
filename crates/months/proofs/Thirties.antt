-- Years of twelve positions of 30 days and one of 5 or 6: a position of a year and the date of a day, by the formulas that code works out.
use mathlib.Core.Path.{◌≡◌, refl, sym, ap, ◌∙◌}
use mathlib.Core.Bool.{Bool, true, false, cond}
use mathlib.Core.List.{List}
use Prim.Native.Nat.{ℕ, ◌+◌, ◌*◌, ◌/◌, ◌%◌, ◌≤◌}
use native.Mathlib.Omega.{arith}
use lib.Dec.{eqb}
use lib.IntN.{ℤ, pos}
use lib.ListN.{length, take, get_or}
use Rattle.basics.specs.Every.{every}
use Rattle.lines.specs.Marks.{mark_at}
use Rattle.counting.specs.Calendar.{total}
use Rattle.counting.specs.Years.{year_at}
use Rattle.counting.specs.Answers.{years}
use Rattle.calendar_rules.specs.Calendars.{thirties_and5, thirties_and5or6}
use Rattle.months.specs.Leap.{Common, fourth_leap}
use Rattle.months.specs.Parts.{MonthOf, DateIs, length_at, plain_from, coptic_from}
use Rattle.months.proofs.Years.{plain_start, plain_in, fourth_start, fourth_in, days_by}
use Rattle.months.proofs.Rows.{plain_row, coptic_row}
use Rattle.months.proofs.ByLine.{before_mark}
use Rattle.months.proofs.Lines.{thirties_line, coptic_line}
use Rattle.months.proofs.Dates.{line_date, by_test}

-- ---- calendars 1 to 3

module _ (first : ℕ) where
  pub plain_positions : (i : ℕ) → length (years (plain_from first) i) ≡ 13
  plain_positions i = ap length (plain_row first i)

  plain_days : (i : ℕ) → total (years (plain_from first) i) ≡ 365
  unfolding total
  plain_days i = ap total (plain_row first i)

  lengths_1 : every (λ p. eqb (cond (eqb p 12) 5 30) (get_or (thirties_and5 false) p 0)) 13 ≡ true
  unfolding every
  lengths_1 = refl

  pub plain_length : (i p : ℕ) → p ≤ 12 → cond (eqb p 12) 5 30 ≡ length_at (plain_from first) i p
  plain_length i p h =
      by_test (λ p. cond (eqb p 12) 5 30) (λ p. get_or (thirties_and5 false) p 0) 13 lengths_1 p (omega arith)
      ∙ ap (λ (l : List ℕ). get_or l p 0) (sym (plain_row first i))

  pub plain_month : (i p days : ℕ) → p ≤ 12 → days ≡ length_at (plain_from first) i p → MonthOf (plain_from first) i p (first + 365 * i + 30 * p) days
  unfolding mark_at
  plain_month i p days h e =
      let t : total (take p (years (plain_from first) i)) ≡ total (take p (thirties_and5 false)) = ap (λ (l : List ℕ). total (take p l)) (plain_row first i) in
      let b = before_mark (thirties_line false) p h in
      record { length_is = e; begins = λ k. omega (arith, plain_start (years (plain_from first)) plain_days i) }

  pub plain_date : (n : ℕ) (y : ℤ) (m d : ℕ) → y ≡ year_at (pos 1) (n / 365) → m ≡ n % 365 / 30 + 1 → d ≡ n % 365 % 30 + 1
      → DateIs (years (plain_from first)) (pos 1) n y m d
  unfolding mark_at
  plain_date n y m d ey em ed =
      let L = years (plain_from first) in
      line_date L (λ i. omega (arith, plain_days i)) (pos 1) n (n / 365) (n % 365) (n % 365 / 30) (thirties_and5 false)
      (plain_row first (n / 365)) (thirties_line false) (plain_in L plain_days n)
      (omega (arith, plain_start L plain_days (n / 365))) (omega arith) y m d ey em (omega arith)

-- ---- 5 to 7

module _ (first : ℕ) where
  pub coptic_positions : (i : ℕ) → length (years (coptic_from first) i) ≡ 13
  coptic_positions i = ap length (coptic_row first i)

  coptic_common : Common 365 thirties_and5or6
  unfolding total
  coptic_common = record { common = refl; leap = refl }

  coptic_days : (i : ℕ) → total (years (coptic_from first) i) ≡ 365 + cond (fourth_leap 1 i) 1 0
  coptic_days i = ap total (coptic_row first i) ∙ days_by coptic_common (fourth_leap 1 i)

  lengths_5 : (t : Bool) → every (λ p. eqb (cond (eqb p 12) (cond t 6 5) 30) (get_or (thirties_and5or6 t) p 0)) 13 ≡ true
  unfolding every
  lengths_5 true = refl
  lengths_5 false = refl

  pub coptic_length : (i p : ℕ) → p ≤ 12 → cond (eqb p 12) (cond (fourth_leap 1 i) 6 5) 30 ≡ length_at (coptic_from first) i p
  coptic_length i p h =
      let t = fourth_leap 1 i in
      by_test (λ p. cond (eqb p 12) (cond t 6 5) 30) (λ p. get_or (thirties_and5or6 t) p 0) 13 (lengths_5 t) p (omega arith)
      ∙ ap (λ (l : List ℕ). get_or l p 0) (sym (coptic_row first i))

  pub coptic_month : (i p days : ℕ) → p ≤ 12 → days ≡ length_at (coptic_from first) i p
      → MonthOf (coptic_from first) i p (first + (1461 * i + 1) / 4 + 30 * p) days
  unfolding mark_at
  coptic_month i p days h e =
      let t : total (take p (years (coptic_from first) i)) ≡ total (take p (thirties_and5or6 (fourth_leap 1 i))) =
      ap (λ (l : List ℕ). total (take p l)) (coptic_row first i) in
      let b = before_mark (coptic_line (fourth_leap 1 i)) p h in
      record { length_is = e; begins = λ k. omega (arith, fourth_start (years (coptic_from first)) 1 (omega arith) coptic_days i) }

  pub coptic_date : (n : ℕ) (y : ℤ) (m d : ℕ) → y ≡ year_at (pos 1) ((4 * n + 2) / 1461) → m ≡ (4 * n + 2) % 1461 / 4 / 30 + 1
      → d ≡ (4 * n + 2) % 1461 / 4 % 30 + 1 → DateIs (years (coptic_from first)) (pos 1) n y m d
  unfolding mark_at
  coptic_date n y m d ey em ed =
      let L = years (coptic_from first) in
      let i : ℕ = (4 * n + 2) / 1461 in
      let rest : ℕ = (4 * n + 2) % 1461 / 4 in
      line_date L (λ i. omega (arith, coptic_days i)) (pos 1) n i rest (rest / 30) (thirties_and5or6 (fourth_leap 1 i))
      (coptic_row first i) (coptic_line (fourth_leap 1 i)) (fourth_in L 1 (omega arith) coptic_days n)
      (omega (arith, fourth_start L 1 (omega arith) coptic_days i)) (omega arith) y m d ey em (omega arith)
