use mathlib.Core.Path.{◌≡◌, refl, subst, ◌∙◌}
use mathlib.Core.Bool.{Bool, true, false, ◌||◌}
use Prim.Native.Nat.{ℕ, ◌-◌}
use native.Mathlib.Omega.{arith}
use lib.Dec.{eqb, ltb}
use lib.IntN.{ℤ, negsuc}
use borrow.Author.Tests.{eqb-true, eqb-false, ltb-true}
use Rattle.basics.proofs.Cases.{neither}
use Rattle.counting.specs.Answers.{year_out}
use Rattle.counting.specs.Answers as A
use Rattle.counting.specs.Years.{years_from}
use Rattle.calendar_rules.specs.Calendars.{gregorian, lookup, calendar}
use Rattle.months.specs.Parts.{length_at, PackedAt}
use Rattle.months.proofs.Dates.{no_length}
use Rattle.months.proofs.MarchDates.{gregorian_positions}
use Rattle.asking.specs.Steps.{none_number, packed_none}
use Rattle.asking.proofs.Arms.{arm}
use Rattle.asking.proofs.Since.{inside}
use Rattle.asking.proofs.Answers.{Nowhere, day_none, nowhere_year, nowhere_0, nowhere_zero, YearIn, packed_there}
use Rattle.numbering.proofs.Years.{taken, left, years}
use Rattle.numbering.proofs.gregorian_day.Goals as goal

-- a month that the calendar does not have
no_month_there : (y : ℤ) (m : ℕ) → (eqb m 0 || ltb 12 m) ≡ true → Nowhere 11 y m
unfolding calendar lookup
no_month_there y m t = go (eqb m 0) refl t
  where
    go : (z : Bool) → eqb m 0 ≡ z → (z || ltb 12 m) ≡ true → Nowhere 11 y m
    go true e t = nowhere_0 11 y m (eqb-true m 0 e)
    go false e t = nowhere_zero 11 y m (arm 11 (λ K. year_out K y ≡ false → length_at K (years_from K.first_year y) (m - 1) ≡ 0) refl refl
        (λ f. no_length (A.years gregorian) (years_from (negsuc 4711) y) (m - 1)
        (omega (arith, gregorian_positions (years_from (negsuc 4711) y), ltb-true 12 m t))))

pub returns-then-month : goal.returns-then-month
unfolding none_number calendar lookup
returns-then-month c =
    let y = c.args.year in
    let i = inside y (taken c.ranges.year c.year_inside.ensures c.if-year_inside.true) in
    let n : 12884901888 ≡ packed_none 11 y = rw (i.not_early, i.not_late) refl in
    c.refused.ensures ∙ n ∙ day_none 11 y c.args.month (no_month_there y c.args.month c.if-month.true) c.args.day

pub returns-then-year_inside : goal.returns-then-year_inside
unfolding calendar lookup
returns-then-year_inside c =
    let y = c.args.year in
    let i = inside y (taken c.ranges.year c.year_inside.ensures c.if-year_inside.true) in
    let s = years c.ranges.year c.year_inside.ensures c.if-year_inside.true c.since.ensures in
    let x : YearIn 11 y = record { calendar = gregorian; listed = record { row = refl }; inside = rw (i.not_early, i.not_late) refl } in
    packed_there x c.args.month refl c.args.day c.gregorian_day.result.number (eqb-false _ _ (neither _ _ c.if-month.false).0)
    (subst (λ (n : ℕ). PackedAt gregorian n (c.args.month - 1) c.args.day c.gregorian_day.result.number) s.years c.gregorian_day.ensures)

pub returns : goal.returns
unfolding none_number calendar lookup
returns c =
    let y = c.args.year in
    let t = left c.ranges.year c.year_inside.ensures c.if-year_inside.false in
    let n : 8589934592 ≡ packed_none 11 y = rw t refl in
    c.refused-2.ensures ∙ n ∙ day_none 11 y c.args.month (nowhere_year 11 y c.args.month t) c.args.day
