use mathlib.Core.Path.{subst, ap, ◌∙◌}
use Rattle.std.specs.Prelude.{Option}
use Prim.Native.Nat.{ℕ, ◌-◌, ◌*◌, ◌^◌}
use native.Mathlib.Omega.{arith}
use lib.IntN.{ℤ, negsuc}
use mir.Syntax.{w64}
use mir.ValLaws.{to_z-of_z}
use Rattle.counting.specs.Years.{year_at}
use Rattle.parts.specs.declared.Month.{Month}
use Rattle.parts.specs.Found.{MonthAt}
use Rattle.asking.specs.Steps.{Sought}
use Rattle.asking.proofs.Since.{Since}
use Rattle.asking.proofs.Answers.{day_none, nowhere_year, nowhere_0, not_there, no_such_day, found}
use Rattle.numbering.proofs.Years.{left, years}
use Rattle.numbering.proofs.other_day.Goals as goal

-- the position that was found, or not
month : {c : ℕ} {y : ℤ} {n : ℕ} (p : ℕ) {found : Option Month}
    → Since y n
    → Sought c (year_at (negsuc 4711) n) (λ K i. MonthAt K i p found) found
    → Sought c y (λ K i. MonthAt K i p found) found
month {c} {y} {n} p {found} s m = subst (λ (z : ℤ). Sought c z (λ K i. MonthAt K i p found) found) s.back m

pub returns-then-month-eq0 : goal.returns-then-month-eq0
returns-then-month-eq0 c =
    let n = c.args.calendar in
    c.refused.ensures
    ∙ ap (λ (k : ℕ). k * 2 ^ 32) (rw (to_z-of_z w64 c.args.year c.ranges.year) at c.no_month.ensures)
    ∙ day_none n c.args.year c.args.month (nowhere_0 n c.args.year c.args.month c.if-month-eq0.true) c.args.day

pub month_in-requires : goal.month_in-requires
month_in-requires c =
    (c.requires.0, c.requires.1, (years c.ranges.year c.year_inside.ensures c.if-year_inside.true c.since.ensures).few)

pub returns-in_default : goal.returns-in_default
returns-in_default c =
    let s = years c.ranges.year c.year_inside.ensures c.if-year_inside.true c.since.ensures in
    c.refused-in_default.ensures
    ∙ ap (λ (k : ℕ). k * 2 ^ 32) (rw (to_z-of_z w64 c.args.year c.ranges.year) at c.no_month-in_default.ensures)
    ∙ not_there c.args.month c.if-month-eq0.false c.args.day (month (c.args.month - 1) s c.in_default.ensures)

pub returns-then-day-m : goal.returns-then-day-m
returns-then-day-m c =
    let s = years c.ranges.year c.year_inside.ensures c.if-year_inside.true c.since.ensures in
    c.refused-then-day-m.ensures
    ∙ no_such_day c.args.month c.if-month-eq0.false c.args.day (month (c.args.month - 1) s c.in-Some.ensures) c.if-day-m.true

pub overflow_add-m : goal.overflow_add-m
overflow_add-m c =
    let s = years c.ranges.year c.year_inside.ensures c.if-year_inside.true c.since.ensures in
    let t = found c.args.month c.if-month-eq0.false c.args.day (month (c.args.month - 1) s c.in-Some.ensures) c.if-day-m.false in
    omega (arith, t.0, t.1, t.2)

pub returns-then-year_inside : goal.returns-then-year_inside
returns-then-year_inside c =
    let s = years c.ranges.year c.year_inside.ensures c.if-year_inside.true c.since.ensures in
    c.limited.ensures ∙ (found c.args.month c.if-month-eq0.false c.args.day (month (c.args.month - 1) s c.in-Some.ensures) c.if-day-m.false).3

pub returns : goal.returns
returns c =
    let n = c.args.calendar in
    let f = left c.ranges.year c.year_inside.ensures c.if-year_inside.false in
    c.refused-2.ensures
    ∙ ap (λ (k : ℕ). k * 2 ^ 32) (rw (to_z-of_z w64 c.args.year c.ranges.year) at c.no_month-2.ensures)
    ∙ day_none n c.args.year c.args.month (nowhere_year n c.args.year c.args.month f) c.args.day
