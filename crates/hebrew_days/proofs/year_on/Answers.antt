use Rattle.std.proofs.Common.{◌≡◌, ◌-◌, subst, sym, arith}
use Rattle.hebrew.proofs.Calendar.{YearOf}
use Rattle.hebrew.proofs.Estimate.{estimate, estimate_right, estimate_high}
use Rattle.hebrew_days.proofs.year_on.Goals as goal

pub overflow_sub-i-then-day-year : goal.overflow_sub-i-then-day-year
unfolding estimate
overflow_sub-i-then-day-year c =
    let x = rw c.year_after-year.ensures at c.year_after-year.result.is_year in
    omega (arith, (estimate_high c.args.day (omega arith) (omega (arith, x.begins))).0)

pub returns-then-day-year : goal.returns-then-day-year
unfolding estimate
returns-then-day-year c =
    let day = c.args.day in
    let x = rw c.year_after-year.ensures at c.year_after-year.result.is_year in
    let g = estimate_high day (omega arith) (omega (arith, x.begins)) in
    let e : estimate day - 1 ≡ c.year_after.result.number = omega (arith, g.0, c.year_after.ensures) in
    subst (YearOf day) e g.1

pub returns : goal.returns
unfolding estimate
returns c =
    let day = c.args.day in
    let x = rw c.year_after-year.ensures at c.year_after-year.result.is_year in
    subst (YearOf day) (sym c.year_after-year.ensures) (estimate_right day (omega arith) (omega (arith, x.begins)))
