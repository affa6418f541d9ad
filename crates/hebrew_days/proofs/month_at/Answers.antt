use Rattle.std.proofs.Common.{ℕ, ◌+◌, ◌-◌, sym, ap, ◌∙◌, arith}
use Rattle.counting.specs.Answers.{years}
use Rattle.calendar_rules.specs.Calendars.{hebrew}
use Rattle.months.proofs.Dates.{no_length}
use Rattle.months.proofs.Hebrew.{hebrew_positions, hebrew_length, no_month_there, word_length, hebrew_month}
use Rattle.hebrew_days.proofs.month_at.Goals as goal

pub returns-then-p-gt12 : goal.returns-then-p-gt12
returns-then-p-gt12 c = no_length (years hebrew) c.args.i c.args.p (omega (arith, hebrew_positions c.args.i))

pub returns-then-none : goal.returns-then-none
returns-then-none c =
    let x = rw c.year_after-year.ensures at c.year_after-year.result.is_year in
    sym (hebrew_length c.args.i c.args.p _ _ _ x) ∙ no_month_there (omega arith) x c.args.p (omega arith) c.if-none.true

pub returns : goal.returns
returns c =
    let x = rw c.year_after-year.ensures at c.year_after-year.result.is_year in
    let e = c.month_of-q.ensures.0 in
    let here = rw (c.of-months.ensures, e) at c.before-here.ensures in
    let next = rw (c.of-months.ensures, e) at c.before-next.ensures in
    let w = word_length (omega arith) x c.args.p (omega arith) c.if-none.false in (
      omega (arith, here, next, w.0),
      hebrew_month c.args.i c.args.p _ _ _ _ _ (omega arith) x
          (ap (λ (k : ℕ). c.year_after-year.result.start + k) here)
          ((λ j. next j - here j) ∙ w.1),
    )
