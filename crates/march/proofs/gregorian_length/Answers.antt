use native.Mathlib.Omega.{arith}
use Rattle.counting.specs.Answers.{years}
use Rattle.calendar_rules.specs.Calendars.{gregorian}
use Rattle.months.specs.Leap.{gregorian_long}
use Rattle.months.proofs.Years.{one_more}
use Rattle.months.proofs.Dates.{no_length}
use Rattle.months.proofs.MarchDates.{gregorian_positions, gregorian_month, length_small}
use Rattle.march.proofs.gregorian_length.Goals as goal

pub returns-then-p-gt11 : goal.returns-then-p-gt11
returns-then-p-gt11 c = no_length (years gregorian) c.args.i c.args.p (omega (arith, gregorian_positions c.args.i))

pub returns : goal.returns
returns c =
    rw (
      c.month_length.ensures,
      c.extra_days.ensures.0,
      one_more (gregorian_long c.month_of-at.result.year) 28,
      c.month_of-at.ensures.month,
      c.month_of-at.ensures.year,
    ) ((length_small _ _).0, (gregorian_month c.args.i c.args.p (omega arith)).length_is)
