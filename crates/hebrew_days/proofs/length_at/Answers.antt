use Rattle.std.proofs.Common.{arith, rules}
use Rattle.counting.specs.Answers.{years}
use Rattle.calendar_rules.specs.Calendars.{hebrew}
use Rattle.months.proofs.Dates.{no_length}
use Rattle.months.proofs.Hebrew.{hebrew_positions, hebrew_length}
use Rattle.hebrew_days.proofs.length_at.Goals as goal

pub returns-then-p-gt12 : goal.returns-then-p-gt12
returns-then-p-gt12 c = no_length (years hebrew) c.args.i c.args.p (omega (arith, hebrew_positions c.args.i))

pub returns : goal.returns
returns c = let e = hebrew_length c.args.i c.args.p _ _ _ (rw c.year_after-year.ensures at c.year_after-year.result.is_year) in rw (← e) (search rules)
