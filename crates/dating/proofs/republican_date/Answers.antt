use Rattle.std.proofs.Common.{arith}
use mathlib.Core.Logic.{inr}
use Rattle.counting.specs.Answers.{years}
use Rattle.calendar_rules.specs.Calendars.{republican}
use Rattle.calendar_rules.proofs.Ends.{listed_7}
use Rattle.asking.proofs.Answers.{to_last}
use Rattle.dating.proofs.republican_date.Goals as goal

pub returns-then-last_day-from : goal.returns-then-last_day-from
returns-then-last_day-from c = inr (omega (arith, c.last_day.ensures.1 republican listed_7))

-- an end does not change the years
pub returns : goal.returns
unfolding years
returns c = to_last republican _ (omega (arith, c.last_day.ensures.1 republican listed_7)) c.coptic_date.ensures
